-- How changes of marks follow one another.
use Rattle.std.proofs.Common.{◌≡◌, ℕ, Bool, true, false, not, ◌&&◌, ◌||◌, eqb, List, is_some, Some, None, Option, sym, refl, ap, ◌∙◌, arith, eqb-true}
use Rattle.std.proofs.lemmas.Bool.Decides.{nat_tests}
use Rattle.grammar.specs.Model.{Grammar}
use Rattle.tour.specs.Trees.{Instance}
use Rattle.places.specs.Marks.{owes}
use Rattle.places.specs.Places.{at, used, owed_at, marks_in, parent_in, parent_at, cell_of, table}
use Rattle.places.specs.declared.node.Node.{Node}
use Rattle.places.proofs.Digits.{owes_zero}
use Rattle.exchange.specs.Waking.{bare, Remarked, Woke, Slept, is_at}

-- nothing is owed at a free place
pub free_owes : (ps : List (Option Node)) (p a : ℕ) → at ps p ≡ None → owed_at ps (p, a) ≡ false
free_owes ps p a e = ap (λ x. owes (marks_in x) a) e ∙ owes_zero a

pub slept_free : (ps : List (Option Node)) (p a : ℕ) → at ps p ≡ None → Slept ps ps (is_at p a)
slept_free ps p a e = record { long = refl; nodes = λ q. refl; marks = λ q b. by q b (eqb q p) refl }
  where
    by : (q b : ℕ) (t : Bool) → eqb q p ≡ t → owed_at ps (q, b) ≡ (owed_at ps (q, b) && not (is_at p a (q, b)))
    by q b true h = let z : owed_at ps (q, b) ≡ false = ap (λ k. owed_at ps (k, b)) (eqb-true q p h) ∙ free_owes ps p b e in rw z refl
    by q b false h = rw h (grind (arith, nat_tests))

-- what does not look at the marks is the same
pub bare_same : {X : Type 0} (f : Option Node → X) → ((x : Option Node) → f (bare x) ≡ f x) → (x y : Option Node) → bare y ≡ bare x → f y ≡ f x
bare_same f same x y e = sym (same y) ∙ ap f e ∙ same x

used_bare : (x : Option Node) → is_some (bare x) ≡ is_some x
used_bare None = refl
used_bare (Some n) = refl

pub remarked_used : {owed : Instance → Bool → Bool} (ps qs : List (Option Node)) (p : ℕ) → Remarked ps qs owed → used qs p ≡ used ps p
remarked_used ps qs p w = bare_same is_some used_bare (at ps p) (at qs p) (w.nodes p)

-- one change after another
pub woke_more : (ps qs rs : List (Option Node)) (P Q R : Instance → Bool) → ((x : Instance) → R x ≡ (P x || Q x)) → Woke ps qs P → Woke qs rs Q → Woke ps rs R
woke_more ps qs rs P Q R e v w = record {
  long = w.long ∙ v.long;
  nodes = λ p. w.nodes p ∙ v.nodes p;
  marks = λ p a.
      let m = w.marks p a in
      let n = v.marks p a in
      let u = remarked_used ps qs p v in
      let f = e (p, a) in
      grind (arith, nat_tests);
}

pub woke_as : (ps qs : List (Option Node)) (P Q : Instance → Bool) → ((x : Instance) → P x ≡ Q x) → Woke ps qs P → Woke ps qs Q
woke_as ps qs P Q e w = record {
  long = w.long;
  nodes = w.nodes;
  marks = λ p a. w.marks p a ∙ ap (λ b. owed_at ps (p, a) || (used ps p && b)) (e (p, a));
}

pub woke_none : (ps : List (Option Node)) → Woke ps ps (λ x. false)
woke_none ps = record { long = refl; nodes = λ p. refl; marks = λ p a. grind (arith, nat_tests) }

cell_bare : (g : Grammar) (x : Option Node) → cell_of g (bare x) ≡ cell_of g x
cell_bare g None = refl
cell_bare g (Some n) = refl

-- the nodes stand as they did
pub remarked_table : {owed : Instance → Bool → Bool} (g : Grammar) (ps qs : List (Option Node)) → Remarked ps qs owed → (p : ℕ) → table g qs p ≡ table g ps p
remarked_table g ps qs w p = bare_same (cell_of g) (cell_bare g) (at ps p) (at qs p) (w.nodes p)

parent_bare : (x : Option Node) → parent_in (bare x) ≡ parent_in x
parent_bare None = refl
parent_bare (Some n) = refl

pub remarked_parent : {owed : Instance → Bool → Bool} (ps qs : List (Option Node)) → Remarked ps qs owed → (p : ℕ) → parent_at qs p ≡ parent_at ps p
remarked_parent ps qs w p = bare_same parent_in parent_bare (at ps p) (at qs p) (w.nodes p)
