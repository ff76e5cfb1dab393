-- What the instructions of a plan name is there.
use Rattle.tour.proofs.Accepted.{sound_accepted}
use Rattle.std.proofs.Common.{◌≡◌, ℕ, zero, suc, ◌<◌, ◌≤◌, true, List, [], ◌∷◌, length, get_or, is_some, Some, None, Option, sym, refl, ap, ◌∙◌, subst, inl, inr, arith}
use Rattle.std.specs.List.{slice_get}
use Rattle.grammar.specs.Model.{Grammar, Rule}
use Rattle.grammar.specs.declared.terms.Instruction.TheVariants.{Evaluate, Visit}
use Rattle.places.specs.Places.{at, used, arity, table, cell_of}
use Rattle.places.specs.Shape.{SoundPlaces, ChildThere}
use Rattle.places.specs.declared.node.Node.{Node}
use Rattle.tour.specs.Rules.{rule, occurs}
use Rattle.tour.proofs.Ruled.{Defines}
use Rattle.tour.proofs.Ruled.Defines.{own, given}
use Rattle.tour.specs.Runs.{In}
use Rattle.tour.specs.Trees.{at_of}
use Rattle.tour.specs.Walks.{plan_at}
use Rattle.sheet.specs.Meaning.{Sound}
use Rattle.walk.proofs.Bounds.{few_right, few_attributes}
use Rattle.walk.proofs.Looking.{child_at, kids_count}

pub in_nth : {X : Type 0} (xs : List X) (n : ℕ) (x : X) → slice_get xs n ≡ Some x → In x xs
in_nth [] n x e = let z : ◌≡◌ {A = ℕ} 0 1 = cc in absurd (omega arith)
in_nth (y ∷ xs) zero x e = inl (cc)
in_nth (y ∷ xs) (suc n) x e = inr (in_nth xs n x e)

-- the node at a used place
pub node_of : (o : Option Node) → is_some o ≡ true → (n : Node) × (o ≡ Some n)
node_of None e = let z : ◌≡◌ {A = ℕ} 0 1 = cc in absurd (omega arith)
node_of (Some n) e = (n, refl)

child_there : (g : Grammar) (p k x : ℕ) (o : Option Node) → ChildThere g p k x o → is_some o ≡ true
child_there g p k x None h = absurd h
child_there g p k x (Some m) h = refl

module _ (g : Grammar) (ps : List (Option Node)) where
  -- a child's place is used
  pub child_used : (p k : ℕ) → SoundPlaces g ps → used ps p ≡ true → k < length (table g ps p).kids → used ps (get_or (table g ps p).kids k 0) ≡ true
  child_used p k so u h =
      let n = node_of (at ps p) u in
      let l : k < arity g n.0.rule = omega (arith, kids_count g ps p n.0 n.1) in
      let c = (so.nodes p n.0 n.1).children_there k l in
      subst (λ z. used ps z ≡ true) (sym (child_at g ps p n.0 n.1 k l)) (child_there g p k (get_or (rule g n.0.rule).right k 0) (at ps (get_or n.0.children k 0)) c)

  -- so is the place of any occurrence
  pub occurrence_used : (p o : ℕ) → SoundPlaces g ps → used ps p ≡ true → o ≤ length (table g ps p).kids → used ps (at_of p (table g ps p).kids o) ≡ true
  occurrence_used p zero so u h = u
  occurrence_used p (suc k) so u h = child_used p k so u h

  pub rule_used : (p : ℕ) → SoundPlaces g ps → used ps p ≡ true → (table g ps p).rule < length g.rules
  rule_used p so u =
      let n = node_of (at ps p) u in
      subst (λ o. (cell_of g o).rule < length g.rules) (sym n.1) (so.nodes p n.0 n.1).rule_there

  pub kids_right : (p : ℕ) → used ps p ≡ true → length (table g ps p).kids ≡ length (rule g (table g ps p).rule).right
  kids_right p u =
      let n = node_of (at ps p) u in
      kids_count g ps p n.0 n.1 ∙ ap (λ o. length (rule g (cell_of g o).rule).right) (sym n.1)

  pub few_kids : (p : ℕ) → Sound g → used ps p ≡ true → length (table g ps p).kids ≤ 4
  few_kids p w u = omega (arith, kids_right p u, few_right g w (table g ps p).rule)

  pub visit_names : (p n k j : ℕ) → Sound g → SoundPlaces g ps → used ps p ≡ true → slice_get (plan_at g (table g ps) p) n ≡ Some (Visit k j) → (1 ≤ k) × (k ≤ length (table g ps p).kids) × (1 ≤ j)
  visit_names p n k j w so u e =
      let v = ((sound_accepted g w).rules (table g ps p).rule (rule_used p so u)).0.visits_there k j (in_nth (plan_at g (table g ps) p) n (Visit k j) e) in
      (v.0, omega (arith, v.1, kids_right p u), v.2)

  defined : (ρ : Rule) (o a : ℕ) → Sound g → Defines g ρ o a → (o ≤ length ρ.right) × (a < 16)
  defined ρ o a w (own h) = (omega arith, omega (arith, h.0, few_attributes g w ρ.left))
  defined ρ o a w (given {k = k} l h) = (l, omega (arith, h.0, few_attributes g w (occurs ρ (suc k))))

  pub evaluate_names : (p o a : ℕ) → Sound g → SoundPlaces g ps → used ps p ≡ true → In (Evaluate o a) (plan_at g (table g ps) p) → (o ≤ length (table g ps p).kids) × (a < 16)
  evaluate_names p o a w so u e =
      let v = ((sound_accepted g w).rules (table g ps p).rule (rule_used p so u)).1.evaluates_only o a e in
      let d = defined (rule g (table g ps p).rule) o a w v in
      (omega (arith, d.0, kids_right p u), d.1)
