-- What becomes owed exists.
use Rattle.std.proofs.Common.{◌≡◌, ℕ, zero, suc, ◌<◌, ◌≤◌, Bool, true, false, ◌||◌, eqb, List, [], ◌∷◌, length, get_or, is_some, Some, None, Option, sym, refl, ap, ◌∙◌, subst, inl, inr, arith, eqb-true}
use Rattle.std.proofs.lemmas.Bool.{and_parts}
use Rattle.grammar.specs.Model.{Grammar}
use Rattle.grammar.specs.Tests.{some}
use Rattle.grammar.specs.declared.terms.Flow.{Flow}
use Rattle.grammar.specs.declared.terms.Flow.TheVariants.{Inherited, Synthesized}
use Rattle.sheet.specs.Meaning.{Sound, SoundEquation, scope_of_rule}
use Rattle.tour.specs.Rules.{rule, symbol, occurs}
use Rattle.tour.specs.Runs.{In}
use Rattle.tour.specs.Trees.{Instance, at_of}
use Rattle.tour.specs.Nodes.{Link}
use Rattle.tour.specs.Nodes.Link.{top, under}
use Rattle.tour.specs.Nodes.{flow_of}
use Rattle.places.specs.Places.{at, used, parent_at, arity, attributes, cell_of, table}
use Rattle.places.specs.Shape.{ChildThere, SoundPlaces}
use Rattle.places.specs.declared.node.Node.{Node}
use Rattle.exchange.specs.Takers.{takes_from, wakes, takers_among, takers_at, takers_above, takers_in, takers_of}
use Rattle.exchange.specs.Waking.{Woke, is_at}
use Rattle.exchange.specs.declared.taken.Taken.{Taken}
use Rattle.exchange.specs.declared.taken.Taken.TheVariants.{Attribute}
use Rattle.exchange.proofs.Awake.{all_in, link_parent}
use Rattle.exchange.proofs.Blocks.{node_there}
use Rattle.exchange.proofs.Keeping.{woke_sound}
use Rattle.exchange.proofs.Sheets.{defined_standing, rule_sound}
use Rattle.exchange.proofs.Soundness.{hangs}
use Rattle.exchange.proofs.Swapping.{link_is}
use Rattle.exchange.proofs.Targets.{kids_at}

pub some_true : {X : Type 0} (f : X → Bool) (xs : List X) → some f xs ≡ true → (x : X) × In x xs × (f x ≡ true)
some_true f [] h = let z : ◌≡◌ {A = ℕ} 0 1 = cc in absurd (omega arith)
some_true f (y ∷ ys) h = by (f y) refl (some_true f ys)
  where
    by : (b : Bool) → f y ≡ b → (some f ys ≡ true → (x : _) × In x ys × (f x ≡ true)) → (x : _) × In x (y ∷ ys) × (f x ≡ true)
    by true e later = (y, inl refl, e)
    by false e later = let r = later (sym (ap (λ b. b || some f ys) e) ∙ h) in (r.0, inr r.1, r.2)

module _ (g : Grammar) (sound : Sound g) (ps : List (Option Node)) (s : SoundPlaces g ps) where
  -- the symbol at an occurrence of the rule of a node
  pub symbol_at_lem : (p : ℕ) (n : Node) → at ps p ≡ Some n → (o : ℕ) → o ≤ arity g n.rule → (rule g (table g ps (at_of p (table g ps p).kids o)).rule).left ≡ occurs (rule g n.rule) o
  symbol_at_lem p n e zero h = ap (λ z. (rule g (cell_of g z).rule).left) e
  symbol_at_lem p n e (suc k) h =
      let l : k < arity g n.rule = omega arith in
      ap (λ c. (rule g (table g ps c).rule).left) (kids_at g ps p n e k l) ∙ by (at ps (get_or n.children k 0)) ((s.nodes p n e).children_there k l)
    where
      by : (x : Option Node) → ChildThere g p k (get_or (rule g n.rule).right k 0) x → (rule g (cell_of g x).rule).left ≡ get_or (rule g n.rule).right k 0
      by None c = absurd c
      by (Some m) c = c.symbol_is

  pub taker_there : (p : ℕ) (from : Taken) (x : Instance) → used ps p ≡ true → takers_at g (table g ps) p from x ≡ true → x.1 < attributes g (table g ps x.0).rule
  taker_there p from x h t =
      let n = node_there (at ps p) h in
      let r = n.0.rule in
      let T = table g ps in
      let place = at_of p (T p).kids in
      let there = (s.nodes p n.0 n.1).rule_there in
      let same : (T p).rule ≡ r = ap (λ z. (cell_of g z).rule) n.1 in
      let w = some_true (λ e. wakes place from e x) (rule g r).equations (subst (λ z. takers_among place from (rule g z).equations x ≡ true) same t) in
      let q = w.0 in
      let d = defined_standing g (rule g r) q.occurrence q.attribute (all_in (SoundEquation (scope_of_rule g.symbols (rule g r))) (rule g r).equations q w.1 (rule_sound g r sound there).equations_sound).target in
      let both = and_parts (is_at (place q.occurrence) q.attribute x) (some (takes_from from) q.arguments) w.2 in
      let parts = and_parts (eqb x.0 (place q.occurrence)) (eqb x.1 q.attribute) both.0 in
      let x0 : place q.occurrence ≡ x.0 = sym (eqb-true x.0 (place q.occurrence) parts.0) in
      let x1 : q.attribute ≡ x.1 = sym (eqb-true x.1 q.attribute parts.1) in
      let sym_at : (rule g (T x.0).rule).left ≡ occurs (rule g r) q.occurrence = ap (λ z. (rule g (T z).rule).left) (sym x0) ∙ symbol_at_lem p n.0 n.1 q.occurrence d.occurrence in
      subst (λ z. x.1 < length (symbol g z).attributes) (sym sym_at) (subst (λ a. a < length (symbol g (occurs (rule g r) q.occurrence)).attributes) x1 d.attribute)

  pub none_beyond : (these : Instance → Bool) → ((x : Instance) → these x ≡ true → x.1 < attributes g (table g ps x.0).rule) → (p a : ℕ) → attributes g (table g ps p).rule ≤ a → these (p, a) ≡ false
  none_beyond these there p a l = by (these (p, a)) refl
    where
      by : (b : Bool) → these (p, a) ≡ b → these (p, a) ≡ false
      by false e = e
      by true e = let k = there (p, a) e in absurd (omega arith)

  -- marking takers keeps the places sound
  pub marked_sound : (qs : List (Option Node)) (p : ℕ) (from : Taken) → used ps p ≡ true → Woke ps qs (takers_at g (table g ps) p from) → SoundPlaces g qs
  marked_sound qs p from h w = woke_sound g ps qs (takers_at g (table g ps) p from) s w (λ q a _ l. none_beyond (takers_at g (table g ps) p from) (λ x. taker_there p from x h) q a l)

  -- and so does waking the takers of an instance
  pub woken_sound : (qs : List (Option Node)) (y : Instance) → used ps y.0 ≡ true → Woke ps qs (takers_of g (table g ps) y) → SoundPlaces g qs
  woken_sound qs y h w = woke_sound g ps qs (takers_of g (table g ps) y) s w (λ q a _ l. none_beyond (takers_of g (table g ps) y) (λ x. by (flow_of g (table g ps) y) x) q a l)
    where
      above : (l : Link) → (table g ps y.0).link ≡ l → (x : Instance) → takers_above g (table g ps) l y.1 x ≡ true → x.1 < attributes g (table g ps x.0).rule
      above top e x t = let z : ◌≡◌ {A = ℕ} 0 1 = cc in absurd (omega arith)
      above (under v k) e x t =
          let hang = hangs g ps s y.0 (record { place = v; position = k }) (link_parent (parent_at ps y.0) v k (sym (link_is g (at ps y.0)) ∙ e)) in
          taker_there v (Attribute k y.1) x (ap is_some hang.there) t

      by : (f : Flow) (x : Instance) → takers_in g (table g ps) f y.0 y.1 x ≡ true → x.1 < attributes g (table g ps x.0).rule
      by Inherited x t = taker_there y.0 (Attribute 0 y.1) x h t
      by Synthesized x t = above (table g ps y.0).link refl x t
