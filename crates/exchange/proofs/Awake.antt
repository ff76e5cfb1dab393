-- After an exchange every instance is owed that has to be.
use Rattle.std.proofs.Common.{◌≡◌, ℕ, zero, suc, ◌-◌, ◌<◌, Bool, true, false, cond, ◌&&◌, ◌||◌, ◌⊎◌, List, [], ◌∷◌, length, get_or, is_some, Some, None, Option, sym, refl, ap, ◌∙◌, subst, ap₂, inl, inr, arith, eq-eqb, ne_eqb}
use Rattle.std.proofs.lemmas.Bool.Decides.{nat_tests}
use Rattle.std.proofs.lemmas.List.{get_or-map}
use Rattle.std.specs.Option.{option_map}
use Rattle.std.specs.List.{AllByRecursion, slice_get}
use Rattle.grammar.specs.Model.{Equation, Grammar}
use Rattle.grammar.specs.Scopes.{flows, same_flow}
use Rattle.grammar.specs.Tests.{some}
use Rattle.grammar.specs.declared.terms.Argument.TheVariants.{Of}
use Rattle.grammar.specs.declared.terms.Attribute.{Attribute}
use Rattle.grammar.specs.declared.terms.Flow.{Flow}
use Rattle.grammar.specs.declared.terms.Flow.TheVariants.{Inherited, Synthesized}
use Rattle.sheet.specs.Meaning.{Sound, SoundEquation, Taken, scope_of_rule}
use Rattle.tour.specs.Rules.{rule, symbol, no_attribute, Takes}
use Rattle.tour.specs.Runs.{In}
use Rattle.tour.specs.Trees.{Instance, at_of}
use Rattle.tour.specs.Nodes.Link.{under}
use Rattle.tour.specs.Results.{Touches}
use Rattle.tour.specs.Nodes.{attributes_of, flow_of}
use Rattle.tour.specs.Steady.{Live, Woken}
use Rattle.tour.specs.Steady.Woken.{root, own, sibling}
use Rattle.tour.specs.Exchange.{swap, Exchanged}
use Rattle.places.specs.Marks.{owes}
use Rattle.places.specs.Places.{at, used, parent_at, link_of, marks_in, owed_at, arity, cell_of, table}
use Rattle.places.specs.Shape.{SoundPlaces}
use Rattle.places.specs.declared.node.Node.{Node}
use Rattle.places.specs.declared.node.Parent.{Parent}
use Rattle.exchange.specs.Exchanging.{hung_below, inherited_at, woken_below, ExchangedPlaces}
use Rattle.exchange.specs.Setting.{with_child, with_parent, changed_at}
use Rattle.exchange.specs.Takers.{takes_from, wakes, takers_among, takers_at}
use Rattle.exchange.specs.Waking.{Woke}
use Rattle.exchange.specs.declared.taken.Taken.TheVariants.{Occurrence}
use Rattle.exchange.proofs.Blocks.{node_there}
use Rattle.exchange.proofs.Fields.{changed_keeps}
use Rattle.exchange.proofs.Marking.{remarked_table, remarked_used}
use Rattle.exchange.proofs.Sheets.{standing, rule_sound}
use Rattle.exchange.proofs.Soundness.{Hangs, hangs}
use Rattle.exchange.proofs.Swapping.{keeps, link_is, hung_rule, hung_exchanged, only_child}
use Rattle.exchange.proofs.Targets.{kids_at, kids_length}

pub some_in : {X : Type 0} (f : X → Bool) (xs : List X) (x : X) → In x xs → f x ≡ true → some f xs ≡ true
some_in f [] x i h = absurd i
some_in f (y ∷ ys) x (inl e) h = ap (λ b. b || some f ys) (ap f (sym e) ∙ h)
some_in f (y ∷ ys) x (inr i) h = let k = some_in f ys x i h in grind (arith, nat_tests)

pub all_in : {X : Type 0} (P : X → Type 0) (xs : List X) (x : X) → In x xs → AllByRecursion P xs → P x
all_in P [] x i a = absurd i
all_in P (y ∷ ys) x (inl e) a = subst P (sym e) a.0
all_in P (y ∷ ys) x (inr i) a = all_in P ys x i a.1

flows_nth : (f : Flow) (xs : List Attribute) (a : ℕ) → a < length xs → (get_or xs a no_attribute).flow ≡ f → flows f (slice_get xs a) ≡ true
flows_nth f [] a h e = absurd (omega arith)
flows_nth f (x ∷ xs) zero h e = ap (λ z. same_flow z f) e ∙ itself f
  where
    itself : (z : Flow) → same_flow z z ≡ true
    itself Inherited = refl
    itself Synthesized = refl
flows_nth f (x ∷ xs) (suc a) h e = flows_nth f xs a (omega arith) e

-- a right occurrence from which an equation takes is there
pub taken_there : (g : Grammar) (r o a k b : ℕ) → Sound g → r < length g.rules → Takes (rule g r) o a (suc k) b → k < length (rule g r).right
taken_there g r o a k b s h t =
    let q = all_in (SoundEquation (scope_of_rule g.symbols (rule g r))) (rule g r).equations t.0 t.1 (rule_sound g r s h).equations_sound in
    let w = all_in (Taken (scope_of_rule g.symbols (rule g r))) t.0.arguments (Of (suc k) b) t.4 q.arguments_taken in
    let d = standing g (rule g r) (suc k) b w.0 Synthesized w.1 in
    let v = d.occurrence in
    omega arith

-- an equation that takes from an occurrence is among the takers
takers_in_lem : (place : ℕ → ℕ) (es : List Equation) (q : Equation) (o b : ℕ) (x : Instance) → In q es → place q.occurrence ≡ x.0 → q.attribute ≡ x.1 → In (Of o b) q.arguments → takers_among place (Occurrence o) es x ≡ true
takers_in_lem place es q o b x i p a w =
    let m = some_in (takes_from (Occurrence o)) q.arguments (Of o b) w (eq-eqb o o refl) in
    let u = eq-eqb x.0 (place q.occurrence) (sym p) in
    let v = eq-eqb x.1 q.attribute (sym a) in
    some_in (λ e. wakes place (Occurrence o) e x) es q i (ap₂ ◌&&◌ (ap₂ ◌&&◌ u v) m)

or_right : (b : Bool) {c : Bool} → c ≡ true → (b || c) ≡ true
or_right true h = refl
or_right false h = h

pub link_parent : (z : Option Parent) (v k : ℕ) → link_of z ≡ under v k → z ≡ Some (record { place = v; position = k })
link_parent None v k l = let y : ◌≡◌ {A = ℕ} 0 1 = cc in absurd (omega arith)
link_parent (Some w) v k l = let a : w.place ≡ v = cc in let b : w.position ≡ k = cc in ap₂ (λ i j. Some (record { place = i; position = j })) a b

module _ (g : Grammar) (sound : Sound g) (ps qs : List (Option Node)) (s : SoundPlaces g ps) (target held : ℕ) (u : Parent) (e : parent_at ps target ≡ Some u) (free : parent_at ps held ≡ None) (there : used ps held ≡ true) (x : ExchangedPlaces g ps qs target held) where
  -- the node at target hangs, and the held root does not
  pub apart : target ≡ held → ⊥
  apart k = let z : Some u ≡ None = sym e ∙ ap (parent_at ps) k ∙ free in let y : ◌≡◌ {A = ℕ} 0 1 = cc in omega arith

  woke : Woke (hung_below ps target held (Some u)) qs (woken_below g (table g (hung_below ps target held (Some u))) held (Some u))
  woke = subst (λ z. Woke (hung_below ps target held z) qs (woken_below g (table g (hung_below ps target held z)) held z)) e x

  pub exchanged_table : Exchanged target held (table g ps) (table g qs)
  exchanged_table =
      let h = hung_exchanged g ps s target held u e sound there apart in
      let t = remarked_table g (hung_below ps target held (Some u)) qs woke in
      record {
        rules = λ p. ap (λ c. c.rule) (t p) ∙ h.rules p;
        codes = λ p. ap (λ c. c.code) (t p) ∙ h.codes p;
        kids = λ p. ap (λ c. c.kids) (t p) ∙ h.kids p;
        lifted = ap (λ c. c.link) (t target) ∙ h.lifted;
        put = ap (λ c. c.link) (t held) ∙ h.put;
        links = λ p v w. ap (λ c. c.link) (t p) ∙ h.links p v w;
      }

  used_before : (p : ℕ) → used qs p ≡ true → used ps p ≡ true
  used_before p h = by (at ps p) refl
    where
      by : (z : Option Node) → at ps p ≡ z → used ps p ≡ true
      by (Some n) k = ap is_some k
      by None k =
          let none : at (hung_below ps target held (Some u)) p ≡ None = stays_free p k in
          let y : false ≡ true = sym (ap is_some none) ∙ sym (remarked_used (hung_below ps target held (Some u)) qs p woke) ∙ h in
          let z : ◌≡◌ {A = ℕ} 0 1 = cc in
          absurd (omega arith)
        where
          stays_free : (r : ℕ) → at ps r ≡ None → at (hung_below ps target held (Some u)) r ≡ None
          stays_free r k =
              let a = changed_at (with_child (u.position - 1) held) ps u.place in
              let b = changed_at (with_parent None) a target in
              changed_keeps (λ _ z. z ≡ None) (with_parent (Some u)) b held (ap (option_map (with_parent (Some u)))) r
              (changed_keeps (λ _ z. z ≡ None) (with_parent None) a target (ap (option_map (with_parent None))) r
              (changed_keeps (λ _ z. z ≡ None) (with_child (u.position - 1) held) ps u.place (ap (option_map (with_child (u.position - 1) held))) r k))

  owed_hung : (p a : ℕ) → owed_at (hung_below ps target held (Some u)) (p, a) ≡ owed_at ps (p, a)
  owed_hung p a =
      let b = changed_at (with_child (u.position - 1) held) ps u.place in
      let c = changed_at (with_parent None) b target in
      keeps (λ z. owes (marks_in z) a) (with_parent (Some u)) (marks_parent (Some u)) c held p
      ∙ keeps (λ z. owes (marks_in z) a) (with_parent None) (marks_parent None) b target p
      ∙ keeps (λ z. owes (marks_in z) a) (with_child (u.position - 1) held) marks_child ps u.place p
    where
      marks_parent : (v : Option Parent) (z : Option Node) → owes (marks_in (option_map (with_parent v) z)) a ≡ owes (marks_in z) a
      marks_parent v None = refl
      marks_parent v (Some n) = refl

      marks_child : (z : Option Node) → owes (marks_in (option_map (with_child (u.position - 1) held) z)) a ≡ owes (marks_in z) a
      marks_child None = refl
      marks_child (Some n) = refl

  -- a child of p that the target is: p is the parent, and the occurrence the one of the exchange
  touched : (p o a : ℕ) → used ps p ≡ true → (t : Touches g (table g ps) target p o a) → (u.place ≡ p) × (u.position ≡ suc t.0)
  touched p o a h t =
      let n = node_there (at ps p) h in
      let same : (table g ps p).rule ≡ n.0.rule = ap (λ z. (cell_of g z).rule) n.1 in
      let r = (s.nodes p n.0 n.1).rule_there in
      let w : t.0 < arity g n.0.rule = taken_there g n.0.rule o a t.0 t.1 sound r (subst (λ z. Takes (rule g z) o a (suc t.0) t.1) same t.2) in
      only_child g ps s target held u e p n.0 t.0 n.1 w (sym (kids_at g ps p n.0 n.1 t.0 w) ∙ t.3)

  -- what takes from the occurrence of the exchange is among the takers there
  among : (p o a v : ℕ) → used ps p ≡ true → (t : Touches g (table g ps) target p o a) → at_of p (table g (hung_below ps target held (Some u)) p).kids o ≡ v → takers_at g (table g (hung_below ps target held (Some u))) u.place (Occurrence u.position) (v, a) ≡ true
  among p o a v h t place =
      let d = touched p o a h t in
      let T = table g (hung_below ps target held (Some u)) in
      let q = t.2 in
      let i : In q.0 (rule g (T p).rule).equations = subst (λ z. In q.0 (rule g z).equations) (sym (hung_rule g ps target held u p)) q.1 in
      let at_p = takers_in_lem (at_of p (T p).kids) (rule g (T p).rule).equations q.0 (suc t.0) t.1 (v, a) i (ap (at_of p (T p).kids) q.2 ∙ place) q.3 q.4 in
      subst (λ z. takers_at g T z (Occurrence u.position) (v, a) ≡ true) (sym d.0) (subst (λ z. takers_at g T p (Occurrence z) (v, a) ≡ true) (sym d.1) at_p)

  flow_same : (p a : ℕ) → flow_of g (table g qs) (p, a) ≡ flow_of g (table g ps) (p, a)
  flow_same p a = ap (λ r. (get_or (symbol g (rule g r).left).attributes a no_attribute).flow) (exchanged_table.rules p)

  -- a child other than the target stays where it hangs
  stays : (p v k : ℕ) → Hangs g ps p (record { place = v; position = k }) → (p ≡ target → ⊥) → at_of v (table g (hung_below ps target held (Some u)) v).kids k ≡ p
  stays p v zero h ne = let z = h.below.first in absurd (omega arith)
  stays p v (suc j) h ne =
      let l : j < arity g h.node.rule = (let z = h.below.last in omega arith) in
      let old : get_or (table g ps v).kids j 0 ≡ p = kids_at g ps v h.node h.there j l ∙ ap (λ i. get_or h.node.children i 0) (let z : j ≡ suc j - 1 = omega arith in z) ∙ h.below.points in
      let k = kids_length g ps v h.node h.there in
      ap (λ c. get_or c j 0) ((hung_exchanged g ps s target held u e sound there apart).kids v)
      ∙ get_or-map (swap target held) (table g ps v).kids j 0 0 (omega arith)
      ∙ ap (swap target held) old
      ∙ ap (λ b. cond b held p) (ne_eqb p target ne)

  -- every instance that the exchange has to wake is woken
  woken_there : (y : Instance) → Live g (table g qs) (used qs) y → Woken g (table g ps) (table g qs) target held y → woken_below g (table g (hung_below ps target held (Some u))) held (Some u) y ≡ true
  woken_there y live (root {a} f) =
      let T = table g (hung_below ps target held (Some u)) in
      let l : a < length (attributes_of g T held) = subst (λ r. a < length (symbol g (rule g r).left).attributes) (exchanged_table.rules held ∙ sym (hung_rule g ps target held u held)) live.attribute in
      let k = flows_nth Inherited (attributes_of g T held) a l (ap (λ r. (get_or (symbol g (rule g r).left).attributes a no_attribute).flow) (hung_rule g ps target held u held) ∙ f) in
      let z = eq-eqb held held refl in
      ap (λ b. b || takers_at g T u.place (Occurrence u.position) (held, a)) (ap₂ ◌&&◌ z k)
  woken_there y live (own {p} {a} f t) =
      let T = table g (hung_below ps target held (Some u)) in
      let k = among p 0 a p (used_before p live.place) t refl in
      or_right (inherited_at g T held (p, a)) k
  woken_there y live (sibling {p} {a} {u = v} {k} f link t) =
      let T = table g (hung_below ps target held (Some u)) in
      let w : parent_at ps p ≡ Some (record { place = v; position = k }) = link_parent (parent_at ps p) v k (sym (link_is g (at ps p)) ∙ link) in
      let h = hangs g ps s p (record { place = v; position = k }) w in
      let ne : p ≡ target → ⊥ = λ z. live.below (flow_same p a ∙ f) (ap (λ r. (table g qs r).link) z ∙ exchanged_table.lifted) in
      or_right (inherited_at g T held (p, a)) (among v k a p (ap is_some h.there) t (stays p v k h ne))

  pub woken_owed : (y : Instance) → Live g (table g qs) (used qs) y → (owed_at ps y ≡ true) ⊎ Woken g (table g ps) (table g qs) target held y → owed_at qs y ≡ true
  woken_owed y live c =
      woke.marks y.0 y.1 ∙ by c
    where
      by : (owed_at ps y ≡ true) ⊎ Woken g (table g ps) (table g qs) target held y → (owed_at (hung_below ps target held (Some u)) y || (used (hung_below ps target held (Some u)) y.0 && woken_below g (table g (hung_below ps target held (Some u))) held (Some u) y)) ≡ true
      by (inl o) = ap (λ b. b || (used (hung_below ps target held (Some u)) y.0 && woken_below g (table g (hung_below ps target held (Some u))) held (Some u) y)) (owed_hung y.0 y.1 ∙ o)
      by (inr w) = or_right (owed_at (hung_below ps target held (Some u)) y) (ap₂ ◌&&◌ (sym (remarked_used (hung_below ps target held (Some u)) qs y.0 woke) ∙ live.place) (woken_there y live w))
