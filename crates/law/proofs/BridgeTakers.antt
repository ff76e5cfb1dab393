-- Which instances the test of takers finds: just those whose equation names the instance taken.
use Rattle.std.proofs.Common.{◌≡◌, ℕ, suc, ◌<◌, Bool, true, eqb, ◌↔◌, List, [], ◌∷◌, length, get_or, sym, refl, ap, ◌∙◌, subst, inl, inr, arith}
use mathlib.Core.Bool.{false≢true}
use Rattle.std.proofs.lemmas.Bool.{eqb-true, eq-eqb, and_parts, and_from, or_cases, or_left, or_right}
use Rattle.grammar.specs.Model.{Equation, Grammar}
use Rattle.grammar.specs.Tests.{some}
use Rattle.grammar.specs.declared.terms.Argument.{Argument}
use Rattle.grammar.specs.declared.terms.Argument.TheVariants.{Datum, Of}
use Rattle.grammar.specs.declared.terms.Flow.{Flow}
use Rattle.grammar.specs.declared.terms.Flow.TheVariants.{Inherited, Synthesized}
use Rattle.sheet.specs.Meaning.{Sound, SoundEquation, scope_of_rule}
use Rattle.tour.specs.Runs.{In, named}
use Rattle.tour.specs.Rules.{rule, symbol, Takes}
use Rattle.tour.specs.Trees.{Instance, at_of}
use Rattle.tour.specs.Nodes.{Link, Table, flow_of}
use Rattle.tour.specs.Nodes.Link.{top, under}
use Rattle.tour.specs.Results.{Meaning, sources}
use Rattle.tour.specs.Steady.{Live}
use Rattle.tour.specs.Shapes.{Shape}
use Rattle.tour.specs.Shapes.{Child, Linked}
use Rattle.tour.specs.Takers.{Taker}
use Rattle.tour.specs.Takers.Taker.{own, above}
use Rattle.tour.proofs.Accepted.{all_in, defines_from, sound_accepted}
use Rattle.tour.proofs.Ruled.{Defines, Accepted}
use Rattle.tour.proofs.Ruled.Defines.{own as own-defined, given}
use Rattle.tour.proofs.Shapes.{not_top}
use Rattle.tour.proofs.Tables.{flow_at}
use Rattle.tour.proofs.Takers.{takers}
use Rattle.exchange.specs.Takers.{takes_from, wakes, takers_at, takers_above, takers_in, takers_of}
use Rattle.exchange.specs.Waking.{is_at}
use Rattle.exchange.specs.declared.taken.Taken.TheVariants.{Attribute}
use Rattle.exchange.proofs.Sheets.{rule_sound}

-- a test that some element passes
pub some_in : {X : Type 0} (f : X → Bool) (xs : List X) → some f xs ≡ true → (x : X) × In x xs × (f x ≡ true)
some_in f [] e = absurd (false≢true e)
some_in f (x ∷ xs) e = elim (or_cases (f x) (some f xs) e) [ inl h ↦ (x, inl refl, h) | inr h ↦ (let r = some_in f xs h in (r.0, inr r.1, r.2)) ]

in_some : {X : Type 0} (f : X → Bool) (x : X) (xs : List X) → In x xs → f x ≡ true → some f xs ≡ true
in_some f x [] m e = absurd m
in_some f x (y ∷ xs) (inl h) e = or_left (f y) (some f xs) (ap f (sym h) ∙ e)
in_some f x (y ∷ xs) (inr m) e = or_right (f y) (some f xs) (in_some f x xs m e)

-- an argument that is an attribute of an occurrence
takes_is : (o a : ℕ) (b : Argument) → takes_from (Attribute o a) b ≡ true → b ≡ Of o a
takes_is o a Datum e = absurd (false≢true e)
takes_is o a (Of p b) e =
    let r = and_parts (eqb p o) (eqb b a) e in
    let m = eqb-true p o r.0 in
    let n = eqb-true b a r.1 in
    λ i. Of (m i) (n i)

is_takes : (o a : ℕ) → takes_from (Attribute o a) (Of o a) ≡ true
is_takes o a = and_from (eqb o o) (eqb a a) (eq-eqb o o refl) (eq-eqb a a refl)

-- the test finds the targets of the equations at p that take attribute b of occurrence o
module _ (g : Grammar) (T : Table) (p o b : ℕ) where
  target_found : (x : Instance) → takers_at g T p (Attribute o b) x ≡ true → (i : ℕ) × (a : ℕ) × Takes (rule g (T p).rule) i a o b × (x ≡ (at_of p (T p).kids i, a))
  target_found x e =
      let r = some_in (λ q. wakes (at_of p (T p).kids) (Attribute o b) q x) (rule g (T p).rule).equations e in
      let q : Equation = r.0 in
      let w = and_parts (is_at (at_of p (T p).kids q.occurrence) q.attribute x) (some (takes_from (Attribute o b)) q.arguments) r.2 in
      let t = and_parts (eqb x.0 (at_of p (T p).kids q.occurrence)) (eqb x.1 q.attribute) w.0 in
      let s = some_in (takes_from (Attribute o b)) q.arguments w.1 in
      let m = eqb-true x.0 (at_of p (T p).kids q.occurrence) t.0 in
      let n = eqb-true x.1 q.attribute t.1 in
      (q.occurrence, q.attribute, (q, r.1, refl, refl, subst (λ z. In z q.arguments) (takes_is o b s.0 s.2) s.1), λ i. (m i, n i))

  found_target : (i a : ℕ) → Takes (rule g (T p).rule) i a o b → takers_at g T p (Attribute o b) (at_of p (T p).kids i, a) ≡ true
  found_target i a (q, m, eo, ea, n) =
      in_some (λ e. wakes (at_of p (T p).kids) (Attribute o b) e (at_of p (T p).kids i, a)) q (rule g (T p).rule).equations m
      (and_from (is_at (at_of p (T p).kids q.occurrence) q.attribute (at_of p (T p).kids i, a)) (some (takes_from (Attribute o b)) q.arguments)
      (and_from (eqb (at_of p (T p).kids i) (at_of p (T p).kids q.occurrence)) (eqb a q.attribute) (eq-eqb (at_of p (T p).kids i) (at_of p (T p).kids q.occurrence) (ap (at_of p (T p).kids) (sym eo))) (eq-eqb a q.attribute (sym ea)))
      (in_some (takes_from (Attribute o b)) (Of o b) q.arguments n (is_takes o b)))

module _ {V : Type 0} (M : Meaning V) (g : Grammar) (so : Sound g) (T : Table) (used : ℕ → Bool) (root : ℕ) (sh : Shape g T used root) (li : Linked T used) where
  ac : Accepted g
  ac = sound_accepted g so

  right_kid : (p k : ℕ) → used p ≡ true → k < length (rule g (T p).rule).right → k < length (T p).kids
  right_kid p k u l = subst (λ n. k < n) (sym (sh.kids p u)) l

  -- what a rule defines has an equation at its place
  defined_live : (p o a : ℕ) → used p ≡ true → Defines g (rule g (T p).rule) o a → Live g T used (at_of p (T p).kids o, a)
  defined_live p _ a u (own-defined {j = j} h) = record {
    place = u;
    attribute = h.0;
    below = λ e l. let z : Synthesized ≡ Inherited = sym (flow_at M g T ac (rule g (T p).rule).left a j Synthesized p refl h) ∙ e in let n : ◌≡◌ {A = ℕ} 0 1 = cc in omega arith;
  }
  defined_live p _ a u (given {k = k} {j = j} l h) =
      let w = right_kid p k u l in
      record {
        place = sh.kid_used p k u w;
        attribute = subst (λ z. a < length (symbol g z).attributes) (sym (sh.kid_symbol p k u w)) h.0;
        below = λ e t. not_top (T (get_or (T p).kids k 0)).link p (suc k) t (sh.kid_link p k u w);
      }

  target_live : (p i a o b : ℕ) → used p ≡ true → Takes (rule g (T p).rule) i a o b → Live g T used (at_of p (T p).kids i, a)
  target_live p i a o b u (q, m, eo, ea, n) =
      let d = (all_in (SoundEquation (scope_of_rule g.symbols (rule g (T p).rule))) (rule g (T p).rule).equations q (rule_sound g (T p).rule so (sh.rules p u)).equations_sound m).target in
      subst (λ z. Live g T used (at_of p (T p).kids z, a)) eo
      (subst (λ z. Live g T used (at_of p (T p).kids q.occurrence, z)) ea (defined_live p q.occurrence q.attribute u (defines_from g (rule g (T p).rule) q.occurrence q.attribute d)))

  -- an instance that takes y has an equation, and that names y
  pub record TakesIt (y x : Instance) : Type 0 where
    pub live : Live g T used x
    pub names : In y (named (sources M g T x))

  takes_it : (y x : Instance) → used y.0 ≡ true → Live g T used x → Taker g T y x → TakesIt y x
  takes_it y x u l t = record { live = l; names = ((takers V).arguments M g so T used root sh li y x u l.place).1 t }

  above_takes : (y x : Instance) (l : Link) → used y.0 ≡ true → (T y.0).link ≡ l → takers_above g T l y.1 x ≡ true → TakesIt y x
  above_takes y x top u e h = absurd (false≢true h)
  above_takes y x (under v k) u e h =
      let t = target_found g T v k y.1 x h in
      let c = li y.0 v k u e in
      subst (λ z. TakesIt y z) (sym t.3) (takes_it y (at_of v (T v).kids t.0, t.1) u (target_live v t.0 t.1 k y.1 c.2.parent_used t.2) (above e t.2))

  flow_takes : (y x : Instance) (f : Flow) → used y.0 ≡ true → takers_in g T f y.0 y.1 x ≡ true → TakesIt y x
  flow_takes y x Inherited u h =
      let t = target_found g T y.0 0 y.1 x h in
      subst (λ z. TakesIt y z) (sym t.3) (takes_it y (at_of y.0 (T y.0).kids t.0, t.1) u (target_live y.0 t.0 t.1 0 y.1 u t.2) (own t.2))
  flow_takes y x Synthesized u h = above_takes y x (T y.0).link u refl h

  pub taker_names : (y x : Instance) → used y.0 ≡ true → takers_of g T y x ≡ true → TakesIt y x
  taker_names y x u h = flow_takes y x (flow_of g T y) u h

  -- an instance that takes y is found
  taker_found : (y x : Instance) → used y.0 ≡ true → Taker g T y x → takers_of g T y x ≡ true
  taker_found y _ u (own {o = i} {a = a} t) =
      let h = (ac.rules (T y.0).rule (sh.rules y.0 u)).0.argument_own i a y.1 t in
      ap (λ f. takers_in g T f y.0 y.1 (at_of y.0 (T y.0).kids i, a)) (flow_at M g T ac (rule g (T y.0).rule).left y.1 h.0 Inherited y.0 refl h.1)
      ∙ found_target g T y.0 0 y.1 i a t
  taker_found y _ u (above {u = v} {k = k} {o = i} {a = a} e t) = by (li y.0 v k u e)
    where
      by : (n : ℕ) × (k ≡ suc n) × Child T used y.0 v n → takers_of g T y (at_of v (T v).kids i, a) ≡ true
      by (n, ek, c) =
          let h = (ac.rules (T v).rule (sh.rules v c.parent_used)).0.argument_right i a n y.1 (subst (λ z. Takes (rule g (T v).rule) i a z y.1) ek t) in
          let s = ap (λ z. (rule g (T z).rule).left) (sym c.is) ∙ sh.kid_symbol v n c.parent_used c.there in
          ap (λ f. takers_in g T f y.0 y.1 (at_of v (T v).kids i, a)) (flow_at M g T ac (get_or (rule g (T v).rule).right n 0) y.1 h.1.0 Synthesized y.0 s h.1.1)
          ∙ ap (λ l. takers_above g T l y.1 (at_of v (T v).kids i, a)) e
          ∙ found_target g T v k y.1 i a t

  -- just the instances whose equation names y take y
  pub takers_are : (y x : Instance) → used y.0 ≡ true → Live g T used x → (takers_of g T y x ≡ true) ↔ In y (named (sources M g T x))
  takers_are y x u l = ((λ h. (taker_names y x u h).names), λ n. taker_found y x u (((takers V).arguments M g so T used root sh li y x u l.place).0 n))
