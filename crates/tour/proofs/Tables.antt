-- The arguments of an instance in a table are those that its equation names.
use Rattle.std.proofs.Common.{◌≡◌, ℕ, zero, suc, ◌+◌, ◌<◌, Bool, true, false, cond, ◌&&◌, eqb, ◌⊎◌, List, [], ◌∷◌, map, length, get_or, refl, ap, ◌∙◌, subst, inl, inr, arith}
use Rattle.grammar.specs.Model.{Grammar, Equation}
use Rattle.grammar.specs.declared.terms.Flow.{Flow}
use Rattle.grammar.specs.declared.terms.Flow.TheVariants.{Inherited, Synthesized}
use Rattle.grammar.specs.declared.terms.Argument.{Argument}
use Rattle.grammar.specs.declared.terms.Argument.TheVariants.{Datum, Of}
use Rattle.std.proofs.lemmas.Bool.{and_parts, eqb-true}
use Rattle.tour.specs.Runs.{In, named, Ordered}
use Rattle.tour.specs.Rules.{no_attribute, symbol, rule, Has, Takes}
use Rattle.tour.specs.Trees.{Instance, Forest, places, at_of, Agrees, Arguments}
use Rattle.tour.specs.Trees.Forest.{none, node}
use Rattle.tour.specs.Touring.{tour, Touring}
use Rattle.tour.specs.Nodes.{Link, Table, flow_of, Shows, above, Planted}
use Rattle.tour.specs.Nodes.Link.{under}
use Rattle.tour.specs.Results.{Meaning, no_equation, equation, source, own_sources, defining, link_sources, sources, engine}
use Rattle.tour.proofs.Ruled.{Defines, Accepted}
use Rattle.tour.proofs.Ruled.Defines.{own, given}
use Rattle.tour.proofs.Accepted.{sound_accepted}
use Rattle.tour.proofs.Touring.{tour_law}

-- q is one of the equations for o.a, or none
abbrev pub Found : ℕ → ℕ → List Equation → Equation → Type 0
Found o a qs q = (q ≡ no_equation) ⊎ (In q qs × (q.occurrence ≡ o) × (q.attribute ≡ a))

pub found_in : (o a : ℕ) (qs : List Equation) → Found o a qs (equation o a qs)
found_in o a [] = inl refl
found_in o a (q ∷ qs) = go (eqb q.occurrence o && eqb q.attribute a) refl (found_in o a qs)
  where
    go : (t : Bool) → (eqb q.occurrence o && eqb q.attribute a) ≡ t → Found o a qs (equation o a qs) → Found o a (q ∷ qs) (cond t q (equation o a qs))
    go true w f = let r = and_parts (eqb q.occurrence o) (eqb q.attribute a) w in inr (inl refl, eqb-true q.occurrence o r.0, eqb-true q.attribute a r.1)
    go false w (inl e) = inl e
    go false w (inr (m, e, f)) = inr (inr m, e, f)

module _ {V : Type 0} (M : Meaning V) where
  named_in : (at : ℕ → ℕ) (code : ℕ) (x : Instance) (bs : List Argument) → In x (named (map (source M at code) bs)) → (p : ℕ) × (b : ℕ) × In (Of p b) bs × (x ≡ (at p, b))
  named_in at code x [] m = absurd m
  named_in at code x (Datum ∷ bs) m = let r = named_in at code x bs m in (r.0, r.1, inr r.2, r.3)
  named_in at code x (Of p b ∷ bs) (inl e) = (p, b, inl refl, e)
  named_in at code x (Of p b ∷ bs) (inr m) = let r = named_in at code x bs m in (r.0, r.1, inr r.2, r.3)

  -- what an equation takes at the place p
  abbrev pub IsTakenIn : Grammar → (p r o a : ℕ) → List ℕ → Instance → Type 0
  IsTakenIn σ p r o a ps x = (q : ℕ) × (b : ℕ) × Takes (rule σ r) o a q b × (x ≡ (at_of p ps q, b))

  pub own_in : (σ : Grammar) (T : Table) (p r o a : ℕ) (ps : List ℕ) (x : Instance) → (T p).rule ≡ r → (T p).kids ≡ ps → In x (named (own_sources M σ T p o a)) → IsTakenIn σ p r o a ps x
  own_in σ T p r o a ps x er ek m = go (found_in o a (rule σ r).equations)
    where
      e : Equation
      e = equation o a (rule σ r).equations

      n : In x (named (map (source M (at_of p ps) (T p).code) e.arguments))
      n = subst (λ z. In x (named (map (source M (at_of p z) (T p).code) e.arguments))) ek (subst (λ z. In x (named (map (source M (at_of p (T p).kids) (T p).code) (equation o a (rule σ z).equations).arguments))) er m)

      go : Found o a (rule σ r).equations e → IsTakenIn σ p r o a ps x
      go (inl w) = absurd (subst (λ (z : Equation). In x (named (map (source M (at_of p ps) (T p).code) z.arguments))) w n)
      go (inr (h, eo, ea)) =
          let w = named_in (at_of p ps) (T p).code x e.arguments n in
          (w.0, w.1, (e, h, eo, ea, w.2), w.3)

-- the cell of a child
pub kid_cell : (σ : Grammar) (T : Table) (f : Forest) (xs : List ℕ) (up : ℕ → Link) (i k : ℕ) → Shows T f up i → Agrees σ f xs → k < length xs → ((T (get_or (places f) k 0)).link ≡ up (i + k)) × ((rule σ (T (get_or (places f) k 0)).rule).left ≡ get_or xs k 0)
kid_cell σ T none [] up i k sh ag h = absurd (omega arith)
kid_cell σ T none (x ∷ xs) up i k sh ag h = absurd ag
kid_cell σ T (node p r c kids rest) [] up i k sh ag h = absurd ag
kid_cell σ T (node p r c kids rest) (x ∷ xs) up i zero (er, ec, ek, el, sk, sr) (l, e, ag, ag') h = (el ∙ ap up (omega arith), ap (λ z. (rule σ z).left) er ∙ e)
kid_cell σ T (node p r c kids rest) (x ∷ xs) up i (suc k) (er, ec, ek, el, sk, sr) (l, e, ag, ag') h =
    let w = kid_cell σ T rest xs up (suc i) k sr ag' (omega arith) in (w.0 ∙ ap up (omega arith), w.1)

module _ {V : Type 0} (M : Meaning V) (σ : Grammar) (T : Table) (ac : Accepted σ) where
  -- the flow of an attribute at a place decides where its equation is
  pub flow_at : (x a j : ℕ) (k : Flow) (q : ℕ) → (rule σ (T q).rule).left ≡ x → Has σ x a k j → flow_of σ T (q, a) ≡ k
  flow_at x a j k q e has = ap (λ z. (get_or (symbol σ z).attributes a no_attribute).flow) e ∙ ap (λ z. z.flow) has.1

  node_named : (p r : ℕ) (kids : Forest) → (T p).rule ≡ r → (T p).kids ≡ places kids → Shows T kids (under p) 1 → Agrees σ kids (rule σ r).right → (o a : ℕ) (x : Instance) → Defines σ (rule σ r) o a → In x (named (sources M σ T (at_of p (places kids) o, a))) → IsTakenIn M σ p r o a (places kids) x
  node_named p r kids er ek sk ag _ a x (own {j = j} has) m =
      own_in M σ T p r 0 a (places kids) x er ek
      (subst (λ k. In x (named (link_sources M σ T (defining k p (T p).link) a))) (flow_at (rule σ r).left a j Synthesized p (ap (λ z. (rule σ z).left) er) has) m)
  node_named p r kids er ek sk ag _ a x (given {k = k} {j = j} l has) m =
      let q : ℕ = get_or (places kids) k 0 in
      let c = kid_cell σ T kids (rule σ r).right (under p) 1 k sk ag l in
      let n = subst (λ z. In x (named (link_sources M σ T (defining z q (T q).link) a))) (flow_at (get_or (rule σ r).right k 0) a j Inherited q c.1 has) m in
      let e : (T q).link ≡ under p (suc k) = c.0 ∙ ap (under p) (one_more k) in
      own_in M σ T p r (suc k) a (places kids) x er ek (subst (λ z. In x (named (link_sources M σ T z a))) e n)
    where
      one_more : (m : ℕ) → 1 + m ≡ suc m
      one_more m = omega arith

  pub shown_arguments : (f : Forest) (xs : List ℕ) (up : ℕ → Link) (i : ℕ) → Shows T f up i → Agrees σ f xs → Arguments σ (λ x. named (sources M σ T x)) f
  shown_arguments none xs up i sh ag = tt
  shown_arguments (node p r c kids rest) [] up i sh ag = absurd ag
  shown_arguments (node p r c kids rest) (x ∷ xs) up i (er, ec, ek, el, sk, sr) (l, e, ag, ag') = (
    (λ o a y m h. node_named p r kids er ek sk ag o a y ((ac.rules r l).1.evaluates_only o a m) h),
    shown_arguments kids (rule σ r).right (under p) 1 sk ag,
    shown_arguments rest xs up (suc i) sr ag',
  )

module _ {V : Type 0} (M : Meaning V) (σ : Grammar) (T : Table) (t : Forest) (pl : Planted σ T t) where
  pub planted_touring : Touring σ (λ x. named (sources M σ T x)) t
  planted_touring = tour_law σ pl.sound (λ x. named (sources M σ T x)) t pl.agrees (shown_arguments M σ T (sound_accepted σ pl.sound) t (0 ∷ []) above 0 pl.shown pl.agrees) pl.apart

  pub engine_ordered : (scope : List Instance) → ((i : Instance) → In i (tour σ t) → In i scope) → Ordered (engine M σ T t scope)
  engine_ordered scope cov = record {
    covers = cov;
    once = planted_touring.once;
    before = λ xs ys i a e. planted_touring.before xs ys i a e;
  }
