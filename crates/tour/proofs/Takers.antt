-- Who takes an instance.
use Rattle.std.proofs.Common.{◌≡◌, ℕ, zero, suc, ◌<◌, Bool, true, false, cond, ◌&&◌, eqb, ◌⊎◌, List, [], ◌∷◌, map, length, get_or, Some, sym, refl, ap, ◌∙◌, subst, ap₂, inl, inr}
use mathlib.Core.Bool.{false≢true}
use Rattle.std.specs.List.{slice_get}
use Rattle.std.proofs.ByRecursion.{All-get_or}
use Rattle.std.proofs.lemmas.Bool.{and_parts, and_from, eqb-true, eq-eqb}
use Rattle.grammar.specs.Model.{Grammar, Symbol, Equation, Rule}
use Rattle.grammar.specs.Scopes.{Defined}
use Rattle.grammar.specs.declared.terms.Argument.{Argument}
use Rattle.grammar.specs.declared.terms.Argument.TheVariants.{Datum, Of}
use Rattle.grammar.specs.declared.terms.Flow.{Flow}
use Rattle.grammar.specs.declared.terms.Flow.TheVariants.{Inherited, Synthesized}
use Rattle.plans.proofs.Deciding.{never}
use Rattle.sheet.specs.Meaning.{Sound, SoundRule, SoundEquation, scope_of_rule}
use Rattle.tour.specs.Runs.{In, named}
use Rattle.tour.specs.Rules.{no_rule, rule, Takes}
use Rattle.tour.specs.Trees.{Instance, at_of}
use Rattle.tour.specs.Nodes.{Link, Table, flow_of}
use Rattle.tour.specs.Nodes.Link.{top, under}
use Rattle.tour.specs.Results.{Meaning, equation, source, own_sources, defining, link_sources, sources}
use Rattle.tour.specs.Shapes.{Child, Linked, Shape}
use Rattle.tour.specs.Steady.{Woken}
use Rattle.tour.specs.Steady.Woken.{root, own as own-woken, sibling}
use Rattle.tour.specs.Takers.{Taker, Beside, Takers}
use Rattle.tour.specs.Takers.Taker.{own, above}
use Rattle.tour.proofs.Ruled.{Defines, Accepted}
use Rattle.tour.proofs.Ruled.Defines.{own as own-defined, given}
use Rattle.tour.proofs.Accepted.{all_in, in_at, defines_from, sound_accepted}
use Rattle.tour.proofs.Tables.{own_in, flow_at}

-- where an equation for o.a stands, one is found
found_there : (o a : ℕ) (q : Equation) (qs : List Equation) → In q qs → q.occurrence ≡ o → q.attribute ≡ a → In (equation o a qs) qs × ((equation o a qs).occurrence ≡ o) × ((equation o a qs).attribute ≡ a)
found_there o a q [] m eo ea = absurd m
found_there o a q (p ∷ qs) m eo ea = go (eqb p.occurrence o && eqb p.attribute a) refl m (λ n. found_there o a q qs n eo ea)
  where
    go : (t : Bool) → (eqb p.occurrence o && eqb p.attribute a) ≡ t → (q ≡ p) ⊎ In q qs → (In q qs → In (equation o a qs) qs × ((equation o a qs).occurrence ≡ o) × ((equation o a qs).attribute ≡ a)) → In (cond t p (equation o a qs)) (p ∷ qs) × ((cond t p (equation o a qs)).occurrence ≡ o) × ((cond t p (equation o a qs)).attribute ≡ a)
    go true w m f = let r = and_parts (eqb p.occurrence o) (eqb p.attribute a) w in (inl refl, eqb-true p.occurrence o r.0, eqb-true p.attribute a r.1)
    go false w (inr n) f = let r = f n in (inr r.0, r.1, r.2)
    go false w (inl e) f =
        let yes' : (eqb p.occurrence o && eqb p.attribute a) ≡ true = and_from (eqb p.occurrence o) (eqb p.attribute a) (eq-eqb p.occurrence o (ap (λ (z : Equation). z.occurrence) (sym e) ∙ eo)) (eq-eqb p.attribute a (ap (λ (z : Equation). z.attribute) (sym e) ∙ ea)) in
        absurd (false≢true (sym w ∙ yes'))

-- there is one equation for what a rule defines
found_only : (symbols : List Symbol) (ρ : Rule) → SoundRule symbols ρ → (o a : ℕ) (q : Equation) → In q ρ.equations → q.occurrence ≡ o → q.attribute ≡ a → equation o a ρ.equations ≡ q
found_only symbols ρ sound o a q m eo ea =
    let f = found_there o a q ρ.equations m eo ea in
    let d : Defined (scope_of_rule symbols ρ) o a = subst (λ z. Defined (scope_of_rule symbols ρ) z a) eo (subst (λ z. Defined (scope_of_rule symbols ρ) q.occurrence z) ea (all_in (SoundEquation (scope_of_rule symbols ρ)) ρ.equations q sound.equations_sound m).target) in
    let one = (sound.one_equation o a d).1 in
    let i = in_at (equation o a ρ.equations) ρ.equations f.0 in
    let j = in_at q ρ.equations m in
    let same : i.0 ≡ j.0 = one.only i.0 (equation o a ρ.equations) i.1 f.1 f.2 ∙ sym (one.only j.0 q j.1 eo ea) in
    let both : Some (equation o a ρ.equations) ≡ Some q = sym i.1 ∙ ap (slice_get ρ.equations) same ∙ j.1 in
    cc

in_named : {V : Type 0} (M : Meaning V) (at : ℕ → ℕ) (code p b : ℕ) (bs : List Argument) → In (Of p b) bs → In (at p, b) (named (map (source M at code) bs))
in_named M at code p b [] m = absurd m
in_named M at code p b (Datum ∷ bs) (inl e) = never (cc)
in_named M at code p b (Datum ∷ bs) (inr m) = in_named M at code p b bs m
in_named M at code p b (Of q c ∷ bs) (inl e) = let u : p ≡ q = cc in let v : b ≡ c = cc in inl (ap₂ (λ y z. (at y, z)) u v)
in_named M at code p b (Of q c ∷ bs) (inr m) = inr (in_named M at code p b bs m)

module _ {V : Type 0} (M : Meaning V) (σ : Grammar) (so : Sound σ) (T : Table) (used : ℕ → Bool) (r : ℕ) (sh : Shape σ T used r) where
  ac : Accepted σ
  ac = sound_accepted σ so

  sound_at : (p : ℕ) → used p ≡ true → SoundRule σ.symbols (rule σ (T p).rule)
  sound_at p u = All-get_or (SoundRule σ.symbols) σ.rules (T p).rule no_rule (sh.rules p u) so.rules_sound

  -- the equation of an attribute that the rule at p defines stands there
  defined_here : (p o a : ℕ) → used p ≡ true → Defines σ (rule σ (T p).rule) o a → sources M σ T (at_of p (T p).kids o, a) ≡ own_sources M σ T p o a
  defined_here p _ a u (own-defined {j = j} h) = ap (λ k. link_sources M σ T (defining k p (T p).link) a) (flow_at M σ T ac (rule σ (T p).rule).left a j Synthesized p refl h)
  defined_here p _ a u (given {k = k} {j = j} l h) =
      let q : ℕ = get_or (T p).kids k 0 in
      let w : k < length (T p).kids = subst (λ z. k < z) (sym (sh.kids p u)) l in
      ap (λ z. link_sources M σ T (defining z q (T q).link) a) (flow_at M σ T ac (get_or (rule σ (T p).rule).right k 0) a j Inherited q (sh.kid_symbol p k u w) h)
      ∙ ap (λ z. link_sources M σ T z a) (sh.kid_link p k u w)

  -- the target of an equation at p is what the rule there defines
  target_defined : (p o a q b : ℕ) → used p ≡ true → Takes (rule σ (T p).rule) o a q b → Defines σ (rule σ (T p).rule) o a
  target_defined p o a q b u (e, m, eo, ea, n) =
      let ρ : Rule = rule σ (T p).rule in
      let d = (all_in (SoundEquation (scope_of_rule σ.symbols ρ)) ρ.equations e (sound_at p u).equations_sound m).target in
      subst (λ z. Defines σ ρ z a) eo (subst (λ z. Defines σ ρ e.occurrence z) ea (defines_from σ ρ e.occurrence e.attribute d))

  -- what an equation at p takes is among the arguments of its target
  taken_in : (p o a q b : ℕ) → used p ≡ true → Takes (rule σ (T p).rule) o a q b → In (at_of p (T p).kids q, b) (named (sources M σ T (at_of p (T p).kids o, a)))
  taken_in p o a q b u (e, m, eo, ea, n) =
      subst (λ z. In (at_of p (T p).kids q, b) (named z)) (sym (defined_here p o a u (target_defined p o a q b u (e, m, eo, ea, n))))
      (subst (λ (z : Equation). In (at_of p (T p).kids q, b) (named (map (source M (at_of p (T p).kids) (T p).code) z.arguments))) (sym (found_only σ.symbols (rule σ (T p).rule) (sound_at p u) o a e m eo ea))
      (in_named M (at_of p (T p).kids) (T p).code q b e.arguments n))

  -- an occurrence from which an equation at p takes is p or a child that knows its parent
  taker : (p o a q b : ℕ) (x : Instance) → used p ≡ true → Takes (rule σ (T p).rule) o a q b → x ≡ (at_of p (T p).kids q, b) → Taker σ T x (at_of p (T p).kids o, a)
  taker p o a zero b x u t e = subst (λ z. Taker σ T z (at_of p (T p).kids o, a)) (sym e) (own t)
  taker p o a (suc k) b x u t e =
      let l : k < length (T p).kids = subst (λ z. k < z) (sym (sh.kids p u)) ((ac.rules (T p).rule (sh.rules p u)).0.argument_right o a k b t).0 in
      subst (λ z. Taker σ T z (at_of p (T p).kids o, a)) (sym e) (above (sh.kid_link p k u l) t)

  module _ (li : Linked T used) where
    from_link : (x j : Instance) → used j.0 ≡ true → (l : Link) → (T j.0).link ≡ l → In x (named (link_sources M σ T l j.1)) → Taker σ T x j
    from_link x j u top e m = absurd m
    from_link x j u (under p k) e m = go (li j.0 p k u e)
      where
        go : (n : ℕ) × (k ≡ suc n) × Child T used j.0 p n → Taker σ T x j
        go (n, ek, c) =
            let r = own_in M σ T p (T p).rule k j.1 (T p).kids x refl refl m in
            let at : at_of p (T p).kids k ≡ j.0 = ap (at_of p (T p).kids) ek ∙ c.is in
            subst (λ z. Taker σ T x (z, j.1)) at (taker p k j.1 r.0 r.1 x c.parent_used r.2 r.3)

    from_flow : (x j : Instance) → used j.0 ≡ true → (k : Flow) → In x (named (link_sources M σ T (defining k j.0 (T j.0).link) j.1)) → Taker σ T x j
    from_flow x j u Synthesized m =
        let r = own_in M σ T j.0 (T j.0).rule 0 j.1 (T j.0).kids x refl refl m in
        taker j.0 0 j.1 r.0 r.1 x u r.2 r.3
    from_flow x j u Inherited m = from_link x j u (T j.0).link refl m

    to_sources : (x j : Instance) → used x.0 ≡ true → Taker σ T x j → In x (named (sources M σ T j))
    to_sources x _ u (own {o = o} {a = a} t) = taken_in x.0 o a 0 x.1 u t
    to_sources x _ u (above {u = p} {k = k} {o = o} {a = a} e t) = go (li x.0 p k u e)
      where
        go : (n : ℕ) × (k ≡ suc n) × Child T used x.0 p n → In x (named (sources M σ T (at_of p (T p).kids o, a)))
        go (n, ek, c) =
            let at : at_of p (T p).kids k ≡ x.0 = ap (at_of p (T p).kids) ek ∙ c.is in
            subst (λ z. In (z, x.1) (named (sources M σ T (at_of p (T p).kids o, a)))) at (taken_in p o a k x.1 c.parent_used t)

    -- the parent of a child that an equation of its rule takes from
    parent_of : (q p k : ℕ) → used p ≡ true → (o a b : ℕ) → Takes (rule σ (T p).rule) o a (suc k) b → get_or (T p).kids k 0 ≡ q → (T q).link ≡ under p (suc k)
    parent_of q p k u o a b t e =
        let l : k < length (T p).kids = subst (λ z. k < z) (sym (sh.kids p u)) ((ac.rules (T p).rule (sh.rules p u)).0.argument_right o a k b t).0 in
        ap (λ z. (T z).link) (sym e) ∙ sh.kid_link p k u l

    woken_beside : (U : Table) (q h : ℕ) (x : Instance) → used x.0 ≡ true → Woken σ T U q h x → ((x.0 ≡ h) × (flow_of σ T x ≡ Inherited)) ⊎ Beside σ T q x
    woken_beside U q h _ ux (root e) = inl (refl, e)
    woken_beside U q h _ ux (own-woken {p = p} {a = a} e (k, b, t, w)) = inr (record { parent = p; position = suc k; occurrence = 0; taken = b; link = parent_of q p k ux 0 a b t w; place = refl; takes = t })
    woken_beside U q h _ ux (sibling {p = p} {a = a} {u = u} {k = i} e l (k, b, t, w)) =
        let c = li p u i ux l in
        inr (record { parent = u; position = suc k; occurrence = i; taken = b; link = parent_of q u k c.2.parent_used i a b t w; place = ap (at_of u (T u).kids) c.1 ∙ c.2.is; takes = t })

    beside_woken : (U : Table) (q h : ℕ) (x : Instance) → used q ≡ true → Beside σ T q x → Woken σ T U q h x
    beside_woken U q h x uq s = go (li q s.parent s.position uq s.link)
      where
        u : ℕ
        u = s.parent

        go : (m : ℕ) × (s.position ≡ suc m) × Child T used q s.parent m → Woken σ T U q h x
        go (m, em, c) = by s.occurrence s.place (subst (λ z. Takes (rule σ (T u).rule) s.occurrence x.1 z s.taken) em s.takes)
          where
            defined : (o : ℕ) → Takes (rule σ (T u).rule) o x.1 (suc m) s.taken → Defines σ (rule σ (T u).rule) o x.1
            defined o t = target_defined u o x.1 (suc m) s.taken c.parent_used t

            at_child : (o : ℕ) → Defines σ (rule σ (T u).rule) o x.1 → at_of u (T u).kids o ≡ x.0 → Takes (rule σ (T u).rule) o x.1 (suc m) s.taken → Woken σ T U q h x
            at_child _ (own-defined {j = j} h') e t =
                subst (λ z. Woken σ T U q h (z, x.1)) e (own-woken (flow_at M σ T ac (rule σ (T u).rule).left x.1 j Synthesized u refl h') (m, s.taken, t, c.is))
            at_child _ (given {k = k} {j = j} l h') e t =
                let w : k < length (T u).kids = subst (λ z. k < z) (sym (sh.kids u c.parent_used)) l in
                subst (λ z. Woken σ T U q h (z, x.1)) e
                (sibling (flow_at M σ T ac (get_or (rule σ (T u).rule).right k 0) x.1 j Inherited (get_or (T u).kids k 0) (sh.kid_symbol u k c.parent_used w) h') (sh.kid_link u k c.parent_used w) (m, s.taken, t, c.is))

            by : (o : ℕ) → at_of u (T u).kids o ≡ x.0 → Takes (rule σ (T u).rule) o x.1 (suc m) s.taken → Woken σ T U q h x
            by o e t = at_child o (defined o t) e t

root_woken : (σ : Grammar) (T U : Table) (q h : ℕ) (x : Instance) → x.0 ≡ h → flow_of σ T x ≡ Inherited → Woken σ T U q h x
root_woken σ T U q h x e f = subst (λ z. Woken σ T U q h (z, x.1)) (sym e) (root (subst (λ z. flow_of σ T (z, x.1) ≡ Inherited) e f))

-- a meaning for laws that need none
abbrev nothing_meant : Meaning (Unit {0})
nothing_meant = record { leaf = λ c. tt; result = λ f a b c. tt }

pub takers : (V : Type 0) → Takers V
takers V = record {
  arguments = λ M σ so T used r sh li x j ux uj.
      (from_flow M σ so T used r sh li x j uj (flow_of σ T j), to_sources M σ so T used r sh li x j ux);
  woken = λ σ so T U used r sh li q h x uq ux. (
    woken_beside nothing_meant σ so T used r sh li U q h x ux,
    λ w. elim w [
      | inl e ↦ root_woken σ T U q h x e.0 e.1
      | inr b ↦ beside_woken nothing_meant σ so T used r sh li U q h x uq b
    ],
  );
}
