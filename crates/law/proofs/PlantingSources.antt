-- The arguments of an equation in a table in shape stand at used places.
use Rattle.std.proofs.Common.{◌≡◌, ℕ, zero, suc, ◌<◌, Bool, true, ◌⊎◌, List, [], ◌∷◌, map, sym, refl, subst, inl, inr}
use Rattle.grammar.specs.Model.{Grammar, Equation}
use Rattle.grammar.specs.declared.terms.Argument.{Argument}
use Rattle.grammar.specs.declared.terms.Argument.TheVariants.{Datum, Of}
use Rattle.grammar.specs.declared.terms.Flow.{Flow}
use Rattle.grammar.specs.declared.terms.Flow.TheVariants.{Inherited, Synthesized}
use Rattle.sheet.specs.Meaning.{Sound}
use Rattle.tour.specs.Nodes.{Link, Table, flow_of}
use Rattle.tour.specs.Nodes.Link.{top, under}
use Rattle.tour.specs.Results.{Meaning, no_equation, equation, source, own_sources, defining, link_sources, sources}
use Rattle.tour.specs.Rules.{rule, Takes}
use Rattle.tour.specs.Runs.{In, named}
use Rattle.tour.specs.Trees.{Instance, at_of}
use Rattle.tour.proofs.Accepted.{sound_accepted}
use Rattle.tour.proofs.Tables.{found_in}
use Rattle.places.proofs.Growing.{Ranked}

-- an argument among the sources of an equation
named_in : {V : Type 0} (M : Meaning V) (at : ℕ → ℕ) (code : ℕ) (y : Instance) (bs : List Argument) → In y (named (map (source M at code) bs)) → (p : ℕ) × (b : ℕ) × In (Of p b) bs × (y ≡ (at p, b))
named_in M at code y [] m = absurd m
named_in M at code y (Datum ∷ bs) m = let r = named_in M at code y bs m in (r.0, r.1, inr r.2, r.3)
named_in M at code y (Of p b ∷ bs) (inl e) = (p, b, inl refl, e)
named_in M at code y (Of p b ∷ bs) (inr m) = let r = named_in M at code y bs m in (r.0, r.1, inr r.2, r.3)

module _ {V : Type 0} (M : Meaning V) (σ : Grammar) (so : Sound σ) (T : Table) (used : ℕ → Bool) (sh : Ranked σ T used) where
  own_used : (p o a : ℕ) (y : Instance) → used p ≡ true → In y (named (own_sources M σ T p o a)) → used y.0 ≡ true
  own_used p o a y u m = go (found_in o a (rule σ (T p).rule).equations)
    where
      spot : (q b : ℕ) → Takes (rule σ (T p).rule) o a q b → used (at_of p (T p).kids q) ≡ true
      spot zero b t = u
      spot (suc k) b t = sh.kid_used p k u (subst (λ n. k < n) (sym (sh.kids p u)) (((sound_accepted σ so).rules (T p).rule (sh.rules p u)).0.argument_right o a k b t).0)

      go : (equation o a (rule σ (T p).rule).equations ≡ no_equation) ⊎ (In (equation o a (rule σ (T p).rule).equations) (rule σ (T p).rule).equations × ((equation o a (rule σ (T p).rule).equations).occurrence ≡ o) × ((equation o a (rule σ (T p).rule).equations).attribute ≡ a)) → used y.0 ≡ true
      go (inl w) = absurd (subst (λ (z : Equation). In y (named (map (source M (at_of p (T p).kids) (T p).code) z.arguments))) w m)
      go (inr (h, eo, ea)) =
          let w = named_in M (at_of p (T p).kids) (T p).code y (equation o a (rule σ (T p).rule).equations).arguments m in
          subst (λ (z : Instance). used z.0 ≡ true) (sym w.3) (spot w.0 w.1 (equation o a (rule σ (T p).rule).equations, h, eo, ea, w.2))

  -- what the equation of an instance takes stands at used places
  pub sources_used : (x y : Instance) → used x.0 ≡ true → In y (named (sources M σ T x)) → used y.0 ≡ true
  sources_used x y u m = go (flow_of σ T x) (T x.0).link refl m
    where
      go : (k : Flow) (l : Link) → (T x.0).link ≡ l → In y (named (link_sources M σ T (defining k x.0 l) x.1)) → used y.0 ≡ true
      go Synthesized l e n = own_used x.0 0 x.1 y u n
      go Inherited top e n = absurd n
      go Inherited (under p o) e n = own_used p o x.1 y (sh.link_used x.0 p o u e) n
