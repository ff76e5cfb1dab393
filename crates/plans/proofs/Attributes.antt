-- The attributes of an occurrence.
use Rattle.std.proofs.Common.{◌≡◌, ℕ, zero, suc, ◌<◌, eqb, length, Some, None, Decides, Option, refl, ap, ◌∙◌}
use Rattle.std.specs.List.{slice_get}
use Rattle.std.proofs.lemmas.Bool.Decides.{Decides-eqb, Decides-and, Decides-like}
use Rattle.grammar.specs.Model.{Symbol}
use Rattle.grammar.specs.Tests.{and_then}
use Rattle.grammar.specs.Scopes.{Scope, symbol_at, attribute_at, same_flow, flows, defines, takes, Defined, TakenAt, attributes_in, attributes_at}
use Rattle.grammar.specs.declared.terms.Flow.{Flow}
use Rattle.grammar.specs.declared.terms.Flow.TheVariants.{Inherited, Synthesized}
use Rattle.grammar.specs.declared.terms.Attribute.{Attribute}
use Rattle.plans.specs.PlanTests.{attribute_is}
use Rattle.plans.proofs.Deciding.{never}
use Rattle.plans.proofs.Places.{nth_within}

-- an attribute that is there has a number below the occurrence's number of attributes
pub attribute_within : (σ : Scope) (o a : ℕ) (x : Attribute) → attribute_at σ o a ≡ Some x → a < attributes_at σ o
attribute_within σ o a x e = by (symbol_at σ o) e
  where
    by : (s : Option Symbol) → and_then s (λ s. slice_get s.attributes a) ≡ Some x → a < attributes_in s
    by None h = never (cc)
    by (Some s) h = nth_within s.attributes a x h

-- and its occurrence is there
pub occurrence_within : (σ : Scope) (o a : ℕ) (x : Attribute) → attribute_at σ o a ≡ Some x → o < length σ.occurrences
occurrence_within σ o a x e = by (slice_get σ.occurrences o) refl e
  where
    by : (n : Option ℕ) → slice_get σ.occurrences o ≡ n → and_then (and_then n (λ s. slice_get σ.symbols s)) (λ s. slice_get s.attributes a) ≡ Some x → o < length σ.occurrences
    by None is h = never (cc)
    by (Some s) is h = nth_within σ.occurrences o s is

-- a defined attribute is there
pub defined_there : (σ : Scope) (o a : ℕ) → Defined σ o a → (x : Attribute) × (attribute_at σ o a ≡ Some x)
defined_there σ zero a (j, e) = (record { flow = Synthesized; visit = j }, e)
defined_there σ (suc k) a (j, e) = (record { flow = Inherited; visit = j }, e)

pub flow_decides : (f g : Flow) → Decides (same_flow f g) (f ≡ g)
flow_decides Inherited Inherited = (λ _. refl, λ _. refl)
flow_decides Inherited Synthesized = (λ h. never (cc), λ h. never (cc))
flow_decides Synthesized Inherited = (λ h. never (cc), λ h. never (cc))
flow_decides Synthesized Synthesized = (λ _. refl, λ _. refl)

abbrev attribute : Flow → ℕ → Attribute
attribute f j = record { flow = f; visit = j }

pub attribute_decides : (f : Flow) (j : ℕ) (t : Option Attribute) → Decides (attribute_is f j t) (t ≡ Some (record { flow = f; visit = j }))
attribute_decides f j None = (λ h. never (cc), λ h. never (cc))
attribute_decides f j (Some x) =
    Decides-like _
    (λ h. ap (λ g. Some (attribute g x.visit)) h.0 ∙ ap (λ v. Some (attribute f v)) h.1)
    (λ h. let same : x ≡ attribute f j = cc in (ap (λ y. y.flow) same, ap (λ y. y.visit) same))
    (Decides-and (same_flow x.flow f) (eqb x.visit j) (flow_decides x.flow f) (Decides-eqb x.visit j))

flows_decides : (f : Flow) (t : Option Attribute) → Decides (flows f t) ((j : ℕ) × (t ≡ Some (record { flow = f; visit = j })))
flows_decides f None = (λ h. never (cc), λ h. let e = h.1 in never (cc))
flows_decides f (Some x) =
    Decides-like _
    (λ h. (x.visit, ap (λ g. Some (attribute g x.visit)) h))
    (λ h. let e = h.1 in let same : x ≡ attribute f h.0 = cc in ap (λ y. y.flow) same)
    (flow_decides x.flow f)

pub defines_decides : (σ : Scope) (o a : ℕ) → Decides (defines σ o a) (Defined σ o a)
defines_decides σ zero a = flows_decides Synthesized (attribute_at σ 0 a)
defines_decides σ (suc k) a = flows_decides Inherited (attribute_at σ (suc k) a)

pub takes_decides : (σ : Scope) (o a : ℕ) → Decides (takes σ o a) (TakenAt σ o a)
takes_decides σ zero a = flows_decides Inherited (attribute_at σ 0 a)
takes_decides σ (suc k) a = flows_decides Synthesized (attribute_at σ (suc k) a)
