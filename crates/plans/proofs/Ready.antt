-- What each instruction of a plan asks of those before it.
use Rattle.std.proofs.Common.{◌≡◌, ℕ, zero, suc, not, ◌||◌, eqb, List, map, length, take, count_by, Some, None, Decides, Option, sym, refl, ap, ◌∙◌, subst}
use Rattle.std.specs.List.{AllByRecursion}
use Rattle.std.proofs.lemmas.Bool.Decides.{Decides-eqb, Decides-and, Decides-like, Decides-below_and}
use Rattle.std.proofs.ByRecursion.{Decides-by_and}
use Rattle.std.proofs.Math.Seq.{take-length}
use Rattle.std.specs.Prelude.{nat_le}
use Rattle.grammar.specs.Model.{Equation}
use Rattle.grammar.specs.Rows.{equation_of}
use Rattle.grammar.specs.Tests.{every, every_below}
use Rattle.grammar.specs.Scopes.{Scope, attribute_at, attributes_at}
use Rattle.grammar.specs.Rows.{EquationRow}
use Rattle.grammar.specs.declared.terms.Flow.{Flow}
use Rattle.grammar.specs.declared.terms.Flow.TheVariants.{Inherited, Synthesized}
use Rattle.grammar.specs.declared.terms.Attribute.{Attribute}
use Rattle.grammar.specs.declared.terms.Argument.{Argument}
use Rattle.grammar.specs.declared.terms.Argument.TheVariants.{Datum, Of}
use Rattle.grammar.specs.declared.terms.Instruction.{Instruction}
use Rattle.grammar.specs.declared.terms.Instruction.TheVariants.{Evaluate, Visit, Return}
use Rattle.plans.specs.PlanRules.{Before, KnownAt, Known, is_return, segment_at}
use Rattle.plans.specs.PlanTests.{attribute_is, stands, stands_before, evaluated_before, visit_ready, return_ready, flow_ready, known_at, known_or, known, targets, evaluation_ready}
use Rattle.plans.proofs.Deciding.{never, decides_leb, decides_implies}
use Rattle.plans.proofs.Places.{Throughout, all_throughout, throughout_all, throughout_map, map_throughout}
use Rattle.plans.proofs.Standing.{before_decides}
use Rattle.plans.proofs.Attributes.{attribute_within, attribute_decides}

-- each attribute of occurrence o with that flow and visit j is evaluated before place i
abbrev pub Evaluated : Scope → List Instruction → ℕ → Flow → ℕ → ℕ → Type 0
Evaluated σ plan i f o j = (a : ℕ) → attribute_at σ o a ≡ Some (record { flow = f; visit = j }) → Before plan i (Evaluate o a)

pub evaluated_decides : (σ : Scope) (plan : List Instruction) (i : ℕ) (f : Flow) (o j : ℕ) → Decides (evaluated_before σ plan i f o j) (Evaluated σ plan i f o j)
evaluated_decides σ plan i f o j =
    Decides-like _
    (λ h a e. h a (attribute_within σ o a _ e) e)
    (λ h a _ e. h a e)
    (Decides-below_and _ (λ a. attribute_at σ o a ≡ Some (record { flow = f; visit = j }) → Before plan i (Evaluate o a)) (every_below _) each refl (λ _. refl) (attributes_at σ o))
  where
    each : (a : ℕ) → Decides (not (attribute_is f j (attribute_at σ o a)) || stands_before plan i (Evaluate o a)) (attribute_at σ o a ≡ Some (record { flow = f; visit = j }) → Before plan i (Evaluate o a))
    each a = decides_implies (attribute_is f j (attribute_at σ o a)) (stands_before plan i (Evaluate o a)) (attribute_decides f j (attribute_at σ o a)) (before_decides plan i (Evaluate o a))

-- a visit asks for the inherited attributes of that visit
abbrev pub VisitReady : Scope → List Instruction → ℕ → Instruction → Type 0
VisitReady σ plan i x = (k j : ℕ) → x ≡ Visit k j → Evaluated σ plan i Inherited k j

pub visit_decides : (σ : Scope) (plan : List Instruction) (i : ℕ) (x : Instruction) → Decides (visit_ready σ plan i (Some x)) (VisitReady σ plan i x)
visit_decides σ plan i (Evaluate o a) = (λ _ k j e. never (cc), λ _. refl)
visit_decides σ plan i (Visit k j) = Decides-like _ there (λ h. h k j refl) (evaluated_decides σ plan i Inherited k j)
  where
    there : Evaluated σ plan i Inherited k j → VisitReady σ plan i (Visit k j)
    there h l m e a is = let u : k ≡ l = cc in let v : j ≡ m = cc in subst (λ y. Before plan i (Evaluate y a)) u (h a (ap (λ y. attribute_at σ y a) u ∙ is ∙ ap (λ w. Some (record { flow = Inherited; visit = w })) (sym v)))
visit_decides σ plan i (Return j) = (λ _ k m e. never (cc), λ _. refl)

-- a return asks for the synthesized attributes of the left symbol with that visit
abbrev pub ReturnReady : Scope → List Instruction → ℕ → Instruction → Type 0
ReturnReady σ plan i x = (j : ℕ) → x ≡ Return j → Evaluated σ plan i Synthesized 0 j

pub return_decides : (σ : Scope) (plan : List Instruction) (i : ℕ) (x : Instruction) → Decides (return_ready σ plan i (Some x)) (ReturnReady σ plan i x)
return_decides σ plan i (Evaluate o a) = (λ _ j e. never (cc), λ _. refl)
return_decides σ plan i (Visit k j) = (λ _ m e. never (cc), λ _. refl)
return_decides σ plan i (Return j) = Decides-like _ there (λ h. h j refl) (evaluated_decides σ plan i Synthesized 0 j)
  where
    there : Evaluated σ plan i Synthesized 0 j → ReturnReady σ plan i (Return j)
    there h m e a is = let v : j ≡ m = cc in h a (is ∙ ap (λ w. Some (record { flow = Synthesized; visit = w })) (sym v))

pub known_at_decides : (plan : List Instruction) (i k j : ℕ) → Decides (known_at plan i k j) (KnownAt plan i k j)
known_at_decides plan i zero j = decides_leb j (segment_at plan i)
known_at_decides plan i (suc k) j = before_decides plan i (Visit (suc k) j)

pub known_decides : (σ : Scope) (plan : List Instruction) (i : ℕ) (t : Argument) → Decides (known σ plan i t) (Known σ plan i t)
known_decides σ plan i Datum = (λ _. tt, λ _. refl)
known_decides σ plan i (Of k b) = by (attribute_at σ k b)
  where
    by : (t : Option Attribute) → Decides (known_or plan i k t) ((x : Attribute) → t ≡ Some x → KnownAt plan i k x.visit)
    by None = (λ _ x e. never (cc), λ _. refl)
    by (Some y) = Decides-like _ (λ h x e. let same : y ≡ x = cc in subst (λ z. KnownAt plan i k z.visit) same h) (λ h. h y refl) (known_at_decides plan i k y.visit)

-- what holds behind the part of a plan that stands before place i holds at place i
module _ (plan : List Instruction) (i : ℕ) where
  abbrev pub part : List Instruction
  part = take i plan

  evaluated_behind : (σ : Scope) (f : Flow) (o j : ℕ) → evaluated_before σ part (length part) f o j ≡ evaluated_before σ plan i f o j
  evaluated_behind σ f o j = ap (λ l. every_below (λ a. not (attribute_is f j (attribute_at σ o a)) || stands (Evaluate o a) l) (attributes_at σ o)) (take-length part)

  pub ready_behind : (f : Flow) (σ : Scope) (x : Option Instruction) → flow_ready f σ part (length part) x ≡ flow_ready f σ plan i x
  ready_behind Inherited σ None = refl
  ready_behind Inherited σ (Some (Evaluate o a)) = refl
  ready_behind Inherited σ (Some (Visit k j)) = evaluated_behind σ Inherited k j
  ready_behind Inherited σ (Some (Return j)) = refl
  ready_behind Synthesized σ None = refl
  ready_behind Synthesized σ (Some (Evaluate o a)) = refl
  ready_behind Synthesized σ (Some (Visit k j)) = refl
  ready_behind Synthesized σ (Some (Return j)) = evaluated_behind σ Synthesized 0 j

  known_at_behind : (k j : ℕ) → known_at part (length part) k j ≡ known_at plan i k j
  known_at_behind zero j = ap (λ l. nat_le j (suc (count_by is_return l))) (take-length part)
  known_at_behind (suc k) j = ap (stands (Visit (suc k) j)) (take-length part)

  pub known_behind : (σ : Scope) (t : Argument) → known σ part (length part) t ≡ known σ plan i t
  known_behind σ Datum = refl
  known_behind σ (Of k b) = by (attribute_at σ k b)
    where
      by : (t : Option Attribute) → known_or part (length part) k t ≡ known_or plan i k t
      by None = refl
      by (Some x) = known_at_behind k x.visit

pub target_decides : (e : Equation) (o a : ℕ) → Decides (targets e o a) ((e.occurrence ≡ o) × (e.attribute ≡ a))
target_decides e o a = Decides-and (eqb e.occurrence o) (eqb e.attribute a) (Decides-eqb e.occurrence o) (Decides-eqb e.attribute a)

-- an evaluation of o.a asks this of each equation
abbrev pub Follows : Scope → List Instruction → ℕ → ℕ → ℕ → Equation → Type 0
Follows σ plan i o a e = (e.occurrence ≡ o) × (e.attribute ≡ a) → AllByRecursion (Known σ plan i) e.arguments

-- an evaluation asks that the arguments of its equations are known
abbrev pub EvaluationReady : Scope → List Equation → List Instruction → ℕ → Instruction → Type 0
EvaluationReady σ equations plan i x = (o a : ℕ) → x ≡ Evaluate o a → Throughout (λ _ e. Follows σ plan i o a e) equations

pub evaluation_decides : (σ : Scope) (equations : List Equation) (plan : List Instruction) (i : ℕ) (x : Instruction) → Decides (evaluation_ready σ equations plan i (Some x)) (EvaluationReady σ equations plan i x)
evaluation_decides σ equations plan i (Evaluate o a) = Decides-like _ there here (Decides-by_and _ (Follows σ plan i o a) (every _) each refl (λ _ _. refl) equations)
  where
    each : (e : Equation) → Decides (not (targets e o a) || every (known σ plan i) e.arguments) (Follows σ plan i o a e)
    each e =
        decides_implies (targets e o a) (every (known σ plan i) e.arguments)
        (target_decides e o a)
        (Decides-by_and (known σ plan i) (Known σ plan i) (every (known σ plan i)) (known_decides σ plan i) refl (λ _ _. refl) e.arguments)

    there : AllByRecursion (Follows σ plan i o a) equations → EvaluationReady σ equations plan i (Evaluate o a)
    there h p b is q e at to = all_throughout (Follows σ plan i o a) equations h q e at (let u = to.0 in let v = to.1 in (cc, cc))

    here : EvaluationReady σ equations plan i (Evaluate o a) → AllByRecursion (Follows σ plan i o a) equations
    here h = throughout_all (Follows σ plan i o a) equations (h o a refl)
evaluation_decides σ equations plan i (Visit k j) = (λ _ o a e. never (cc), λ _. refl)
evaluation_decides σ equations plan i (Return j) = (λ _ o a e. never (cc), λ _. refl)

module _ (σ : Scope) (rows : List EquationRow) (plan : List Instruction) (i : ℕ) (x : Instruction) (o a : ℕ) (is : x ≡ Evaluate o a) where
  pub evaluation_from : Throughout (λ _ e. Follows σ plan i o a (equation_of e)) rows → EvaluationReady σ (map equation_of rows) plan i x
  evaluation_from h p b same q e at to = throughout_map equation_of (λ _ e. Follows σ plan i o a e) rows h q e at (let u = to.0 in let v = to.1 in (cc, cc))

  pub evaluation_at : EvaluationReady σ (map equation_of rows) plan i x → Throughout (λ _ e. Follows σ plan i o a (equation_of e)) rows
  evaluation_at h = map_throughout equation_of (λ _ e. Follows σ plan i o a e) rows (h o a is)
