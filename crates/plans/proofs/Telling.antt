-- The tests of a plan tell just where its rules hold.
use Rattle.std.proofs.Common.{ℕ, zero, suc, ◌-◌, ◌<◌, List, length, Some, Decides, refl, ap, ◌∙◌, arith}
use Rattle.std.proofs.lemmas.Slice.Eq.{bytes_eq-Decides}
use Rattle.std.proofs.lemmas.Bool.Decides.{Decides-and, Decides-like, Decides-below_and}
use Rattle.std.proofs.ByRecursion.{Decides-by_and}
use Rattle.grammar.specs.Model.{Equation}
use Rattle.grammar.specs.Tests.{every, every_below}
use Rattle.grammar.specs.Scopes.{Scope, visits_at, defines, Defined, attributes_at}
use Rattle.grammar.specs.declared.terms.Instruction.{Instruction}
use Rattle.grammar.specs.declared.terms.Instruction.TheVariants.{Evaluate, Visit, Return}
use Rattle.grammar.specs.declared.refusal.PlanRule.TheVariants.{ReturnsInOrder, OneEvaluation, VisitsInOrder, InheritedBeforeVisit, SynthesizedBeforeReturn, ArgumentsFirst}
use Rattle.plans.specs.PlanRules.{Stands, VisitsStandInOrder, InheritedStandBeforeVisit, SynthesizedStandBeforeReturn, ArgumentsStandFirst}
use Rattle.plans.specs.PlanTests.{turns_of, numbers_from, in_order, TurnsInOrder, ends_with, once, evaluates_defined, evaluates_once, visit_ready, return_ready, evaluation_ready}
use Rattle.plans.specs.Groups.{TestsTell}
use Rattle.plans.proofs.Deciding.{never, decides_implies}
use Rattle.plans.proofs.Places.{Throughout, decides_throughout, all_throughout, throughout_all}
use Rattle.plans.proofs.Standing.{Once, once_decides, ends_decides}
use Rattle.plans.proofs.Attributes.{attribute_within, occurrence_within, defined_there, defines_decides}
use Rattle.plans.proofs.Defining.{OnceAt, EvaluatesDefined, defined_like}
use Rattle.plans.proofs.TurnsByPlace.{turns_from, turns_at}
use Rattle.plans.proofs.Ready.{VisitReady, ReturnReady, EvaluationReady, visit_decides, return_decides, evaluation_decides}

pub order_decides : (σ : Scope) (plan : List Instruction) (k : ℕ) → Decides (in_order σ plan k) (TurnsInOrder σ plan k)
order_decides σ plan k = Decides-like _ (turns_from σ plan k) (turns_at σ plan k) (bytes_eq-Decides (turns_of k plan) (numbers_from 1 (visits_at σ k)))

once_tells : (σ : Scope) (plan : List Instruction) → Decides (every_below (λ o. every_below (evaluates_once σ plan o) (attributes_at σ o)) (length σ.occurrences)) ((o : ℕ) → OnceAt σ plan o)
once_tells σ plan =
    Decides-like _ there (λ h o _ a _ d. h o a d)
    (Decides-below_and (λ o. every_below (evaluates_once σ plan o) (attributes_at σ o)) (λ o. (a : ℕ) → a < attributes_at σ o → Defined σ o a → Once plan (Evaluate o a)) (every_below _) at refl (λ _. refl) (length σ.occurrences))
  where
    at : (o : ℕ) → Decides (every_below (evaluates_once σ plan o) (attributes_at σ o)) ((a : ℕ) → a < attributes_at σ o → Defined σ o a → Once plan (Evaluate o a))
    at o =
        Decides-below_and (evaluates_once σ plan o) (λ a. Defined σ o a → Once plan (Evaluate o a)) (every_below (evaluates_once σ plan o))
        (λ a. decides_implies (defines σ o a) (once (Evaluate o a) plan) (defines_decides σ o a) (once_decides plan (Evaluate o a))) refl (λ _. refl) (attributes_at σ o)

    there : ((o : ℕ) → o < length σ.occurrences → (a : ℕ) → a < attributes_at σ o → Defined σ o a → Once plan (Evaluate o a)) → (o : ℕ) → OnceAt σ plan o
    there h o a d = let x = defined_there σ o a d in h o (occurrence_within σ o a x.0 x.1) a (attribute_within σ o a x.0 x.1) d

defined_decides : (σ : Scope) (x : Instruction) → Decides (evaluates_defined σ x) (EvaluatesDefined σ x)
defined_decides σ (Evaluate o a) = Decides-like _ (defined_like σ (Evaluate o a) o a refl) (λ h. h o a refl) (defines_decides σ o a)
defined_decides σ (Visit k j) = (λ _ o a e. never (cc), λ _. refl)
defined_decides σ (Return j) = (λ _ o a e. never (cc), λ _. refl)

defined_tells : (σ : Scope) (plan : List Instruction) → Decides (every (evaluates_defined σ) plan) ((i o a : ℕ) → Stands plan i (Evaluate o a) → Defined σ o a)
defined_tells σ plan =
    Decides-like _
    (λ h i o a s. all_throughout (EvaluatesDefined σ) plan h i (Evaluate o a) s o a refl)
    (λ h. throughout_all (EvaluatesDefined σ) plan (λ i x s o a e. h i o a (s ∙ ap Some e)))
    (Decides-by_and (evaluates_defined σ) (EvaluatesDefined σ) (every (evaluates_defined σ)) (defined_decides σ) refl (λ _ _. refl) plan)

visits_tell : (σ : Scope) (plan : List Instruction) → Decides (every_below (λ k. in_order σ plan (suc k)) (length σ.occurrences - 1)) (VisitsStandInOrder σ plan)
visits_tell σ plan =
    Decides-like _ there (λ h k l. h (suc k) (omega arith) (omega arith))
    (Decides-below_and (λ k. in_order σ plan (suc k)) (λ k. TurnsInOrder σ plan (suc k)) (every_below _) (λ k. order_decides σ plan (suc k)) refl (λ _. refl) (length σ.occurrences - 1))
  where
    there : ((k : ℕ) → k < length σ.occurrences - 1 → TurnsInOrder σ plan (suc k)) → VisitsStandInOrder σ plan
    there h zero low high = absurd (omega arith)
    there h (suc k) low high = h k (omega arith)

-- the rules that ask something at each place
pub inherited_from : (σ : Scope) (plan : List Instruction) → Throughout (VisitReady σ plan) plan → InheritedStandBeforeVisit σ plan
inherited_from σ plan h i k j a s = h i (Visit k j) s k j refl a

pub inherited_at_lem : (σ : Scope) (plan : List Instruction) → InheritedStandBeforeVisit σ plan → Throughout (VisitReady σ plan) plan
inherited_at_lem σ plan h i x s k j e a = h i k j a (s ∙ ap Some e)

pub synthesized_from : (σ : Scope) (plan : List Instruction) → Throughout (ReturnReady σ plan) plan → SynthesizedStandBeforeReturn σ plan
synthesized_from σ plan h i j a s = h i (Return j) s j refl a

pub synthesized_at : (σ : Scope) (plan : List Instruction) → SynthesizedStandBeforeReturn σ plan → Throughout (ReturnReady σ plan) plan
synthesized_at σ plan h i x s j e a = h i j a (s ∙ ap Some e)

pub arguments_from : (σ : Scope) (equations : List Equation) (plan : List Instruction) → Throughout (EvaluationReady σ equations plan) plan → ArgumentsStandFirst σ equations plan
arguments_from σ equations plan h i o a q e s at u v = h i (Evaluate o a) s o a refl q e at (u, v)

pub arguments_at : (σ : Scope) (equations : List Equation) (plan : List Instruction) → ArgumentsStandFirst σ equations plan → Throughout (EvaluationReady σ equations plan) plan
arguments_at σ equations plan h i x s o a e q f at to = h i o a q f (s ∙ ap Some e) at to.0 to.1

pub tests_tell : TestsTell
tests_tell ReturnsInOrder σ equations plan = Decides-and (in_order σ plan 0) (ends_with (Return (visits_at σ 0)) plan) (order_decides σ plan 0) (ends_decides plan (Return (visits_at σ 0)))
tests_tell OneEvaluation σ equations plan = Decides-and _ (every (evaluates_defined σ) plan) (once_tells σ plan) (defined_tells σ plan)
tests_tell VisitsInOrder σ equations plan = visits_tell σ plan
tests_tell InheritedBeforeVisit σ equations plan =
    Decides-like _ (inherited_from σ plan) (inherited_at_lem σ plan)
    (decides_throughout (visit_ready σ plan) (VisitReady σ plan) plan (λ _. refl) (visit_decides σ plan))
tests_tell SynthesizedBeforeReturn σ equations plan =
    Decides-like _ (synthesized_from σ plan) (synthesized_at σ plan)
    (decides_throughout (return_ready σ plan) (ReturnReady σ plan) plan (λ _. refl) (return_decides σ plan))
tests_tell ArgumentsFirst σ equations plan =
    Decides-like _ (arguments_from σ equations plan) (arguments_at σ equations plan)
    (decides_throughout (evaluation_ready σ equations plan) (EvaluationReady σ equations plan) plan (λ _. refl) (evaluation_decides σ equations plan))
