use Rattle.std.proofs.Common.{true, ℕ, ◌≡◌, None, Some, refl, ◌∙◌, rules}
use Rattle.std.proofs.lemmas.Iterator.{YieldsList-from_slice}
use Rattle.std.proofs.lemmas.Iterator.Consumers.{YieldsList-from_enumerate}
use Rattle.std.proofs.lemmas.Iterator.Search.{all_from_yields_List}
use borrow.Author.Tests.{tests}
use Rattle.grammar.specs.declared.terms.Flow.TheVariants.{Inherited, Synthesized}
use Rattle.plans.specs.Groups.{group_scope}
use Rattle.plans.specs.PlanTests.{flow_ready}
use Rattle.plans.proofs.Chains.{all_places}
use Rattle.plans.proofs.Ready.{ready_behind}
use Rattle.plans.proofs.Group.all_ready.Goals as goal

pub returns : goal.returns
returns c =
    let plan = c.args.self.now.plan.now in
    let test = flow_ready c.args.flow (group_scope c.args.self.now) plan in
    let behind = λ (i : ℕ). ready_behind plan i c.args.flow (group_scope c.args.self.now) in
    all_from_yields_List (λ p. test p.0 (Some p.1)) _ _ _ c.all.ensures.ran (YieldsList-from_enumerate (YieldsList-from_slice plan (cc)) (cc)) (λ x b q k. search (rules, tests, behind))
    ∙ all_places test plan (λ i. elim c.args.flow as (λ f. flow_ready f (group_scope c.args.self.now) plan i None ≡ true) [ Inherited ↦ refl | Synthesized ↦ refl ])
