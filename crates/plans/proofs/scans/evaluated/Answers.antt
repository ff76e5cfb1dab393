use Rattle.std.proofs.Common.{rules}
use borrow.Author.Tests.{tests}
use Rattle.grammar.specs.declared.terms.Instruction.TheVariants.{Evaluate}
use Rattle.plans.specs.PlanTests.{same_instruction}
use Rattle.plans.proofs.Chains.{some_asked}
use Rattle.plans.proofs.scans.evaluated.Goals as goal

pub returns : goal.returns
returns c = some_asked (same_instruction (Evaluate c.args.o c.args.a)) c.args.plan.now _ _ _ c.any.ensures.ran (cc) (λ x b q k. search (rules, tests))
