use Rattle.std.proofs.Common.{rules}
use borrow.Author.Tests.{tests}
use Rattle.grammar.specs.Scopes.{scope_of, instruction_there}
use Rattle.plans.proofs.Chains.{every_asked}
use Rattle.lines.proofs.faults.instructions_there.Goals as goal

pub returns : goal.returns
returns c = every_asked (instruction_there (scope_of c.args.production)) c.args.plan.now _ _ _ c.all.ensures.ran (cc) (λ x b q k. search (rules, tests))
