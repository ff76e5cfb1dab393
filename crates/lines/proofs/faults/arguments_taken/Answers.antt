use Rattle.std.proofs.Common.{rules}
use borrow.Author.Tests.{tests}
use Rattle.grammar.specs.Scopes.{scope_of, argument_taken}
use Rattle.plans.proofs.Chains.{every_asked}
use Rattle.lines.proofs.faults.arguments_taken.Goals as goal

pub returns : goal.returns
returns c = every_asked (argument_taken (scope_of c.args.production)) c.args.arguments.now _ _ _ c.all.ensures.ran (cc) (λ x b q k. search (rules, tests))
