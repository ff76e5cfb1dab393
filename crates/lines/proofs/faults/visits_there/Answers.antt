use Rattle.std.proofs.Common.{rules}
use borrow.Author.Tests.{tests}
use Rattle.lines.specs.Faults.{between1}
use Rattle.plans.proofs.Chains.{every_asked}
use Rattle.lines.proofs.faults.visits_there.Goals as goal

pub returns : goal.returns
returns c = every_asked (λ x. between1 c.args.symbol.now.visits x.visit) c.args.symbol.now.attributes.items _ _ _ c.all.ensures.ran (cc) (λ x b q k. search (rules, tests))
