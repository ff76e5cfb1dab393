use Rattle.std.proofs.Common.{ap, ◌∙◌, rules}
use borrow.Author.Tests.{tests}
use Rattle.std.proofs.lemmas.Iterator.{YieldsList-from_slice}
use Rattle.std.proofs.lemmas.Iterator.Search.{any_from_yields_List}
use Rattle.grammar.specs.Tests.{some}
use Rattle.exchange.specs.Takers.{takes_from}
use Rattle.exchange.proofs.Somes.{some_any}
use Rattle.exchange.proofs.takers.takes.Goals as goal

pub returns : goal.returns
returns c =
    any_from_yields_List (takes_from c.args.from) _ _ _ c.any.ensures.ran (YieldsList-from_slice c.as_slice.result.now cc) (λ x b q k. search (rules, tests))
    ∙ some_any (takes_from c.args.from) c.as_slice.result.now ∙ ap (some (takes_from c.args.from)) c.as_slice.ensures.value
