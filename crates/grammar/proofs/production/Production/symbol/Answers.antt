use Rattle.std.proofs.Common.{map, ap, ◌∙◌}
use Rattle.std.specs.List.{slice_get}
use Rattle.grammar.specs.Rows.{symbol_of}
use Rattle.grammar.specs.Tests.{and_then}
use Rattle.grammar.proofs.Elements.{item_map}
use Rattle.grammar.proofs.production.Production.symbol.Goals as goal

pub returns : goal.returns
returns c =
    item_map symbol_of c.args.self.now.symbols.now c.from.result c.get.result c.get.ensures.lookup
    ∙ ap (slice_get (map symbol_of c.args.self.now.symbols.now)) c.from.ensures
    ∙ ap (λ o. and_then o (slice_get (map symbol_of c.args.self.now.symbols.now))) c.in_ok-at.ensures
