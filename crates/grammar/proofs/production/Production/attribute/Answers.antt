use Rattle.std.proofs.Common.{◌∙◌}
use Rattle.grammar.proofs.Elements.{item_nth}
use Rattle.grammar.proofs.production.Production.attribute.Goals as goal

pub returns : goal.returns
returns c =
    c.copied.ensures
    ∙ item_nth c.attributes.result.now c.args.attribute c.get.result c.get.ensures.lookup
    ∙ c.attributes.ensures.each c.args.attribute
