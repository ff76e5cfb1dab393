use Rattle.std.proofs.Common.{◌-◌, sym, ◌∙◌, arith}
use Rattle.grammar.proofs.Elements.{item_nth, nth_later}
use Rattle.grammar.proofs.production.Production.at.Goals as goal

pub returns-in_default : goal.returns-in_default
returns-in_default c =
    c.copied.ensures
    ∙ item_nth c.args.self.now.right.now (c.args.occurrence - 1) c.get.result c.get.ensures.lookup
    ∙ sym (nth_later c.args.self.now.left c.args.self.now.right.now c.args.occurrence (omega arith))
