use Rattle.std.proofs.Common.{sym, ◌∙◌}
use Rattle.exchange.proofs.Marking.{slept_free}
use Rattle.exchange.proofs.setting.clear_owed.Goals as goal

pub returns-in_default : goal.returns-in_default
returns-in_default c = slept_free c.args.places.now c.args.p c.args.a (sym c.node_at.ensures ∙ c.in_default.is)
