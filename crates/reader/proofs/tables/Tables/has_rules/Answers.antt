use Rattle.std.proofs.Common.{not, vec_items, ap, ◌∙◌}
use Rattle.reader.specs.Views.{rule_of}
use Rattle.reader.proofs.Tabled.{empty_len}
use Rattle.reader.proofs.tables.Tables.has_rules.Goals as goal

pub returns : goal.returns
returns c = ap not (c.is_empty.ensures ∙ empty_len (rule_of (vec_items c.args.self.now.equations) (vec_items c.args.self.now.plan)) (vec_items c.args.self.now.rules) _ c.args.self.now.rules.ok.0)
