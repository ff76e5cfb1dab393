use Rattle.std.proofs.Common.{vec_items, sym, ◌∙◌}
use Rattle.std.proofs.lemmas.List.{length-map}
use Rattle.reader.specs.Views.{rule_of}
use Rattle.reader.proofs.tables.Tables.rule_count.Goals as goal

pub returns : goal.returns
returns c = c.len.ensures ∙ c.args.self.now.rules.ok.0 ∙ sym (length-map (vec_items c.args.self.now.rules) (rule_of (vec_items c.args.self.now.equations) (vec_items c.args.self.now.plan)))
