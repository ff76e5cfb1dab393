use Rattle.std.proofs.Common.{not, vec_items, ap, ◌∙◌}
use Rattle.grammar.specs.Rows.{symbol_of}
use Rattle.reader.proofs.Tabled.{empty_len}
use Rattle.reader.proofs.tables.Tables.has_symbols.Goals as goal

pub returns : goal.returns
returns c = ap not (c.is_empty.ensures ∙ empty_len symbol_of (vec_items c.args.self.now.symbols) _ c.args.self.now.symbols.ok.0)
