use Rattle.std.proofs.Common.{vec_items, sym, ◌∙◌}
use Rattle.std.proofs.lemmas.List.{length-map}
use Rattle.grammar.specs.Rows.{symbol_of}
use Rattle.reader.proofs.tables.Tables.symbol_count.Goals as goal

pub returns : goal.returns
returns c = c.len.ensures ∙ c.args.self.now.symbols.ok.0 ∙ sym (length-map (vec_items c.args.self.now.symbols) symbol_of)
