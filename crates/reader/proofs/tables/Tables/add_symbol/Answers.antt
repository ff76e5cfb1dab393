use Rattle.std.proofs.Common.{map, vec_items, sym, ap, ◌∙◌, arith}
use Rattle.std.proofs.lemmas.List.{length-map, map_push}
use Rattle.grammar.specs.Rows.{symbol_of}
use Rattle.lines.specs.Faults.{symbol_fault}
use Rattle.reader.specs.Steps.Step.{next}
use Rattle.reader.specs.Views.{state_of}
use Rattle.reader.proofs.Stepping.{taken, few_symbols}
use Rattle.reader.proofs.tables.Tables.add_symbol.Goals as goal

pub push_reserved-requires : goal.push_reserved-requires
push_reserved-requires c =
    omega (arith, few_symbols (state_of c.args.self.now).symbols c.in_ok-row.row.visits c.in_ok-row.row.attributes.items (c.in_ok-check_symbol.ensures ∙ ap (λ l. symbol_fault (map symbol_of l) c.in_ok-row.row.visits c.in_ok-row.row.attributes.items) c.deref.ensures.value), length-map (vec_items c.args.self.now.symbols) symbol_of, c.args.self.now.symbols.ok.0, c.args.self.now.symbol_room)

pub returns : goal.returns
returns c =
    let st = state_of c.args.self.now in
    taken st _ _ c.in_ok-row.ensures (c.in_ok-check_symbol.ensures ∙ ap (λ l. symbol_fault (map symbol_of l) c.in_ok-row.row.visits c.in_ok-row.row.attributes.items) c.deref.ensures.value)
    ∙ ap (λ ss. next (record { symbols = ss; rules = st.rules; opened = st.opened; sets = st.sets; steps = st.steps }))
    (sym (ap (map symbol_of) c.push_reserved.ensures.items ∙ map_push symbol_of (vec_items c.args.self.now.symbols) c.in_ok-row.row))
