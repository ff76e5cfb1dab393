use Rattle.std.proofs.Common.{◌<◌, ◌≤◌, max, length, sym, ap, ◌∙◌, subst, rules, MatchOption}
use Rattle.sheet.specs.Answers.{grammar_of}
use Rattle.blocks.specs.Rows.{NoRow, Row}
use Rattle.blocks.proofs.Fronts.{front}
use Rattle.blocks.proofs.Rows.{row_none, row_ended, no_row_below, no_row_beside, row_more}
use Rattle.blocks.proofs.judging.+measure_row.Goals as goal

pub returns-in_default : goal.returns-in_default
returns-in_default t c = let l : length c.args.symbols.now < 1 = search rules in row_none (grammar_of c.args.sheet.now) c.args.symbols.now c.args.depth c.args.pieces.now l

pub returns-in_default-pieces : goal.returns-in_default-pieces
returns-in_default-pieces t c =
    let l : 1 ≤ length c.args.symbols.now = search rules in
    let m : length c.args.pieces.now < 1 = search rules in
    row_ended (grammar_of c.args.sheet.now) c.args.symbols.now c.args.pieces.now l m

pub returns-in_err-below : goal.returns-in_err-below
returns-in_err-below t c =
    let g = grammar_of c.args.sheet.now in
    let xs = c.args.symbols.now in
    let bs = c.args.pieces.now in
    let l : 1 ≤ length c.args.symbols.now = search rules in
    let m : 1 ≤ length c.args.pieces.now = search rules in
    subst (λ o. MatchOption o (NoRow g xs bs) (λ m. Row g xs c.args.depth bs m.0 m.1.now)) (sym c.from_residual-in_err-below.ensures)
    (no_row_below g xs bs _ _ _ _ _ _ _ (front xs 0 l) (front bs (record { rule = 0; datum = 0 }) m)
    c.in_ok-kind.ensures c.if-kind-symbol.false c.in_err-below.ensures)

pub returns-in_err-beside : goal.returns-in_err-beside
returns-in_err-beside t c =
    let g = grammar_of c.args.sheet.now in
    let xs = c.args.symbols.now in
    let bs = c.args.pieces.now in
    let l : 1 ≤ length c.args.symbols.now = search rules in
    let m : 1 ≤ length c.args.pieces.now = search rules in
    subst (λ o. MatchOption o (NoRow g xs bs) (λ m. Row g xs c.args.depth bs m.0 m.1.now)) (sym c.from_residual-in_err-beside.ensures)
    (no_row_beside g xs bs _ _ _ _ _ _ _ _ _ _ (front xs 0 l) (front bs (record { rule = 0; datum = 0 }) m)
    c.in_ok-kind.ensures c.if-kind-symbol.false c.in_ok-below.ensures c.in_err-beside.ensures)

pub returns : goal.returns
returns t c =
    let g = grammar_of c.args.sheet.now in
    let xs = c.args.symbols.now in
    let bs = c.args.pieces.now in
    let l : 1 ≤ length c.args.symbols.now = search rules in
    let m : 1 ≤ length c.args.pieces.now = search rules in
    subst (λ m. Row g xs c.args.depth bs m c.in_ok-beside.rest.now) (sym (c.max-2.ensures ∙ ap (λ z. max z c.in_ok-beside.beside) c.max.ensures))
    (row_more g xs bs _ _ _ _ _ _ _ _ _ _ _ _ (front xs 0 l) (front bs (record { rule = 0; datum = 0 }) m) c.in_ok-kind.ensures c.if-kind-symbol.false c.in_ok-below.ensures c.in_ok-beside.ensures)
