use Rattle.std.proofs.Common.{sym, ap, ◌∙◌}
use Rattle.std.proofs.lemmas.Result.{err_from_is_err_and}
use Rattle.reader.specs.Judgement.Outcome.{fault}
use Rattle.reader.proofs.Folding.{one_more, refused_line, text_ended}
use Rattle.reader.proofs.tables.Tables.read_lines.Goals as goal

pub returns-in_err-read_line : goal.returns-in_err-read_line
returns-in_err-read_line c =
    let p = err_from_is_err_and c.from_residual.result c.from_residual.ensures.1 in
    let f = c.in_err-read_line.field-0.0 in
    rw (p.1, p.2)
    (refused_line _ _ _ _ _ (record { before = c.in-Some.line.now; after = c.in-Some.after.now }) f.refusal c.loop-line.invariant c.in-Some.ensures.0 c.in_err-read_line.ensures.0
    ∙ ap (λ n. fault (record { refusal = f.refusal; line = n })) (sym c.in_err-read_line.ensures.1))

pub loop-line-preserved : goal.loop-line-preserved
loop-line-preserved c = one_more _ _ _ _ _ (record { before = c.in-Some.line.now; after = c.in-Some.after.now }) _ c.loop-line.invariant c.in-Some.ensures.0 c.in-Some.ensures.1 c.in_ok-read_line.ensures

pub returns : goal.returns
returns c = text_ended _ _ _ _ _ c.ends_before.result c.require.result c.loop-line.invariant c.in_default.ensures c.ends_before.ensures c.require.ensures
