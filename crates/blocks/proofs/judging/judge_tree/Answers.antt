use Rattle.std.proofs.Common.{◌≡◌, ◌<◌, ◌≤◌, ◌==◌, true, false, length, Some, sym, ◌∙◌, rules, arith, leb}
use Rattle.std.proofs.lemmas.Bool.Decides.{nat_tests}
use Rattle.std.specs.Result.{result_err}
use Rattle.std.proofs.lemmas.Option.{MatchOption-at_some}
use Rattle.sheet.specs.Answers.{grammar_of}
use Rattle.blocks.specs.declared.piece.BlockFault.TheVariants.{Form, Depth}
use Rattle.blocks.proofs.Requiring.{refused, passed, asked}
use Rattle.blocks.proofs.Rows.{tree_fault_lem, left_over}
use Rattle.blocks.proofs.judging.judge_tree.Goals as goal

pub returns-in_err-require : goal.returns-in_err-require
returns-in_err-require c =
    let rest = c.in_ok-deepest.rest.now in
    let full : (length rest == 0) ≡ false = sym c.is_empty.ensures ∙ refused c.is_empty.result c.require.result Form _ c.require.ensures c.in_err-require.was in
    let l : 1 ≤ length rest = grind (arith, nat_tests) in
    let e : result_err c.from_residual-in_err-require.result ≡ Some Form = search rules in
    e ∙ left_over (grammar_of c.args.sheet.now) c.args.symbol c.in_ok-deepest.deepest c.args.pieces.now rest (MatchOption-at_some _ _ _ c.in_ok-deepest.ensures.ok_part c.measure_row.ensures) l

pub returns : goal.returns
returns c =
    let rest = c.in_ok-deepest.rest.now in
    let empty : (length rest == 0) ≡ true = sym c.is_empty.ensures ∙ passed c.is_empty.result c.require.result Form _ c.require.ensures c.in_ok-require.was in
    let l : length rest < 1 = grind (arith, nat_tests) in
    c.require-2.ensures ∙ asked (leb c.in_ok-deepest.deepest 64) Depth
    ∙ tree_fault_lem (grammar_of c.args.sheet.now) c.args.symbol c.in_ok-deepest.deepest c.args.pieces.now rest (MatchOption-at_some _ _ _ c.in_ok-deepest.ensures.ok_part c.measure_row.ensures) l
