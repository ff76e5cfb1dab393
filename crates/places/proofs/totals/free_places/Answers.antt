use Rattle.std.proofs.Common.{◌+◌, not, None, sym, ap, ◌∙◌, arith}
use Rattle.std.proofs.lemmas.List.{take_all}
use Rattle.std.proofs.lemmas.List.Sums.{count_by_more_yes, count_by_more_no}
use Rattle.places.specs.Totals.{free_in, is_free}
use Rattle.places.proofs.Counting.{free_length}
use Rattle.places.proofs.totals.free_places.Goals as goal
use Rattle.places.proofs.totals.free_places.Goals.{then-is_none, else-is_none}

pub loop-place-preserved : goal.loop-place-preserved
loop-place-preserved c = elim c.if-is_none.branch [
  | then-is_none w ↦ (w.free-is ∙ ap (λ n. n + 1) c.loop-place.invariant.0 ∙ sym (count_by_more_yes is_free c.args.places.now c.loop-place.place-index None c.loop-place-test.true (ap not w.if-is_none.ensures)), omega (arith, w.free-is, c.loop-place.invariant.1))
  | else-is_none w ↦ (w.free-is ∙ c.loop-place.invariant.0 ∙ sym (count_by_more_no is_free c.args.places.now c.loop-place.place-index None c.loop-place-test.true (ap not w.if-is_none.ensures)), omega (arith, w.free-is, c.loop-place.invariant.1))
]

pub returns : goal.returns
returns c =
    let counted = c.loop-place.invariant.0 ∙ ap free_in (take_all c.loop-place.place-index c.args.places.now (omega arith)) in
    record { count = counted; listed = counted ∙ sym (free_length 0 c.args.places.now) }
