use Rattle.std.proofs.Common.{[], ◌+◌, ◌-◌, ◌*◌, ◌<◌, length, arith, rules}
use Rattle.blocks.proofs.Values.{row_more}
use Rattle.blocks.proofs.blanking.blank_row.Goals as goal

pub loop-value-preserved : goal.loop-value-preserved
loop-value-preserved g c =
    let i = c.loop-value.value-index in
    let l : i < length c.loop-value.value-items = search rules in
    row_more (record { symbols = []; rules = [] }) c.args.blank c.args.place (16 * c.args.place + c.args.count - 16 * c.args.place) i c.args.values.now c.loop-value.value-items (omega (arith, c.requires)) l c.loop-value.invariant
