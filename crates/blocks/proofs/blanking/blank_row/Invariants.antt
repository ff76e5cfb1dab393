use Rattle.std.proofs.Common.{◌≡◌, ◌+◌, ◌-◌}
use borrow.Rule.Slice.PartMut.{put_mid}
use Rattle.blocks.specs.Blank.{blank_row}
use Rattle.blocks.proofs.blanking.blank_row.Given as goal

abbrev pub invariant-loop-value : goal.invariant-loop-value
invariant-loop-value g l = put_mid l.first (l.first + l.count - l.first) l.fn.values l.value-items ≡ blank_row l.blank l.place l.value-index l.fn.values
