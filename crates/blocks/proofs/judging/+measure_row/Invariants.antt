use Rattle.std.proofs.Common.{length}
use Rattle.blocks.proofs.judging.+measure_row.Given as goal

abbrev pub decreases-measure_row : goal.decreases-measure_row
decreases-measure_row l = length l.pieces.now
