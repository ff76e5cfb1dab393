use Rattle.std.proofs.Common.{length}
use Rattle.sheet_vectors.proofs.judge_all.Given as goal

abbrev pub decreases-loop-line : goal.decreases-loop-line
decreases-loop-line l = length l.rest
