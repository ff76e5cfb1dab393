use Rattle.std.proofs.Common.{arith}
use Rattle.places.proofs.Digits.{ones_below}
use Rattle.places.proofs.marks.count_owed.Goals as goal

pub returns : goal.returns
returns c = ones_below 16 c.args.marks (omega arith)
