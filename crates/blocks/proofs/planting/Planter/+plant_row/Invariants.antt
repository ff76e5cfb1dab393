use Rattle.std.proofs.Common.{length}
use Rattle.blocks.proofs.planting.Planter.+plant_row.Given as goal

abbrev pub decreases-plant_row : goal.decreases-plant_row
decreases-plant_row l = length l.self.now.pieces.now
