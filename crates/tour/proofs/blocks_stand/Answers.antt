use Rattle.tour.proofs.blocks_stand.Goals as goal
use Rattle.tour.proofs.Blocks.{block_law}

pub returns : goal.returns
returns c = block_law
