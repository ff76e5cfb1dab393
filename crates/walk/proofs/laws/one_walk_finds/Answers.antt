use Rattle.walk.proofs.OneWalk.{one_walk}
use Rattle.walk.proofs.laws.one_walk_finds.Goals as goal

pub returns : goal.returns
returns c = one_walk
