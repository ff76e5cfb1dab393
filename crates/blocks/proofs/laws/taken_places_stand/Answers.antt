use Rattle.blocks.proofs.Taking.{taken_takes}
use Rattle.blocks.proofs.laws.taken_places_stand.Goals as goal

pub returns : goal.returns
returns c = taken_takes
