use Rattle.walk.proofs.Moving.{moving}
use Rattle.walk.proofs.laws.moves_stand.Goals as goal

pub returns : goal.returns
returns c = moving
