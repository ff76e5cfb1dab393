use Rattle.tour.proofs.Entering.{entry_law}
use Rattle.tour.proofs.OneWalk.{one_walk}
use Rattle.tour.proofs.Walks.{walk_law}
use Rattle.tour.proofs.one_walk_stands.Goals as goal

pub returns : goal.returns
returns g c = record { frames = walk_law; entries = entry_law; settles = one_walk _ }
