use Rattle.tour.proofs.exchange_stands.Goals as goal
use Rattle.tour.proofs.Grafts.{graft_law}
use Rattle.tour.proofs.Steady.{steadiness}

pub returns : goal.returns
returns g c = record { trees = graft_law; steady = steadiness _ }
