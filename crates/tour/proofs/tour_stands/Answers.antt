use Rattle.tour.proofs.tour_stands.Goals as goal
use Rattle.tour.proofs.Touring.{tour_law}

pub returns : goal.returns
returns c = tour_law
