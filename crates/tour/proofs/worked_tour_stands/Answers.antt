use Rattle.tour.proofs.worked_tour_stands.Goals as goal
use Rattle.tour.proofs.Worked.{worked_tour}

pub returns : goal.returns
returns c = worked_tour
