use Rattle.tour.proofs.trees_stand.Goals as goal
use Rattle.tour.proofs.Shapes.{roots_law}

pub returns : goal.returns
returns c = roots_law
