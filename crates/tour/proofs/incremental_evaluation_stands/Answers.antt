use Rattle.tour.proofs.incremental_evaluation_stands.Goals as goal
use Rattle.tour.proofs.Incremental.{incremental}

pub returns : goal.returns
returns g c = incremental _
