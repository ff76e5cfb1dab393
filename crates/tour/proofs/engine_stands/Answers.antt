use Rattle.tour.proofs.Engines.{engine_law}
use Rattle.tour.proofs.Takers.{takers}
use Rattle.tour.proofs.engine_stands.Goals as goal

pub returns : goal.returns
returns g c = record { engine = engine_law _; takers = takers _ }
