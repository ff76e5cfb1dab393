use Rattle.exchange.proofs.Argued.{takers_named}
use Rattle.exchange.proofs.laws.takers_stand.Goals as goal

pub returns : goal.returns
returns g c = takers_named
