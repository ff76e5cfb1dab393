use Rattle.exchange.proofs.Exchangeable.{exchange_law}
use Rattle.exchange.proofs.laws.exchange_stands.Goals as goal

pub returns : goal.returns
returns c = exchange_law
