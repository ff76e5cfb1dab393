use Rattle.exchange.proofs.Keeping.{freed_sound}
use Rattle.exchange.proofs.laws.freeing_stands.Goals as goal

pub returns : goal.returns
returns c = λ g ps qs block s f. freed_sound g ps qs block s f
