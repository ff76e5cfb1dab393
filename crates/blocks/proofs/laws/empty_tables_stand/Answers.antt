use Rattle.blocks.proofs.Soundness.{empty_law}
use Rattle.blocks.proofs.laws.empty_tables_stand.Goals as goal

pub returns : goal.returns
returns c = empty_law
