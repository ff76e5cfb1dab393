use Rattle.blocks.proofs.Soundness.{sound_law}
use Rattle.blocks.proofs.laws.written_blocks_stand.Goals as goal

pub returns : goal.returns
returns c = sound_law
