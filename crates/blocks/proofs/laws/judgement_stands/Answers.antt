use Rattle.blocks.proofs.Judged.{judgement}
use Rattle.blocks.proofs.laws.judgement_stands.Goals as goal

pub returns : goal.returns
returns c = judgement
