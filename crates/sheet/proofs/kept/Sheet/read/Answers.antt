use Rattle.sheet.proofs.Keeping.{keeps_accepted, judged, means}
use Rattle.sheet.proofs.kept.Sheet.read.Goals as goal

pub invariant_of-self : goal.invariant_of-self
invariant_of-self c = record { accepted = keeps_accepted c.read.result c.args.text.now c.read.new.self c.read.ensures }

pub returns : goal.returns
returns c = record {
  judged = judged c.read.result c.args.text.now c.read.new.self c.read.ensures;
  means = means c.read.result c.args.text.now c.read.new.self c.read.ensures;
}
