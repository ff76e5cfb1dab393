use Rattle.walk.proofs.Marking.{marks_passed}
use Rattle.walk.proofs.laws.marks_are_passed.Goals as goal

pub returns : goal.returns
returns c = marks_passed
