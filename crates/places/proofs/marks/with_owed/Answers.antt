use Rattle.std.proofs.lemmas.Nat.{one_shl}
use Rattle.places.proofs.Digits.{turned_on}
use Rattle.places.proofs.marks.with_owed.Goals as goal

pub returns : goal.returns
returns c = rw (one_shl c.args.attribute 16 c.requires) (turned_on c.args.marks c.args.attribute)
