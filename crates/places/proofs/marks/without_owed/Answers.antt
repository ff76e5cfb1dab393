use Rattle.std.proofs.Common.{refl, arith}
use Rattle.std.proofs.lemmas.Nat.{one_shl}
use Rattle.places.proofs.Digits.{turned_off, owes_high}
use Rattle.places.proofs.marks.without_owed.Goals as goal

pub returns-then-attribute-lt16 : goal.returns-then-attribute-lt16
returns-then-attribute-lt16 c = rw (one_shl c.args.attribute 16 c.if-attribute-lt16.true) (turned_off c.args.marks c.args.attribute (omega arith) c.if-attribute-lt16.true)

pub returns-else-attribute-lt16 : goal.returns-else-attribute-lt16
returns-else-attribute-lt16 c = record { there = owes_high 16 c.args.marks c.args.attribute (omega arith) (omega arith); others = λ k n. refl }
