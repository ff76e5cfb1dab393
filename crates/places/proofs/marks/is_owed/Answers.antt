use Rattle.std.proofs.Common.{◌≡◌, ℕ, ◌/◌, ◌^◌, false, eqb, ltb, sym, ap, ◌∙◌, arith}
use lib.Bits.{and_mask}
use Rattle.std.proofs.lemmas.Bool.Decides.{nat_tests}
use Rattle.places.proofs.Digits.{owes_shift, owes_high}
use Rattle.places.proofs.marks.is_owed.Goals as goal

pub returns-then-attribute-lt16 : goal.returns-then-attribute-lt16
returns-then-attribute-lt16 c = ap (λ (x : ℕ). eqb x 1) (and_mask (c.args.marks / 2 ^ c.args.attribute) 1) ∙ sym (owes_shift c.args.marks c.args.attribute)

pub returns-else-attribute-lt16 : goal.returns-else-attribute-lt16
returns-else-attribute-lt16 c = let past : ltb c.args.attribute 16 ≡ false = grind (arith, nat_tests) in past ∙ sym (owes_high 16 c.args.marks c.args.attribute (omega arith) (omega arith))
