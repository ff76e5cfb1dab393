use Rattle.std.proofs.Common.{arith, le-leb}
use Rattle.places.proofs.Looks.{shift_tells, wide_fits}
use Rattle.places.proofs.shape.marks_fit.Goals as goal

pub returns-then-attributes-ge16 : goal.returns-then-attributes-ge16
returns-then-attributes-ge16 c = (
  (λ _. wide_fits c.args.attributes c.args.marks c.if-attributes-ge16.true (omega arith)),
  λ _. le-leb 16 c.args.attributes c.if-attributes-ge16.true,
)

pub returns-else-attributes-ge16 : goal.returns-else-attributes-ge16
returns-else-attributes-ge16 c = shift_tells c.args.attributes c.args.marks
