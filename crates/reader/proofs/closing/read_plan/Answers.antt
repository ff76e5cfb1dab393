use Rattle.std.proofs.Common.{rules, vec_items, ◌∙◌, arith}
use Rattle.reader.proofs.PlanWords.{one_pushed, one_over}
use Rattle.reader.proofs.closing.read_plan.Goals as goal

pub loop-placed-preserved-then-len-lt1024 : goal.loop-placed-preserved-then-len-lt1024
loop-placed-preserved-then-len-lt1024 c = (
  tt,
  tt,
  one_pushed _ _ _ (vec_items c.loop-placed.plan) _ _ _ _ c.in_ok-instruction.instruction c.loop-placed.invariant.2 c.in-Some.ensures.steps.0 (search rules) (omega (arith, c.len-in-loop-placed.ensures, c.if-len-lt1024.true, c.loop-placed.plan.ok.0)) c.push_reserved.ensures.items,
  c.push_reserved.ensures.capacity ∙ c.loop-placed.invariant.3,
  omega (arith, c.push_reserved.ensures.len, c.loop-placed.invariant.4),
)

pub loop-placed-preserved : goal.loop-placed-preserved
loop-placed-preserved c = (
  tt,
  tt,
  one_over _ _ _ (vec_items c.loop-placed.plan) _ _ _ c.in_ok-instruction.instruction c.loop-placed.invariant.2 c.in-Some.ensures.steps.0 (search rules) (omega (arith, c.len-in-loop-placed.ensures, c.if-len-lt1024.false, c.loop-placed.plan.ok.0)),
  c.loop-placed.invariant.3,
  c.loop-placed.invariant.4,
)
