use Rattle.std.proofs.Common.{◌≡◌, ◌+◌, ◌-◌, sym, subst, arith}
use Rattle.places.proofs.Ascents.{Passed, passed_more, passed_ended, passed_all}
use Rattle.places.proofs.climbing.climb.Goals as goal

pub returns-in_default : goal.returns-in_default
returns-in_default c =
    let r = passed_ended c.args.places.now c.args.p (63 - c.loop-above.above) c.loop-above.above c.loop-above.top (sym c.in_default.ensures)
    (subst (λ n. Passed c.args.places.now 64 c.args.p n c.loop-above.above c.loop-above.top) (omega arith) c.loop-above.invariant.0) in
    record { climbed = r; fits = c.loop-above.invariant.1 }

pub loop-above-preserved : goal.loop-above-preserved
loop-above-preserved c = (
  subst (λ q. Passed c.args.places.now 64 c.args.p (64 - (c.loop-above.above + 1)) (c.loop-above.above + 1) q) (sym c.from-top.ensures)
      (passed_more c.args.places.now 64 c.args.p (64 - (c.loop-above.above + 1)) c.loop-above.above c.loop-above.top c.in-Some.parent
      (subst (λ n. Passed c.args.places.now 64 c.args.p n c.loop-above.above c.loop-above.top) (omega arith) c.loop-above.invariant.0)
      (sym c.in-Some.ensures)),
  λ h. omega arith,
)

pub returns : goal.returns
returns c =
    let done : c.loop-above.above ≡ 64 = omega arith in
    let r = passed_all c.args.places.now c.args.p c.loop-above.top
    (subst (λ n. Passed c.args.places.now 64 c.args.p (64 - n) n c.loop-above.top) done c.loop-above.invariant.0) in
    record { climbed = r; fits = c.loop-above.invariant.1 }
