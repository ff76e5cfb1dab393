use Rattle.std.proofs.Common.{◌≡◌, ◌+◌, ◌<◌, false, drop, sym, ap, ◌∙◌, arith}
use Rattle.std.specs.Str.{bytes_eq}
use Rattle.plans.specs.PlanTests.{numbers_from, turns_of}
use Rattle.plans.proofs.TurnOrder.{order_from, order_none, order_other, order_more, order_wrong, order_over, order_end}
use Rattle.plans.proofs.Group.in_order.Goals as goal
use Rattle.plans.proofs.Group.in_order.Goals.{in-Some+else-done-visits+else-turn-done, in_default, then-done-visits-via-then-done-visits, then-done-visits-via-else-done-visits+then-turn-done}

pub loop-x-init : goal.loop-x-init
loop-x-init c =
    let plan = c.args.self.now.plan.now in
    let k = c.args.occurrence in
    (order_none k c.visits-visits.result plan ∙ ap (λ n. bytes_eq (turns_of k plan) (numbers_from 1 n)) c.visits-visits.ensures, omega arith)

pub loop-x-preserved : goal.loop-x-preserved
loop-x-preserved c =
    let plan = c.args.self.now.plan.now in
    let k = c.args.occurrence in
    let n = c.visits-visits.result in
    let m = c.loop-x.done in
    let i = c.loop-x.x-index in
    elim c.match-turn_of.branch [
      | in-Some+else-done-visits+else-turn-done w ↦
          let l : m < n = omega arith in
          (ap (λ d. order_from k n d (drop (i + 1) plan)) w.done-is ∙ order_more k n m plan i _ w.in-Some.turn c.loop-x-test.true w.in-Some.ensures l w.if-turn-done.false ∙ c.loop-x.invariant.0, omega arith)
      | in_default w ↦ (ap (λ d. order_from k n d (drop (i + 1) plan)) w.done-is ∙ order_other k n m plan i _ c.loop-x-test.true w.in_default.ensures ∙ c.loop-x.invariant.0, omega arith)
    ]

pub returns-then-done-visits : goal.returns-then-done-visits
returns-then-done-visits c =
    let plan = c.args.self.now.plan.now in
    let k = c.args.occurrence in
    let n = c.visits-visits.result in
    let m = c.loop-x.done in
    let i = c.loop-x.x-index in
    let broken : order_from k n m (drop i plan) ≡ false =
    elim c.then-done-visits.branch [
      | then-done-visits-via-then-done-visits w ↦ order_over k n m plan i _ c.in-Some.turn c.loop-x-test.true c.in-Some.ensures (omega arith)
      | then-done-visits-via-else-done-visits+then-turn-done w ↦ order_wrong k n m plan i _ c.in-Some.turn c.loop-x-test.true c.in-Some.ensures (omega arith) w.if-turn-done.true
    ] in
    sym broken ∙ c.loop-x.invariant.0

pub returns : goal.returns
returns c =
    let plan = c.args.self.now.plan.now in
    let k = c.args.occurrence in
    sym (order_end k c.visits-visits.result c.loop-x.done plan c.loop-x.x-index c.loop-x-test.false c.loop-x.invariant.1) ∙ c.loop-x.invariant.0
