use Rattle.std.proofs.Common.{◌≡◌, ◌≤◌, drop}
use Rattle.grammar.specs.Scopes.{scope_of}
use Rattle.plans.specs.PlanTests.{in_order}
use Rattle.plans.proofs.TurnOrder.{order_from}
use Rattle.plans.proofs.Group.in_order.Given as goal

abbrev pub invariant-loop-x : goal.invariant-loop-x
invariant-loop-x l = (order_from l.occurrence l.visits l.done (drop l.x-index l.self.plan.now) ≡ in_order (scope_of l.self.production) l.self.plan.now l.occurrence) × (l.done ≤ l.visits)
