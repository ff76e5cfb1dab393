use Rattle.std.proofs.Common.{◌≡◌, ◌≤◌, vec_items, vec_len, vec_capacity}
use Rattle.words.specs.Left.{left}
use Rattle.reader.proofs.PlanWords.{PlannedSoFar}
use Rattle.reader.proofs.closing.read_plan.Given as goal

abbrev pub invariant-loop-placed : goal.invariant-loop-placed
invariant-loop-placed l =
    goal.iterator-loop-placed.can_next l.placed-iterator
    × goal.iterator-loop-placed.is_finite l.placed-iterator
    × PlannedSoFar (left l.fn.words) (left l.placed-iterator) (vec_items l.fn.plan) (vec_items l.plan) l.fits
    × (vec_capacity l.plan ≡ vec_capacity l.fn.plan)
    × (vec_len l.fn.plan ≤ vec_len l.plan)
