use Rattle.std.proofs.Common.{◌+◌, ◌-◌, ◌*◌, ◌≤◌, length}
use Rattle.places.specs.Stack.{stacked}
use Rattle.exchange.proofs.Blocks.{Freeing, used_in}
use Rattle.exchange.proofs.block.free_block.Given as goal

abbrev pub invariant-loop-p : goal.invariant-loop-p
invariant-loop-p l = (64 ≤ length l.path.cells.now) × Freeing l.initial.places l.places l.block (stacked l.path.cells.now l.path.len)

abbrev pub decreases-loop-p : goal.decreases-loop-p
decreases-loop-p l = 65 * used_in l.places + (64 - l.path.len)
