use Rattle.std.proofs.Common.{◌≡◌, ◌≤◌, take}
use Rattle.places.specs.Totals.{free_in}
use Rattle.places.proofs.totals.free_places.Given as goal

abbrev pub invariant-loop-place : goal.invariant-loop-place
invariant-loop-place l = (l.free ≡ free_in (take l.place-index l.places)) × (l.free ≤ l.place-index)
