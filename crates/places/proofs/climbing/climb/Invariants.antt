use Rattle.std.proofs.Common.{◌-◌, ◌<◌}
use Rattle.places.proofs.Ascents.{Passed}
use Rattle.places.proofs.climbing.climb.Given as goal

abbrev pub invariant-loop-above : goal.invariant-loop-above
invariant-loop-above l = Passed l.places 64 l.initial.top (64 - l.above) l.above l.top × (l.initial.top < 65536 → l.top < 65536)
