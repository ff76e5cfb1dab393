-- Which places a block takes.
use Rattle.std.specs.Prelude.{◌≡◌, ℕ, ◌<◌, ◌≤◌, List, length, take, drop, None, Option}
use Rattle.tour.specs.Runs.{In, Apart}
use Rattle.places.specs.Places.{at}
use Rattle.places.specs.Totals.{free_from, free}
use Rattle.places.specs.declared.node.Node.{Node}

-- the free places from number i on
abbrev pub free_after : ℕ → List (Option Node) → List ℕ
free_after i ps = free_from i (drop i ps)

-- the places that a block of n pieces takes: the first n free ones
unfoldable pub taken : List (Option Node) → ℕ → List ℕ
taken ps n = take n (free ps)

-- what else may be known of them
pub record Takes (ps : List (Option Node)) (n : ℕ) (qs : List ℕ) : Type 0 where
  pub many : length qs ≡ n
  pub apart : Apart qs
  pub inside : (p : ℕ) → In p qs → p < length ps
  pub free_so_far : (p : ℕ) → In p qs → at ps p ≡ None

abbrev pub TakenLaw : Type 0
TakenLaw = (ps : List (Option Node)) (n : ℕ) → n ≤ length (free ps) → Takes ps n (taken ps n)
