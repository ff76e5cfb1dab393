-- One walk finds, one after the other, what steps evaluate.
use Rattle.std.specs.Prelude.{◌≡◌, ℕ, true, List, [], ◌∷◌, ◌++◌, Option}
use Rattle.grammar.specs.Model.{Grammar}
use Rattle.places.specs.Places.{table, owed_at}
use Rattle.places.specs.declared.node.Node.{Node}
use Rattle.tour.specs.Shapes.{tree_from}
use Rattle.tour.specs.Touring.{tour}
use Rattle.tour.specs.Trees.{Instance}
use Rattle.walk.specs.Ahead.{ahead, instance_of}
use Rattle.walk.specs.Stands.{Stand}
use Rattle.walk.specs.Walking.{Unowed, OwedNext, NoneOwed}
use Rattle.walk.specs.declared.walker.Met.{Met}

abbrev pub tour_of : Grammar → List (Option Node) → ℕ → List Instance
tour_of g ps root = tour g (tree_from (table g ps) 63 root)

-- what is done and what is ahead make the tour
abbrev pub Along : Grammar → List (Option Node) → ℕ → List Instance → Stand → Type 0
Along g ps root done s = tour_of g ps root ≡ done ++ ahead g (table g ps) s

-- m is the first owed instance of the tour, and the walk stands behind it
pub record FirstOwed (g : Grammar) (ps : List (Option Node)) (root : ℕ) (m : Met) (t : Stand) : Type 0 where
  pub front : List Instance
  pub place : tour_of g ps root ≡ front ++ instance_of m ∷ ahead g (table g ps) t
  pub first : Unowed ps front
  pub due : owed_at ps (instance_of m) ≡ true
  pub along : Along g ps root (front ++ instance_of m ∷ []) t

-- While nothing behind the walk is owed, the next owed instance ahead is the first of the whole tour; and where none is
-- ahead, none is owed.
pub record Finds (g : Grammar) (ps : List (Option Node)) (root : ℕ) (s : Stand) : Type 0 where
  pub next : (m : Met) (t : Stand) → OwedNext g ps s m t → FirstOwed g ps root m t
  pub none : (t : Stand) → NoneOwed g ps s t → Unowed ps (tour_of g ps root)

abbrev pub OneWalkLaw : Type 0
OneWalkLaw = (g : Grammar) (ps : List (Option Node)) (root : ℕ) (done : List Instance) (s : Stand) → Along g ps root done s → Unowed ps done → Finds g ps root s
