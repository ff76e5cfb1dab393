-- The tour of a tree: the order in which its instances are evaluated.
use Rattle.std.specs.Prelude.{◌≡◌, ◌↔◌, List, [], ◌∷◌, ◌++◌, slice_index_or}
use Rattle.grammar.specs.Model.{Grammar}
use Rattle.sheet.specs.Meaning.{Sound}
use Rattle.tour.specs.Runs.{In, Apart}
use Rattle.tour.specs.Trees.{Instance, Forest, no_visit, tours, Agrees, Arguments, instances, places_in}

-- the tour of a tree is the one visit of its root
abbrev pub tour : Grammar → Forest → List Instance
tour σ t = slice_index_or (tours σ t) 0 no_visit 1

-- each instance of the tree stands in the tour once and behind its arguments
pub record Touring (σ : Grammar) (args : Instance → List Instance) (t : Forest) : Type 0 where
  pub once : Apart (tour σ t)
  pub all : (x : Instance) → In x (tour σ t) ↔ In x (instances σ t)
  pub before : (xs ys : List Instance) (x a : Instance) → tour σ t ≡ xs ++ x ∷ ys → In a (args x) → In a xs

-- so it is with a sound grammar, a tree of its start symbol with no place twice, and arguments that the equations name
abbrev pub TourLaw : Type 0
TourLaw =
    (σ : Grammar) → Sound σ → (args : Instance → List Instance) (t : Forest) → Agrees σ t (0 ∷ []) → Arguments σ args t →
    Apart (places_in t) → Touring σ args t
