-- Trees written into a table.
use Rattle.std.specs.Prelude.{ℕ, suc, ◌-◌, ◌^◌, List, [], ◌∷◌, ◌++◌, take, Some, None, Option, slice_set}
use Rattle.grammar.specs.Model.{Grammar}
use Rattle.tour.specs.Trees.{Forest, places}
use Rattle.tour.specs.Trees.Forest.{none, node}
use Rattle.places.specs.Places.{attributes}
use Rattle.places.specs.declared.node.Node.{Node}
use Rattle.places.specs.declared.node.Parent.{Parent}

-- a row of four, 0 where there are fewer
abbrev pub four_of : List ℕ → List ℕ
four_of ps = take 4 (ps ++ (0 ∷ 0 ∷ 0 ∷ 0 ∷ []))

-- a new node: all its attributes are owed
abbrev pub fresh : Grammar → ℕ → ℕ → Option Parent → List ℕ → Node
fresh g r c up children = record { rule = r; datum = c; parent = up; children = four_of children; marks = 2 ^ attributes g r - 1 }

-- the next position below the same parent
abbrev pub next_to : Option Parent → Option Parent
next_to None = None
next_to (Some u) = Some (record { place = u.place; position = suc u.position })

abbrev pub first_below : ℕ → Option Parent
first_below p = Some (record { place = p; position = 1 })

-- the table with a row of trees written into it, the first under that parent, the others next to it
abbrev pub laid : Grammar → Forest → Option Parent → List (Option Node) → List (Option Node)
laid g none up ps = ps
laid g (node p r c kids rest) up ps = laid g rest (next_to up) (slice_set (laid g kids (first_below p) ps) p (Some (fresh g r c up (places kids))))
