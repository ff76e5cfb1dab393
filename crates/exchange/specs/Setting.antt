-- Nodes with one field written.
use Rattle.std.specs.Prelude.{ℕ, List, Option, slice_set}
use Rattle.std.specs.Option.{option_map}
use Rattle.places.specs.Places.{at}
use Rattle.places.specs.declared.node.Node.{Node}
use Rattle.places.specs.declared.node.Parent.{Parent}

-- child number k, counted from 0
abbrev pub with_child : ℕ → ℕ → Node → Node
with_child k c n = record { rule = n.rule; datum = n.datum; parent = n.parent; children = slice_set n.children k c; marks = n.marks }

abbrev pub with_parent : Option Parent → Node → Node
with_parent u n = record { rule = n.rule; datum = n.datum; parent = u; children = n.children; marks = n.marks }

abbrev pub with_marks : ℕ → Node → Node
with_marks m n = record { rule = n.rule; datum = n.datum; parent = n.parent; children = n.children; marks = m }

-- the places with the node at p changed, if there is one
abbrev pub changed_at : (Node → Node) → List (Option Node) → ℕ → List (Option Node)
changed_at f ps p = slice_set ps p (option_map f (at ps p))
