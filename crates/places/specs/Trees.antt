-- The trees that a table in shape shows.
use Rattle.std.specs.Prelude.{◌≡◌, ℕ, ◌↔◌, List, [], ◌∷◌, Some, None, Option, ◌≢◌}
use Rattle.grammar.specs.Model.{Grammar}
use Rattle.tour.specs.Nodes.{Shows, above}
use Rattle.tour.specs.Rules.{rule}
use Rattle.tour.specs.Runs.{In, Apart}
use Rattle.tour.specs.Shapes.{tree_from}
use Rattle.tour.specs.Trees.{Forest, Agrees, places_in}
use Rattle.tour.specs.Walks.{Within}
use Rattle.places.specs.Places.{at, table}
use Rattle.places.specs.Shape.{top_from, InShape, Held, InTree}
use Rattle.places.specs.declared.node.Node.{Node}

-- a top: a used place without a parent
pub record Top (ps : List (Option Node)) (t : ℕ) : Type 0 where
  pub node : Node
  pub there : at ps t ≡ Some node
  pub free_standing : node.parent ≡ None

-- the tree at a place, read off the table
abbrev pub tree_at : Grammar → List (Option Node) → ℕ → Forest
tree_at g ps t = tree_from (table g ps) 63 t

-- the symbol of the node at a place
abbrev pub symbol_at : Grammar → List (Option Node) → ℕ → ℕ
symbol_at g ps t = (rule g (table g ps t).rule).left

-- The tree at t: it is what the table shows there, agrees with its symbol, has no place twice and no path of more than
-- 64 places; its places are just the used ones from which climbing ends at t.
pub record ShownTree (g : Grammar) (ps : List (Option Node)) (t : ℕ) : Type 0 where
  pub shown : Shows (table g ps) (tree_at g ps t) above 0
  pub agrees : Agrees g (tree_at g ps t) (symbol_at g ps t ∷ [])
  pub apart : Apart (places_in (tree_at g ps t))
  pub within : Within (tree_at g ps t) 64
  pub places_are : (p : ℕ) → In p (places_in (tree_at g ps t)) ↔ InTree ps t p

-- a tree at each top; the tops are the root, which has the start symbol, and the held roots; each used place stands in
-- the tree at one top
pub record ShownTrees (g : Grammar) (ps : List (Option Node)) (root : ℕ) : Type 0 where
  pub trees : (t : ℕ) → Top ps t → ShownTree g ps t
  pub root_top : Top ps root
  pub root_start : symbol_at g ps root ≡ 0
  pub held_tops : (t : ℕ) → Held ps root t ↔ (Top ps t × (t ≢ root))
  pub some_top : (p : ℕ) (n : Node) → at ps p ≡ Some n → Top ps (top_from ps 64 p)
  pub one_top : (p t u : ℕ) → Top ps t → Top ps u → In p (places_in (tree_at g ps t)) → In p (places_in (tree_at g ps u)) → t ≡ u

abbrev pub TreesLaw : Type 0
TreesLaw = (g : Grammar) (ps : List (Option Node)) (root : ℕ) → InShape g ps root → ShownTrees g ps root
