-- What writing a block does to a table.
use Rattle.std.specs.Prelude.{◌≡◌, ℕ, true, List, [], ◌∷◌, length, None, Option}
use Rattle.grammar.specs.Model.{Grammar}
use Rattle.tour.specs.Runs.{In}
use Rattle.tour.specs.Trees.{Instance, Forest, places, instances}
use Rattle.tour.specs.Blocks.{Means}
use Rattle.tour.specs.Nodes.{Shows, above}
use Rattle.places.specs.Places.{at, table, owed_at}
use Rattle.places.specs.declared.node.Node.{Node}
use Rattle.blocks.specs.Block.{pairs, own_symbol}
use Rattle.blocks.specs.Planted.{laid}
use Rattle.blocks.specs.Taken.{taken}
use Rattle.blocks.specs.declared.piece.Piece.{Piece}

-- f is the tree that the block means at the places taken
abbrev pub BlockTree : Grammar → List (Option Node) → List Piece → Forest → Type 0
BlockTree g ps bs f = Means g (own_symbol g bs ∷ []) (pairs bs) (taken ps (length bs)) f

-- the table ps before, and ps' after
pub record Written (g : Grammar) (ps : List (Option Node)) (bs : List Piece) (root : ℕ) (ps' : List (Option Node)) : Type 0 where
  -- the block means just one tree
  pub tree : Forest
  pub means : BlockTree g ps bs tree
  pub only : (f : Forest) → BlockTree g ps bs f → f ≡ tree
  pub root_is : places tree ≡ root ∷ []
  -- each of its nodes is written as a new one
  pub nodes : ps' ≡ laid g tree None ps
  -- so the table shows the tree, with no parent above it
  pub shown : Shows (table g ps') tree above 0
  -- all its instances are owed
  pub owed : (x : Instance) → In x (instances g tree) → owed_at ps' x ≡ true
  -- and every other place is as it was
  pub others : (p : ℕ) → (In p (taken ps (length bs)) → ⊥) → at ps' p ≡ at ps p
