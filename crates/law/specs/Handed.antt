-- What calls are handed, and what they hold between them.
use Rattle.std.specs.Prelude.{ℕ, List, Option}
use Rattle.tour.specs.Results.{Meaning}
use Rattle.places.specs.declared.node.Node.{Node}

-- an archive by its meaning: what a code stands for, how many arguments a function takes, and what it gives
pub record Archive (V : Type 0) : Type 0 where
  pub leaf : ℕ → V
  pub count : ℕ → Option ℕ
  pub result : ℕ → V → V → V → V

abbrev pub meaning : {V : Type 0} → Archive V → Meaning V
meaning m = record { leaf = m.leaf; result = m.result }

-- the tables of an opening: its tag, the tree's root, the places and the values
pub record Rundown (V : Type 0) : Type 0 where
  pub tag : ℕ
  pub root : ℕ
  pub places : List (Option Node)
  pub values : List V

-- what stands for a held block: the tag of the opening, and the place of the block's root
pub record Ticket : Type 0 where
  pub tag : ℕ
  pub root : ℕ

-- a piece of a block: a rule, and the code of a datum
abbrev pub Piece : Type 0
Piece = ℕ × ℕ
