-- A row of trees at the front of some pieces.
use Rattle.std.specs.Prelude.{◌≡◌, ℕ, ◌≤◌, max, false, List, ◌++◌, length, replicate}
use Rattle.grammar.specs.Model.{Grammar}
use Rattle.tour.specs.Blocks.{reads}
use Rattle.blocks.specs.Block.{pairs, deepest}
use Rattle.blocks.specs.declared.piece.Piece.{Piece}

-- no trees with these symbols stand there, whatever is to come behind them
abbrev pub NoRow : Grammar → List ℕ → List Piece → Type 0
NoRow g xs bs = (ys : List ℕ) → reads g (xs ++ ys) (pairs bs) ≡ false

-- they stand there, with their roots at depth d; m is the greatest depth, and rest what is behind them
pub record Row (g : Grammar) (xs : List ℕ) (d : ℕ) (bs : List Piece) (m : ℕ) (rest : List Piece) : Type 0 where
  pub read : (ys : List ℕ) → reads g (xs ++ ys) (pairs bs) ≡ reads g ys (pairs rest)
  pub depth : (ds : List ℕ) → deepest g (replicate (length xs) d ++ ds) (pairs bs) ≡ max m (deepest g ds (pairs rest))
  pub shorter : length rest ≤ length bs
