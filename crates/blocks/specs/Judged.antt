-- A block in the words of trees.
use Rattle.std.specs.Prelude.{◌≡◌, ℕ, ◌≤◌, ◌↔◌, List, [], ◌∷◌, length, None, Option}
use Rattle.grammar.specs.Model.{Grammar}
use Rattle.tour.specs.Trees.{Forest, Agrees}
use Rattle.tour.specs.Blocks.{pieces}
use Rattle.tour.specs.Walks.{Within}
use Rattle.blocks.specs.Block.{pairs, symbol_or, block_fault}
use Rattle.blocks.specs.declared.piece.Piece.{Piece}

-- 1 to 1,024 pieces: those of a tree of symbol x that agrees with the grammar, with no path longer than 64
pub record IsBlock (g : Grammar) (x : ℕ) (bs : List Piece) : Type 0 where
  pub some_piece : 1 ≤ length bs
  pub few_pieces : length bs ≤ 1024
  pub tree : Forest
  pub agrees : Agrees g tree (x ∷ [])
  pub block : pieces tree ≡ pairs bs
  pub shallow : Within tree 64

-- just the blocks have no fault
abbrev pub JudgementLaw : Type 0
JudgementLaw = (g : Grammar) (first : Option ℕ) (bs : List Piece) → (block_fault g first bs ≡ None) ↔ IsBlock g (symbol_or g first bs) bs
