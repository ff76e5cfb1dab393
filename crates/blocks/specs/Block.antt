-- When a row of pieces is a block.
use Rattle.std.specs.Prelude.{ℕ, suc, max, Bool, true, false, ◌&&◌, List, [], ◌∷◌, ◌++◌, map, length, replicate, Some, None, Option, nat_le}
use Rattle.grammar.specs.Model.{Grammar}
use Rattle.tour.specs.Rules.{rule}
use Rattle.tour.specs.Blocks.{reads}
use Rattle.places.specs.Places.{arity}
use Rattle.blocks.specs.declared.piece.Piece.{Piece}
use Rattle.blocks.specs.declared.piece.BlockFault.{BlockFault}
use Rattle.blocks.specs.declared.piece.BlockFault.TheVariants.{Length, Form, Depth}

-- rule and datum
abbrev pub pair_of : Piece → ℕ × ℕ
pair_of b = (b.rule, b.datum)

abbrev pub pairs : List Piece → List (ℕ × ℕ)
pairs bs = map pair_of bs

-- the greatest depth of the pieces, read with the depths still to come: the children of a piece come right after it, one deeper
abbrev pub deepest : Grammar → List ℕ → List (ℕ × ℕ) → ℕ
deepest g [] bs = 0
deepest g (d ∷ ds) [] = 0
deepest g (d ∷ ds) ((r, c) ∷ bs) = max d (deepest g (replicate (arity g r) (suc d) ++ ds) bs)

-- the symbol of the first piece
abbrev pub own_symbol : Grammar → List Piece → ℕ
own_symbol g [] = 0
own_symbol g (b ∷ bs) = (rule g b.rule).left

-- the symbol that the first piece must have; its own, if any will do
abbrev pub symbol_or : Grammar → Option ℕ → List Piece → ℕ
symbol_or g None bs = own_symbol g bs
symbol_or g (Some x) bs = x

abbrev pub if_not : Bool → BlockFault → Option BlockFault → Option BlockFault
if_not true f next = next
if_not false f next = Some f

-- the pieces of just one tree of symbol x, at most 64 deep
abbrev pub tree_fault : Grammar → ℕ → List Piece → Option BlockFault
tree_fault g x bs = if_not (reads g (x ∷ []) (pairs bs)) Form (if_not (nat_le (deepest g (1 ∷ []) (pairs bs)) 64) Depth None)

-- 1 to 1,024 pieces come first
abbrev pub block_fault : Grammar → Option ℕ → List Piece → Option BlockFault
block_fault g first bs = if_not (nat_le 1 (length bs) && nat_le (length bs) 1024) Length (tree_fault g (symbol_or g first bs) bs)
