-- A table stays sound.
use Rattle.std.specs.Prelude.{◌≡◌, ℕ, ◌≤◌, List, [], ◌∷◌, length, replicate, None, Option}
use Rattle.grammar.specs.Model.{Grammar}
use Rattle.sheet.specs.Meaning.{Sound}
use Rattle.places.specs.Shape.{SoundPlaces}
use Rattle.places.specs.declared.node.Node.{Node}
use Rattle.blocks.specs.Block.{pairs, deepest}
use Rattle.places.specs.Totals.{free}
use Rattle.blocks.specs.Written.{Written}
use Rattle.blocks.specs.declared.piece.Piece.{Piece}

-- a block that is not too deep leaves a sound table sound
abbrev pub SoundLaw : Type 0
SoundLaw = (g : Grammar) (ps ps' : List (Option Node)) (bs : List Piece) (root : ℕ)
    → Sound g → SoundPlaces g ps → length bs ≤ length (free ps) → deepest g (1 ∷ []) (pairs bs) ≤ 64 → Written g ps bs root ps' → SoundPlaces g ps'

-- an empty table is sound, and has all its places free
pub record EmptyTable (g : Grammar) (n : ℕ) : Type 0 where
  pub all_free : length (free (replicate n None)) ≡ n
  pub sound : 1 ≤ n → n ≤ 4096 → SoundPlaces g (replicate n None)

abbrev pub EmptyLaw : Type 0
EmptyLaw = (g : Grammar) (n : ℕ) → EmptyTable g n
