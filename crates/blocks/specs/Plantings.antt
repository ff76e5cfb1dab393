-- A row of trees is written, in continuation of what stands before it.
use Rattle.std.specs.Prelude.{◌≡◌, ℕ, ◌≤◌, List, ◌++◌, length, drop, Some, None, Option}
use Rattle.grammar.specs.Model.{Grammar}
use Rattle.tour.specs.Trees.{Forest, Agrees, places, places_in}
use Rattle.tour.specs.Blocks.{pieces}
use Rattle.places.specs.declared.node.Node.{Node}
use Rattle.places.specs.declared.node.Parent.{Parent}
use Rattle.blocks.specs.Block.{pairs}
use Rattle.blocks.specs.Planted.{four_of, laid}
use Rattle.blocks.specs.Taken.{free_after}
use Rattle.blocks.specs.declared.piece.Piece.{Piece}

-- the trees f, of as many roots, stand at the front of the pieces, and the free places from i on begin with theirs
pub record Fits (g : Grammar) (count : ℕ) (bs : List Piece) (i : ℕ) (ps : List (Option Node)) (f : Forest) (xs : List ℕ) (cs : List (ℕ × ℕ)) (qs : List ℕ) : Type 0 where
  pub agrees : Agrees g f xs
  pub many : length xs ≡ count
  pub block : pairs bs ≡ pieces f ++ cs
  pub at : free_after i ps ≡ places_in f ++ qs

-- they are written; rest is what is left of the pieces, and the free places from next on are those that are left
pub record Laid (g : Grammar) (up : Option Parent) (ps : List (Option Node)) (f : Forest) (cs : List (ℕ × ℕ)) (qs : List ℕ) (children : List ℕ) (rest : List Piece) (next : ℕ) (ps' : List (Option Node)) : Type 0 where
  pub rest_is : pairs rest ≡ cs
  pub children_are : children ≡ four_of (places f)
  pub table_is : ps' ≡ laid g f up ps
  pub free_is : free_after next ps ≡ qs

-- no trees fit
abbrev pub NoPlanting : Grammar → ℕ → List Piece → ℕ → List (Option Node) → Type 0
NoPlanting g count bs i ps = (f : Forest) (xs : List ℕ) (cs : List (ℕ × ℕ)) (qs : List ℕ) → Fits g count bs i ps f xs cs qs → ⊥

pub record Planting (g : Grammar) (up : Option Parent) (count : ℕ) (bs : List Piece) (i : ℕ) (ps : List (Option Node)) (children : List ℕ) (rest : List Piece) (next : ℕ) (ps' : List (Option Node)) : Type 0 where
  pub shorter : length rest ≤ length bs
  pub onward : i ≤ next
  pub ahead : drop next ps' ≡ drop next ps
  pub fits : (f : Forest) (xs : List ℕ) (cs : List (ℕ × ℕ)) (qs : List ℕ) → Fits g count bs i ps f xs cs qs → Laid g up ps f cs qs children rest next ps'

abbrev pub position_in : Option Parent → ℕ
position_in None = 0
position_in (Some u) = u.position
