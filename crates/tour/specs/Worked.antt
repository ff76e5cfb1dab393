-- The worked day: its start above a block of two items, opened at places 0 to 3.
use Rattle.std.specs.Prelude.{◌≡◌, ℕ, ◌+◌, Bool, true, cond, List, [], ◌∷◌, Some, ◌==◌, nat_lt, slice_index_or}
use Rattle.sheet.specs.Meaning.{Sound}
use Rattle.sheet.specs.Worked.{day}
use Rattle.tour.specs.Fresh.{fresh}
use Rattle.tour.specs.Trees.{Forest, same_instance}
use Rattle.tour.specs.Trees.Forest.{none, node}
use Rattle.tour.specs.Touring.{tour}
use Rattle.tour.specs.Nodes.{Cell, Table}
use Rattle.tour.specs.Nodes.Link.{top, under}
use Rattle.tour.specs.Results.{Meaning, engine}
use Rattle.tour.specs.Shapes.{Shape, tree_from}
use Rattle.tour.specs.Blocks.{pieces, reads}

-- rule and code of each node, in preorder
abbrev pub written : List (ℕ × ℕ)
written = (0, 0) ∷ (1, 0) ∷ (2, 7) ∷ (2, 9) ∷ []

abbrev pub opened : Forest
opened = node 0 0 0 (node 1 1 0 (node 2 2 7 none (node 3 2 9 none none)) none) none

abbrev pub cells : List Cell
cells =
    record { rule = 0; code = 0; link = top; kids = 1 ∷ [] }
    ∷ record { rule = 1; code = 0; link = under 0 1; kids = 2 ∷ 3 ∷ [] }
    ∷ record { rule = 2; code = 7; link = under 1 1; kids = [] }
    ∷ record { rule = 2; code = 9; link = under 1 2; kids = [] }
    ∷ []

abbrev pub table : Table
table p = slice_index_or cells p (record { rule = 0; code = 0; link = top; kids = [] })

abbrev pub used : ℕ → Bool
used p = nat_lt p 4

-- the code of an item as its length: function 3 adds, and every other gives its first argument
abbrev pub lengths : Meaning ℕ
lengths = record { leaf = λ c. c; result = λ f a b c. cond (f == 3) (a + b) a }

-- for each block its own attributes: 0 what comes first in it, 1 its start, 2 what follows it, 3 its end
pub record WorkedTour : Type 0 where
  pub sound : Sound day
  pub read : reads day (0 ∷ []) written ≡ true
  pub in_preorder : pieces opened ≡ written
  pub shaped : Shape day table used 0
  pub read_off : tree_from table 63 0 ≡ opened
  -- the tour evaluates what comes first bottom up, and then start, follower and end of each item in turn
  pub thirteen :
      tour day opened
      ≡ (2, 0) ∷ (3, 0) ∷ (1, 0) ∷ (1, 1) ∷ (1, 2) ∷ (2, 1) ∷ (2, 2) ∷ (2, 3) ∷ (3, 1) ∷ (3, 2) ∷ (3, 3) ∷ (1, 3) ∷ (0, 0) ∷ []
  -- the first item ends after 7, and the day after 16
  pub first_end : fresh same_instance (engine lengths day table opened []) (2, 3) ≡ Some 7
  pub day_end : fresh same_instance (engine lengths day table opened []) (0, 0) ≡ Some 16
