-- What a grammar says of the nodes of a rule.
use Rattle.std.specs.Prelude.{◌≡◌, ℕ, ◌<◌, ◌≤◌, List, length}
use Rattle.grammar.specs.Model.{Grammar}
use Rattle.tour.specs.Rules.{rule}
use Rattle.places.specs.Places.{attributes}

-- rule r is there, with these symbols and so many attributes of the left one; all within the limits of a sheet
pub record Known (g : Grammar) (r left : ℕ) (right : List ℕ) (count : ℕ) : Type 0 where
  pub there : r < length g.rules
  pub left_is : (rule g r).left ≡ left
  pub right_is : (rule g r).right ≡ right
  pub count_is : attributes g r ≡ count
  pub few_rules : length g.rules ≤ 64
  pub few_right : length right ≤ 4
  pub few_attributes : count ≤ 16
