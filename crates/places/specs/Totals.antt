-- What is free and what is owed, over the whole table.
use Rattle.std.specs.Prelude.{◌≡◌, ℕ, suc, ◌<◌, Bool, true, false, not, List, [], ◌∷◌, is_some, sum_by, count_by, Some, None, Option}
use Rattle.places.specs.Marks.{owed_below}
use Rattle.places.specs.Places.{marks_in, owed_at}
use Rattle.places.specs.Shape.{InTree}
use Rattle.places.specs.declared.node.Node.{Node}

abbrev pub is_free : Option Node → Bool
is_free o = not (is_some o)

-- how many places are free
abbrev pub free_in : List (Option Node) → ℕ
free_in ps = count_by is_free ps

-- the free places of a table whose first place has number i
abbrev pub free_from : ℕ → List (Option Node) → List ℕ
free_from i [] = []
free_from i (None ∷ ps) = i ∷ free_from (suc i) ps
free_from i (Some n ∷ ps) = free_from (suc i) ps

-- the free places of a table, in order
abbrev pub free : List (Option Node) → List ℕ
free ps = free_from 0 ps

-- how many attributes are owed at a place
abbrev pub owed_in : Option Node → ℕ
owed_in o = owed_below (marks_in o) 16

-- how many instances are owed, in the tree and in what is held
abbrev pub owed_total : List (Option Node) → ℕ
owed_total ps = sum_by owed_in ps

-- no instance of the place p is owed, if that stands in the tree
abbrev pub NoneOwedAt : List (Option Node) → ℕ → ℕ → Type 0
NoneOwedAt ps root p = InTree ps root p → (a : ℕ) → owed_at ps (p, a) ≡ false

-- no instance of the tree is owed
abbrev pub NoneOwed : List (Option Node) → ℕ → Type 0
NoneOwed ps root = (p : ℕ) → NoneOwedAt ps root p

-- p stands in the tree, and a is its first owed attribute
pub record FirstOfPlace (ps : List (Option Node)) (root p a : ℕ) : Type 0 where
  pub in_tree : InTree ps root p
  pub owed : owed_at ps (p, a) ≡ true
  pub none_before : (b : ℕ) → b < a → owed_at ps (p, b) ≡ false

-- (p, a) is the first owed instance of the tree, by place and then by attribute
pub record FirstOfTree (ps : List (Option Node)) (root p a : ℕ) : Type 0 where
  pub here : FirstOfPlace ps root p a
  pub places_before : (q : ℕ) → q < p → NoneOwedAt ps root q
