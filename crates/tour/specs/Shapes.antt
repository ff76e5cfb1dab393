-- The shape of a table, and the trees that it holds.
use Rattle.std.specs.Prelude.{◌≡◌, ℕ, zero, suc, ◌<◌, Bool, true, ◌⊎◌, List, [], ◌∷◌, length, slice_index, slice_index_or}
use Rattle.grammar.specs.Model.{Grammar}
use Rattle.tour.specs.Rules.{rule}
use Rattle.tour.specs.Trees.{Forest}
use Rattle.tour.specs.Trees.Forest.{none, node}
use Rattle.tour.specs.Nodes.{Table}
use Rattle.tour.specs.Nodes.Link.{top, under}

-- climbing from p comes to a root within n places, p among them
abbrev pub Climbs : Table → ℕ → ℕ → Type 0
Climbs T zero p = ⊥
Climbs T (suc n) p = ((T p).link ≡ top) ⊎ ((u : ℕ) × (k : ℕ) × ((T p).link ≡ under u k) × Climbs T n u)

pub record Shape (σ : Grammar) (T : Table) (used : ℕ → Bool) (root : ℕ) : Type 0 where
  -- the day's root is a root of the start symbol
  pub root_used : used root ≡ true
  pub root_top : (T root).link ≡ top
  pub root_start : (rule σ (T root).rule).left ≡ 0
  -- a used place has a rule that is there, and as many children as the rule has right symbols
  pub rules : (p : ℕ) → used p ≡ true → (T p).rule < length σ.rules
  pub kids : (p : ℕ) → used p ≡ true → length (T p).kids ≡ length (rule σ (T p).rule).right
  -- a child is used, knows its parent and its position, and has the symbol of that position
  pub kid_used : (p k : ℕ) → used p ≡ true → k < length (T p).kids → used (slice_index (T p).kids k) ≡ true
  pub kid_link : (p k : ℕ) → used p ≡ true → k < length (T p).kids → (T (slice_index (T p).kids k)).link ≡ under p (suc k)
  pub kid_symbol : (p k : ℕ) → used p ≡ true → k < length (T p).kids → (rule σ (T (slice_index (T p).kids k)).rule).left ≡ slice_index (rule σ (T p).rule).right k
  -- no used place stands deeper than 64
  pub climbs : (p : ℕ) → used p ≡ true → Climbs T 64 p

-- p is the child number m of u, counted from 0
pub record Child (T : Table) (used : ℕ → Bool) (p u m : ℕ) : Type 0 where
  pub parent_used : used u ≡ true
  pub there : m < length (T u).kids
  pub is : slice_index_or (T u).kids m 0 ≡ p

-- each used place that is not a root is the child that its link says
abbrev pub Linked : Table → (ℕ → Bool) → Type 0
Linked T used = (p u k : ℕ) → used p ≡ true → (T p).link ≡ under u k → (m : ℕ) × (k ≡ suc m) × Child T used p u m

-- trees with these roots, by what gives the trees below a root
abbrev pub row_of : Table → (ℕ → Forest) → List ℕ → Forest
row_of T f [] = none
row_of T f (p ∷ ps) = node p (T p).rule (T p).code (f p) (row_of T f ps)

-- the trees below p, read off the table to a depth
abbrev pub grow : Table → ℕ → ℕ → Forest
grow T zero p = none
grow T (suc d) p = row_of T (grow T d) (T p).kids

-- the tree with root p
abbrev pub tree_from : Table → ℕ → ℕ → Forest
tree_from T d p = node p (T p).rule (T p).code (grow T d p) none
