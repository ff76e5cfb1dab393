-- The trees that stand in a table in shape: the day's, and those that are held.
use Rattle.std.specs.Prelude.{◌≡◌, ℕ, ◌<◌, Bool, true, ◌↔◌, [], ◌∷◌, length}
use Rattle.grammar.specs.Model.{Grammar}
use Rattle.tour.specs.Runs.{In, Apart}
use Rattle.tour.specs.Rules.{rule}
use Rattle.tour.specs.Trees.{Instance, Forest, Agrees, instances, places_in}
use Rattle.tour.specs.Nodes.{Table, attributes_of, Shows, above}
use Rattle.tour.specs.Nodes.Link.{top}
use Rattle.tour.specs.Shapes.{Shape, Linked, tree_from}
use Rattle.tour.specs.Walks.{Within}

-- a tree of the symbol x that the table shows, with no place twice and no path of more than 64 nodes
pub record Rooted (σ : Grammar) (T : Table) (x : ℕ) (t : Forest) : Type 0 where
  pub agrees : Agrees σ t (x ∷ [])
  pub shown : Shows T t above 0
  pub apart : Apart (places_in t)
  pub depth : Within t 64

-- a used place without a parent
pub record Root (T : Table) (used : ℕ → Bool) (p : ℕ) : Type 0 where
  pub there : used p ≡ true
  pub free : (T p).link ≡ top

pub record Roots (σ : Grammar) (T : Table) (used : ℕ → Bool) (root : ℕ) : Type 0 where
  -- the day's tree is one of the start symbol
  pub day : Rooted σ T 0 (tree_from T 63 root)
  -- at every root stands a tree of the symbol there
  pub held : (p : ℕ) → Root T used p → Rooted σ T (rule σ (T p).rule).left (tree_from T 63 p)
  -- its places are used
  pub within : (p x : ℕ) → Root T used p → In x (places_in (tree_from T 63 p)) → used x ≡ true
  -- its instances are the attributes of its places
  pub instances :
      (p : ℕ) (x : Instance) → Root T used p →
      In x (instances σ (tree_from T 63 p)) ↔ (In x.0 (places_in (tree_from T 63 p)) × (x.1 < length (attributes_of σ T x.0)))
  -- trees of different roots share no place
  pub apart :
      (p q x : ℕ) → Root T used p → Root T used q → In x (places_in (tree_from T 63 p)) → In x (places_in (tree_from T 63 q)) →
      p ≡ q

pub record RootsLaw : Type 0 where
  pub roots : (σ : Grammar) (T : Table) (used : ℕ → Bool) (root : ℕ) → Shape σ T used root → Roots σ T used root
  -- where links are right, each used place stands in the tree of a root
  pub covered :
      (σ : Grammar) (T : Table) (used : ℕ → Bool) (root : ℕ) → Shape σ T used root → Linked T used → (x : ℕ) → used x ≡ true →
      (p : ℕ) × Root T used p × In x (places_in (tree_from T 63 p))
