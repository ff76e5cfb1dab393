-- The engine over a table in shape: its steps come to the values of a fresh evaluation of the day's tree.
use Rattle.std.specs.Prelude.{◌≡◌, ℕ, zero, suc, ◌<◌, Bool, true, false, cond, ◌↔◌, List, [], ◌++◌, length, Some, filter}
use Rattle.grammar.specs.Model.{Grammar}
use Rattle.sheet.specs.Meaning.{Sound}
use Rattle.tour.specs.Runs.{In, named, State, Ordered, Idle, Run}
use Rattle.tour.specs.Fresh.{fresh}
use Rattle.tour.specs.Incremental.{Settling}
use Rattle.tour.specs.Trees.{Instance, same_instance, row, instances}
use Rattle.tour.specs.Touring.{tour, Touring}
use Rattle.tour.specs.Nodes.{Link, Table, attributes_of}
use Rattle.tour.specs.Nodes.Link.{top, under}
use Rattle.tour.specs.Results.{Meaning, sources, defined_at, engine}
use Rattle.tour.specs.Shapes.{Shape, tree_from}
use Rattle.tour.specs.Steady.{Live, Steady}

-- the instances with an equation at the used places below n
abbrev pub equated : Link → Bool
equated top = false
equated (under p o) = true

abbrev pub live_at : Grammar → Table → ℕ → List Instance
live_at σ T p = filter (λ x. equated (defined_at σ T x)) (row p 0 (length (attributes_of σ T p)))

abbrev pub live_below : Grammar → Table → (ℕ → Bool) → ℕ → List Instance
live_below σ T used zero = []
live_below σ T used (suc n) = cond (used n) (live_at σ T n) [] ++ live_below σ T used n

-- for a sound grammar and a table in shape, with the instances that have an equation as scope
pub record Engine {V : Type 0} (M : Meaning V) (σ : Grammar) (T : Table) (used : ℕ → Bool) (root : ℕ) (scope : List Instance) : Type 0 where
  pub ordered : Ordered (engine M σ T (tree_from T 63 root) scope)
  -- a run keeps all steady
  pub runs :
      (s u : State Instance V) (is : List Instance) → Run (engine M σ T (tree_from T 63 root) scope) s is u →
      Steady M σ T used s → Steady M σ T used u
  -- where all is steady and nothing in the tree is owed, its values are those of a fresh evaluation
  pub values :
      (s : State Instance V) → Steady M σ T used s → Idle s (instances σ (tree_from T 63 root)) →
      (x : Instance) → In x (instances σ (tree_from T 63 root)) →
      fresh same_instance (engine M σ T (tree_from T 63 root) scope) x ≡ Some (s.value x)
  -- a run that comes to that has evaluated what was due, each once
  pub settles :
      (s u : State Instance V) (is : List Instance) → Run (engine M σ T (tree_from T 63 root) scope) s is u →
      Idle u (instances σ (tree_from T 63 root)) →
      Settling same_instance (engine M σ T (tree_from T 63 root) scope) s is u

pub record EngineLaw (V : Type 0) : Type 0 where
  -- the tour has each instance of the day's tree once, behind its arguments
  pub touring :
      (M : Meaning V) (σ : Grammar) → Sound σ → (T : Table) (used : ℕ → Bool) (root : ℕ) → Shape σ T used root →
      Touring σ (λ x. named (sources M σ T x)) (tree_from T 63 root)
  -- and each of them has an equation
  pub live :
      (σ : Grammar) → Sound σ → (T : Table) (used : ℕ → Bool) (root : ℕ) → Shape σ T used root →
      (x : Instance) → In x (tour σ (tree_from T 63 root)) → Live σ T used x
  -- the instances that have one can be listed
  pub listed :
      (σ : Grammar) (T : Table) (used : ℕ → Bool) (n : ℕ) → ((p : ℕ) → used p ≡ true → p < n) →
      (x : Instance) → In x (live_below σ T used n) ↔ Live σ T used x
  pub engines :
      (M : Meaning V) (σ : Grammar) → Sound σ → (T : Table) (used : ℕ → Bool) (root : ℕ) → Shape σ T used root →
      (scope : List Instance) → ((x : Instance) → In x scope ↔ Live σ T used x) → Engine M σ T used root scope
