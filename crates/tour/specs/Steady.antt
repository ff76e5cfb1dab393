-- What is kept between calls: in the tree and in what is held, an instance that is not owed has its equation's result.
use Rattle.std.specs.Prelude.{◌≡◌, ℕ, ◌<◌, Bool, true, ◌⊎◌, length, ◌≢◌}
use Rattle.grammar.specs.Model.{Grammar}
use Rattle.grammar.specs.declared.terms.Flow.TheVariants.{Inherited, Synthesized}
use Rattle.tour.specs.Runs.{In, named, State}
use Rattle.tour.specs.Trees.{Instance}
use Rattle.tour.specs.Nodes.{Table, attributes_of, flow_of}
use Rattle.tour.specs.Nodes.Link.{top, under}
use Rattle.tour.specs.Exchange.{Exchanged}
use Rattle.tour.specs.Results.{Meaning, sources, result, Touches}

-- an instance at a used place that has an equation: not an inherited one of a root
pub record Live (σ : Grammar) (T : Table) (used : ℕ → Bool) (x : Instance) : Type 0 where
  pub place : used x.0 ≡ true
  pub attribute : x.1 < length (attributes_of σ T x.0)
  pub below : flow_of σ T x ≡ Inherited → (T x.0).link ≢ top

abbrev pub Steady : {V : Type 0} → Meaning V → Grammar → Table → (ℕ → Bool) → State Instance V → Type 0
Steady M σ T used s = (x : Instance) → Live σ T used x → (s.owed x ≢ true) → s.value x ≡ result M σ T x s.value

-- what becomes owed when the block with root h goes where the subtree at q stood: the new root's inherited attributes,
-- and each instance whose equation takes an argument from that occurrence
pub data Woken (σ : Grammar) (T U : Table) (q h : ℕ) : Instance → Type 0 where
  root : {a : ℕ} → flow_of σ T (h, a) ≡ Inherited → Woken σ T U q h (h, a)
  own : {p a : ℕ} → flow_of σ T (p, a) ≡ Synthesized → Touches σ T q p 0 a → Woken σ T U q h (p, a)
  sibling : {p a u k : ℕ} → flow_of σ T (p, a) ≡ Inherited → (T p).link ≡ under u k → Touches σ T q u k a → Woken σ T U q h (p, a)

-- x had an equation before, its node and the parent's are as they were, and so are its value and those of its arguments
pub record Untouched {V : Type 0} (M : Meaning V) (σ : Grammar) (T U : Table) (used : ℕ → Bool) (s t : State Instance V) (x : Instance) : Type 0 where
  pub live : Live σ T used x
  pub cell : U x.0 ≡ T x.0
  pub parent : (u k : ℕ) → (T x.0).link ≡ under u k → U u ≡ T u
  pub marked : s.owed x ≡ true → t.owed x ≡ true
  pub value : t.value x ≡ s.value x
  pub arguments : (a : Instance) → In a (named (sources M σ T x)) → t.value a ≡ s.value a

-- the calls that change the table keep all steady
pub record Steadiness (V : Type 0) : Type 0 where
  -- a drop leaves the values, and makes owed what it wakes
  pub drops :
      (M : Meaning V) (σ : Grammar) (q h : ℕ) (T U : Table) (used : ℕ → Bool) (s t : State Instance V) → Exchanged q h T U →
      ((x : Instance) → t.value x ≡ s.value x) →
      ((x : Instance) → Live σ U used x → (s.owed x ≡ true) ⊎ Woken σ T U q h x → t.owed x ≡ true) →
      Steady M σ T used s → Steady M σ U used t
  -- opening, planting and discarding leave each instance untouched or make it owed
  pub changes :
      (M : Meaning V) (σ : Grammar) (T U : Table) (used later : ℕ → Bool) (s t : State Instance V) →
      ((x : Instance) → Live σ U later x → (t.owed x ≡ true) ⊎ Untouched M σ T U used s t x) →
      Steady M σ T used s → Steady M σ U later t
