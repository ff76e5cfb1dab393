-- Who takes an instance: what becomes owed when its value changes.
use Rattle.std.specs.Prelude.{◌≡◌, ℕ, Bool, true, ◌⊎◌, ◌↔◌}
use Rattle.grammar.specs.Model.{Grammar}
use Rattle.grammar.specs.declared.terms.Flow.TheVariants.{Inherited}
use Rattle.sheet.specs.Meaning.{Sound}
use Rattle.tour.specs.Runs.{In, named}
use Rattle.tour.specs.Rules.{rule, Takes}
use Rattle.tour.specs.Trees.{Instance, at_of}
use Rattle.tour.specs.Nodes.{Table, flow_of}
use Rattle.tour.specs.Nodes.Link.{under}
use Rattle.tour.specs.Results.{Meaning, sources}
use Rattle.tour.specs.Shapes.{Shape, Linked}
use Rattle.tour.specs.Steady.{Woken}

-- An instance is taken by equations of its own node's rule, as an attribute of the left occurrence, and by those of the
-- parent's rule, as an attribute of the occurrence that its node is there.
pub data Taker (σ : Grammar) (T : Table) (x : Instance) : Instance → Type 0 where
  own : {o a : ℕ} → Takes (rule σ (T x.0).rule) o a 0 x.1 → Taker σ T x (at_of x.0 (T x.0).kids o, a)
  above : {u k o a : ℕ} → (T x.0).link ≡ under u k → Takes (rule σ (T u).rule) o a k x.1 → Taker σ T x (at_of u (T u).kids o, a)

-- x is beside q: an equation of the parent's rule for x takes an attribute of the occurrence that q is there
pub record Beside (σ : Grammar) (T : Table) (q : ℕ) (x : Instance) : Type 0 where
  pub parent : ℕ
  pub position : ℕ
  pub occurrence : ℕ
  pub taken : ℕ
  pub link : (T q).link ≡ under parent position
  pub place : at_of parent (T parent).kids occurrence ≡ x.0
  pub takes : Takes (rule σ (T parent).rule) occurrence x.1 position taken

-- in a table in shape whose links are right
pub record Takers (V : Type 0) : Type 0 where
  -- the takers of an instance are those that have it among their arguments
  pub arguments :
      (M : Meaning V) (σ : Grammar) → Sound σ → (T : Table) (used : ℕ → Bool) (root : ℕ) → Shape σ T used root → Linked T used →
      (x j : Instance) → used x.0 ≡ true → used j.0 ≡ true → In x (named (sources M σ T j)) ↔ Taker σ T x j
  -- a drop of h on q wakes the inherited attributes of h and what is beside q
  pub woken :
      (σ : Grammar) → Sound σ → (T U : Table) (used : ℕ → Bool) (root : ℕ) → Shape σ T used root → Linked T used →
      (q h : ℕ) (x : Instance) → used q ≡ true → used x.0 ≡ true →
      Woken σ T U q h x ↔ (((x.0 ≡ h) × (flow_of σ T x ≡ Inherited)) ⊎ Beside σ T q x)
