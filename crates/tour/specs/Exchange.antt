-- A block with root h goes where the subtree at q stood.
use Rattle.std.specs.Prelude.{◌≡◌, ℕ, cond, [], ◌∷◌, map, ◌==◌, ◌≢◌}
use Rattle.grammar.specs.Model.{Grammar}
use Rattle.tour.specs.Runs.{In, Apart}
use Rattle.tour.specs.Rules.{rule}
use Rattle.tour.specs.Trees.{Forest, Agrees, places_in}
use Rattle.tour.specs.Trees.Forest.{none, node}
use Rattle.tour.specs.Nodes.{Table, Shows, above, Planted}
use Rattle.tour.specs.Nodes.Link.{top}

-- h for q
abbrev pub swap : ℕ → ℕ → ℕ → ℕ
swap q h p = cond (p == q) h p

-- U is the table after it, T the one before: h is a child where q was, and q is a root
pub record Exchanged (q h : ℕ) (T U : Table) : Type 0 where
  pub rules : (p : ℕ) → (U p).rule ≡ (T p).rule
  pub codes : (p : ℕ) → (U p).code ≡ (T p).code
  pub kids : (p : ℕ) → (U p).kids ≡ map (swap q h) (T p).kids
  pub lifted : (U q).link ≡ top
  pub put : (U h).link ≡ (T q).link
  pub links : (p : ℕ) → (p ≢ q) → (p ≢ h) → (U p).link ≡ (T p).link

-- the trees with the one at q replaced by that with root h
abbrev pub graft : ℕ → ℕ → ℕ → ℕ → Forest → Forest → Forest
graft q h r' c' kids' none = none
graft q h r' c' kids' (node p r c kids rest) =
    cond (p == q) (node h r' c' kids' rest) (node p r c (graft q h r' c' kids' kids) (graft q h r' c' kids' rest))

-- the first of two rows that has a tree
abbrev pub either : Forest → Forest → Forest
either none g = g
either (node p r c kids rest) g = node p r c kids rest

-- the tree at q
abbrev pub subtree : ℕ → Forest → Forest
subtree q none = none
subtree q (node p r c kids rest) = cond (p == q) (node p r c kids none) (either (subtree q kids) (subtree q rest))

-- what stands in the table then: the tree t with the block grafted in, and the subtree that stood there
pub record Grafted (σ : Grammar) (q h r c : ℕ) (kids t : Forest) (T U : Table) : Type 0 where
  pub planted : Planted σ U (graft q h r c kids t)
  pub lifted_agrees : Agrees σ (subtree q t) ((rule σ (T q).rule).left ∷ [])
  pub lifted_shown : Shows U (subtree q t) above 0
  pub lifted_root : (under : Forest) × (subtree q t ≡ node q (T q).rule (T q).code under none)

-- where q stands in t, and the block is a root of the symbol there and shares no place with t
abbrev pub GraftLaw : Type 0
GraftLaw =
    (σ : Grammar) (q h r c : ℕ) (kids t : Forest) (T U : Table) → Exchanged q h T U → Planted σ T t → In q (places_in t) →
    Agrees σ (node h r c kids none) ((rule σ (T q).rule).left ∷ []) → Shows T (node h r c kids none) above 0 →
    Apart (places_in (node h r c kids none)) → ((x : ℕ) → In x (places_in t) → In x (places_in (node h r c kids none)) → ⊥) →
    Grafted σ q h r c kids t T U
