-- A table of nodes by place, and the trees that it shows.
use Rattle.std.specs.Prelude.{◌≡◌, ℕ, suc, List, [], ◌∷◌, slice_index_or}
use Rattle.grammar.specs.Model.{Grammar}
use Rattle.grammar.specs.declared.terms.Attribute.{Attribute}
use Rattle.grammar.specs.declared.terms.Flow.{Flow}
use Rattle.sheet.specs.Meaning.{Sound}
use Rattle.tour.specs.Runs.{Apart}
use Rattle.tour.specs.Rules.{symbol, rule, no_attribute}
use Rattle.tour.specs.Trees.{Instance, Forest, places, Agrees, places_in}
use Rattle.tour.specs.Trees.Forest.{none, node}

-- what a node is to the one above it: a root, or the child at a position, counted from 1
pub data Link : Type 0 where
  top : Link
  under : (parent position : ℕ) → Link

-- what a used place holds
pub record Cell : Type 0 where
  pub rule : ℕ
  -- the code of the node's datum
  pub code : ℕ
  pub link : Link
  -- the places of the children
  pub kids : List ℕ

abbrev pub Table : Type 0
Table = ℕ → Cell

-- the attributes of the symbol at a place, and the flow of one of them
abbrev pub attributes_of : Grammar → Table → ℕ → List Attribute
attributes_of σ T p = (symbol σ (rule σ (T p).rule).left).attributes

abbrev pub flow_of : Grammar → Table → Instance → Flow
flow_of σ T x = (slice_index_or (attributes_of σ T x.0) x.1 no_attribute).flow

-- the table shows these trees; the links of their roots are up k, up (k + 1), ..
abbrev pub Shows : Table → Forest → (ℕ → Link) → ℕ → Type 0
Shows T none up k = Unit {0}
Shows T (node p r c kids rest) up k =
    ((T p).rule ≡ r) × ((T p).code ≡ c) × ((T p).kids ≡ places kids) × ((T p).link ≡ up k) × Shows T kids (under p) 1 × Shows T rest up (suc k)

-- roots are nobody's children
abbrev pub above : ℕ → Link
above k = top

-- a tree of the start symbol of a sound grammar, in a table
pub record Planted (σ : Grammar) (T : Table) (t : Forest) : Type 0 where
  pub sound : Sound σ
  pub agrees : Agrees σ t (0 ∷ [])
  pub shown : Shows T t above 0
  pub apart : Apart (places_in t)
