-- What the equations of a grammar give at the places of a table.
use Rattle.std.specs.Prelude.{◌≡◌, ℕ, suc, cond, ◌&&◌, List, [], ◌∷◌, map, ◌==◌, slice_index, slice_index_or}
use Rattle.grammar.specs.Model.{Grammar, Equation}
use Rattle.grammar.specs.declared.terms.Argument.{Argument}
use Rattle.grammar.specs.declared.terms.Argument.TheVariants.{Datum, Of}
use Rattle.grammar.specs.declared.terms.Flow.{Flow}
use Rattle.grammar.specs.declared.terms.Flow.TheVariants.{Inherited, Synthesized}
use Rattle.tour.specs.Runs.{Source, System, read}
use Rattle.tour.specs.Runs.Source.{of, fixed}
use Rattle.tour.specs.Rules.{rule, Takes}
use Rattle.tour.specs.Trees.{Instance, Forest, at_of}
use Rattle.tour.specs.Touring.{tour}
use Rattle.tour.specs.Nodes.{Link, Table, flow_of}
use Rattle.tour.specs.Nodes.Link.{top, under}

-- what the codes of data and the functions mean
pub record Meaning (V : Type 0) : Type 0 where
  pub leaf : ℕ → V
  pub result : ℕ → V → V → V → V

-- the first equation for attribute a of occurrence o
abbrev pub no_equation : Equation
no_equation = record { occurrence = 0; attribute = 0; function = 0; arguments = [] }

abbrev pub equation : ℕ → ℕ → List Equation → Equation
equation o a [] = no_equation
equation o a (q ∷ qs) = cond (q.occurrence == o && q.attribute == a) q (equation o a qs)

-- where an argument comes from: the leaf of the node's datum, or an attribute at the place of an occurrence
abbrev pub source : {V : Type 0} → Meaning V → (ℕ → ℕ) → ℕ → Argument → Source Instance V
source M at code Datum = fixed (M.leaf code)
source M at code (Of p b) = of (at p, b)

-- what an argument is worth
abbrev pub worth : {V : Type 0} → Meaning V → (ℕ → ℕ) → ℕ → (Instance → V) → Argument → V
worth M at code v b = read v (source M at code b)

-- a function on the values of its arguments, the missing filled with the leaf of 0
abbrev pub applied : {V : Type 0} → Meaning V → ℕ → List V → V
applied M f vs = M.result f (slice_index_or vs 0 (M.leaf 0)) (slice_index_or vs 1 (M.leaf 0)) (slice_index_or vs 2 (M.leaf 0))

-- the equation for attribute a of occurrence o of the rule at p, its sources, and what it gives
abbrev pub own_equation : Grammar → Table → ℕ → ℕ → ℕ → Equation
own_equation σ T p o a = equation o a (rule σ (T p).rule).equations

abbrev pub own_sources : {V : Type 0} → Meaning V → Grammar → Table → ℕ → ℕ → ℕ → List (Source Instance V)
own_sources M σ T p o a = map (source M (at_of p (T p).kids) (T p).code) (own_equation σ T p o a).arguments

abbrev pub own_result : {V : Type 0} → Meaning V → Grammar → Table → ℕ → ℕ → ℕ → (Instance → V) → V
own_result M σ T p o a v = applied M (own_equation σ T p o a).function (map (read v) (own_sources M σ T p o a))

-- The occurrence at which the equation of an instance stands: the left one of its own node's rule if it is synthesized,
-- and what its node is to the parent if it is inherited. An inherited attribute of a root has none.
abbrev pub defining : Flow → ℕ → Link → Link
defining Synthesized p l = under p 0
defining Inherited p l = l

abbrev pub defined_at : Grammar → Table → Instance → Link
defined_at σ T x = defining (flow_of σ T x) x.0 (T x.0).link

abbrev pub link_sources : {V : Type 0} → Meaning V → Grammar → Table → Link → ℕ → List (Source Instance V)
link_sources M σ T top a = []
link_sources M σ T (under p o) a = own_sources M σ T p o a

abbrev pub link_apply : {V : Type 0} → Meaning V → Grammar → Table → Link → ℕ → List V → V
link_apply M σ T top a vs = M.leaf 0
link_apply M σ T (under p o) a vs = applied M (own_equation σ T p o a).function vs

-- the sources of an instance, and what its equation makes of their values
abbrev pub sources : {V : Type 0} → Meaning V → Grammar → Table → Instance → List (Source Instance V)
sources M σ T x = link_sources M σ T (defined_at σ T x) x.1

abbrev pub apply : {V : Type 0} → Meaning V → Grammar → Table → Instance → List V → V
apply M σ T x vs = link_apply M σ T (defined_at σ T x) x.1 vs

abbrev pub result : {V : Type 0} → Meaning V → Grammar → Table → Instance → (Instance → V) → V
result M σ T x v = apply M σ T x (map (read v) (sources M σ T x))

-- the tree t of a table as a system
abbrev pub engine : {V : Type 0} → Meaning V → Grammar → Table → Forest → List Instance → System Instance V
engine M σ T t scope = record { tour = tour σ t; sources = sources M σ T; apply = apply M σ T; scope = scope }

-- the equation for attribute a of occurrence o of the rule at p takes an argument from an occurrence that stands at q
abbrev pub Touches : Grammar → Table → ℕ → ℕ → ℕ → ℕ → Type 0
Touches σ T q p o a = (k : ℕ) × (b : ℕ) × Takes (rule σ (T p).rule) o a (suc k) b × (slice_index (T p).kids k ≡ q)
