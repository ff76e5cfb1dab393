-- What evaluation reads and gives.
use Rattle.std.specs.Prelude.{◌≡◌, ℕ, ◌≤◌, Bool, true, List, map, Some, Option, ◌≢◌, slice_index_or}
use Rattle.std.specs.Option.{unwrap_or, option_map}
use Rattle.std.specs.List.{slice_get}
use Rattle.grammar.specs.Model.{Grammar, Equation}
use Rattle.grammar.specs.declared.terms.Argument.{Argument}
use Rattle.grammar.specs.declared.terms.Argument.TheVariants.{Datum, Of}
use Rattle.tour.specs.Nodes.{Table}
use Rattle.tour.specs.Results.{Meaning, worth, applied, result}
use Rattle.tour.specs.Rules.{rule}
use Rattle.tour.specs.Trees.{Instance}

abbrev pub meaning_of : {V : Type 0} → (ℕ → V) → (ℕ → V → V → V → V) → Meaning V
meaning_of leafs results = record { leaf = leafs; result = results }

-- an argument names the datum, or one of the first occurrences
abbrev pub NamedIn : ℕ → Argument → Type 0
NamedIn n Datum = Unit {0}
NamedIn n (Of o b) = o ≤ n

-- the value of an argument, by the places of the occurrences of its rule and the code of the datum; the leaf of 0 where
-- there is none
abbrev pub given_by : {V : Type 0} → Meaning V → (ℕ → ℕ) → ℕ → (Instance → V) → Option Argument → V
given_by M at code v x = unwrap_or (option_map (worth M at code v) x) (M.leaf 0)

-- no equation is for that attribute of that occurrence
abbrev pub NoEquation : ℕ → ℕ → List Equation → Type 0
NoEquation o a qs = (k : ℕ) (q : Equation) → slice_get qs k ≡ Some q → q.occurrence ≡ o → q.attribute ≢ a

-- the value of one of its arguments
abbrev pub argument_by : {V : Type 0} → Meaning V → (ℕ → ℕ) → ℕ → (Instance → V) → List Argument → ℕ → V
argument_by M at code v xs i = slice_index_or (map (worth M at code v) xs) i (M.leaf 0)

-- what an equation gives
abbrev pub result_by : {V : Type 0} → Meaning V → (ℕ → ℕ) → ℕ → (Instance → V) → Equation → V
result_by M at code v q = applied M q.function (map (worth M at code v) q.arguments)

-- the equations of the rule at a place
abbrev pub equations_at : Grammar → Table → ℕ → List Equation
equations_at g T p = (rule g (T p).rule).equations

-- What the evaluation of x does to the values: x has its equation's result, and no other
-- value changes.
pub record Evaluates {V : Type 0} (M : Meaning V) (g : Grammar) (T : Table) (x : Instance) (changed : Bool) (before after : Instance → V) : Type 0 where
  pub new : after x ≡ result M g T x before
  pub kept : (y : Instance) → (y ≢ x) → after y ≡ before y
  pub same : (changed ≢ true) → after x ≡ before x
  pub differs : changed ≡ true → after x ≢ before x
