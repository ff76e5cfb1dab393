-- Which instances take their arguments from where.
use Rattle.std.specs.Prelude.{◌≡◌, ℕ, ◌<◌, Bool, true, false, ◌&&◌, List, length, Some, None, Decides, Option, ◌==◌, slice_index}
use Rattle.grammar.specs.Model.{Equation, Grammar}
use Rattle.grammar.specs.Tests.{some}
use Rattle.grammar.specs.declared.terms.Argument.{Argument}
use Rattle.grammar.specs.declared.terms.Argument.TheVariants.{Datum, Of}
use Rattle.grammar.specs.declared.terms.Flow.{Flow}
use Rattle.grammar.specs.declared.terms.Flow.TheVariants.{Inherited, Synthesized}
use Rattle.sheet.specs.Meaning.{Sound}
use Rattle.tour.specs.Results.{Meaning, sources}
use Rattle.tour.specs.Rules.{rule}
use Rattle.tour.specs.Runs.{In, named}
use Rattle.tour.specs.Trees.{Instance, at_of}
use Rattle.tour.specs.Nodes.{Link, Table}
use Rattle.tour.specs.Nodes.Link.{top, under}
use Rattle.tour.specs.Nodes.{flow_of}
use Rattle.places.specs.Places.{at, used, arity, table}
use Rattle.places.specs.Shape.{SoundPlaces}
use Rattle.places.specs.declared.node.Node.{Node}
use Rattle.exchange.specs.Waking.{Woke, Slept, is_at}
use Rattle.exchange.specs.declared.taken.Taken.{Taken}
use Rattle.exchange.specs.declared.taken.Taken.TheVariants.{Occurrence, Attribute}

-- a node's rule is in the grammar, and its children are places of the table
pub record Fits (g : Grammar) (ps : List (Option Node)) (n : Node) : Type 0 where
  pub rule_there : n.rule < length g.rules
  pub children_within : (k : ℕ) → k < arity g n.rule → slice_index n.children k < length ps

abbrev pub FitsThere : Grammar → List (Option Node) → Option Node → Type 0
FitsThere g ps None = ⊥
FitsThere g ps (Some n) = Fits g ps n

-- there is a node at p, and it fits
abbrev pub FitsAt : Grammar → List (Option Node) → ℕ → Type 0
FitsAt g ps p = FitsThere g ps (at ps p)

-- whether an argument comes from there
abbrev pub takes_from : Taken → Argument → Bool
takes_from (Occurrence o) Datum = false
takes_from (Occurrence o) (Of p b) = p == o
takes_from (Attribute o a) Datum = false
takes_from (Attribute o a) (Of p b) = p == o && b == a

-- the target of an equation, if one of its arguments comes from there; places of occurrences by a function
abbrev pub wakes : (ℕ → ℕ) → Taken → Equation → Instance → Bool
wakes place from e x = is_at (place e.occurrence) e.attribute x && some (takes_from from) e.arguments

abbrev pub takers_among : (ℕ → ℕ) → Taken → List Equation → Instance → Bool
takers_among place from es x = some (λ e. wakes place from e x) es

-- the targets of the equations of the rule at place p that take an argument from there
abbrev pub takers_at : Grammar → Table → ℕ → Taken → Instance → Bool
takers_at g T p from x = takers_among (at_of p (T p).kids) from (rule g (T p).rule).equations x

abbrev pub takers_above : Grammar → Table → Link → ℕ → Instance → Bool
takers_above g T top a x = false
takers_above g T (under u k) a x = takers_at g T u (Attribute k a) x

abbrev pub takers_in : Grammar → Table → Flow → ℕ → ℕ → Instance → Bool
takers_in g T Inherited q a x = takers_at g T q (Attribute 0 a) x
takers_in g T Synthesized q a x = takers_above g T (T q).link a x

-- The instances that take instance y as an argument: targets of the rule at its place where it is inherited, and of the
-- rule above where it is synthesized.
abbrev pub takers_of : Grammar → Table → Instance → Instance → Bool
takers_of g T y x = takers_in g T (flow_of g T y) y.0 y.1 x

-- in sound places, x takes y just where y is an argument of x
abbrev pub TakersLaw : Type 0 → Type 0
TakersLaw V =
    (M : Meaning V) (g : Grammar) → Sound g → (ps : List (Option Node)) → SoundPlaces g ps → (x y : Instance) → used ps x.0 ≡ true → used ps y.0 ≡ true →
    Decides (takers_of g (table g ps) y x) (In y (named (sources M g (table g ps) x)))

-- waking the takers of an instance, or making instances not owed, keeps the places sound
pub record MarkingLaw : Type 0 where
  pub wakes_sound : (g : Grammar) → Sound g → (ps qs : List (Option Node)) (y : Instance) → SoundPlaces g ps → used ps y.0 ≡ true → Woke ps qs (takers_of g (table g ps) y) → SoundPlaces g qs
  pub clears_sound : (g : Grammar) (ps qs : List (Option Node)) (these : Instance → Bool) → SoundPlaces g ps → Slept ps qs these → SoundPlaces g qs
