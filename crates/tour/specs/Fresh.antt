-- Evaluation from nothing: no instance has a value, and each one of the tour gets its own in turn.
use Rattle.std.specs.Prelude.{Bool, true, false, List, [], ◌∷◌, map, Some, None, Option}
use Rattle.std.specs.Option.{option_map}
use Rattle.grammar.specs.Forms.{onto}
use Rattle.tour.specs.Runs.{Source, System}
use Rattle.tour.specs.Runs.Source.{of, fixed}

-- what a source gives, if it has a value yet
abbrev pub found : {I V : Type 0} → (I → Option V) → Source I V → Option V
found v (of i) = v i
found v (fixed x) = Some x

-- the values, if all are there
abbrev pub together : {V : Type 0} → List (Option V) → Option (List V)
together [] = Some []
together (x ∷ xs) = onto x (together xs)

-- what the equation of i gives on the values so found; nothing if an argument has none
abbrev pub evaluated : {I V : Type 0} → System I V → (I → Option V) → I → Option V
evaluated S v i = option_map (S.apply i) (together (map (found v) (S.sources i)))

-- x at i, and the others as before
abbrev pub put : {I V : Type 0} → (I → I → Bool) → I → Option V → (I → Option V) → I → Option V
put same i x v j = elim (same j i) [ true ↦ x | false ↦ v j ]

-- each instance of the list in turn
abbrev pub evaluations : {I V : Type 0} → (I → I → Bool) → System I V → List I → (I → Option V) → I → Option V
evaluations same S [] v = v
evaluations same S (i ∷ is) v = evaluations same S is (put same i (evaluated S v i) v)

abbrev pub fresh : {I V : Type 0} → (I → I → Bool) → System I V → I → Option V
fresh same S = evaluations same S S.tour (λ _. None)
