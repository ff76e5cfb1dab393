-- The law of incremental evaluation: steps that evaluate only what is owed come to the values of a fresh evaluation.
use Rattle.std.specs.Prelude.{◌≡◌, Bool, true, ◌⊎◌, ◌↔◌, List, length, Some}
use Rattle.tour.specs.Runs.{In, Apart, System, State, Ordered, Idle, Step, Run, Consistent, Moved, Alike}
use Rattle.tour.specs.Fresh.{fresh}
use Rattle.tour.specs.Trees.{Instance, same_instance}

-- j of the tour was owed at the start, or has an argument whose value ended other than it began
abbrev pub Due : {I V : Type 0} → System I V → State I V → State I V → I → Type 0
Due S s u j = In j S.tour × ((s.owed j ≡ true) ⊎ Moved S s u j)

-- what a run from s to u that leaves nothing owed in the tour has done
pub record Settling {I V : Type 0} (same : I → I → Bool) (S : System I V) (s : State I V) (is : List I) (u : State I V) : Type 0 where
  -- from a consistent state it came to the values of a fresh evaluation
  pub values : Consistent S s → (j : I) → In j S.tour → fresh same S j ≡ Some (u.value j)
  -- it evaluated what was due, each once
  pub once : Apart is
  pub exactly : (j : I) → In j is ↔ Due S s u j
  -- so the number of its steps is the number of those
  pub number : (js : List I) → Apart js → ((j : I) → In j js ↔ Due S s u j) → length is ≡ length js

-- systems of instances, with any values
pub record Incremental (V : Type 0) : Type 0 where
  -- a step keeps consistency, and so does a run
  pub step_keeps :
      (S : System Instance V) → Ordered S → (s t : State Instance V) (i : Instance) (c : Bool) → Step S s i c t →
      Consistent S s → Consistent S t
  pub run_keeps :
      (S : System Instance V) → Ordered S → (s u : State Instance V) (is : List Instance) → Run S s is u →
      Consistent S s → Consistent S u
  -- where nothing is owed, a consistent state has the values of a fresh evaluation
  pub fresh_values :
      (S : System Instance V) → Ordered S → (s : State Instance V) → Consistent S s → Idle s S.tour →
      (j : Instance) → In j S.tour → fresh same_instance S j ≡ Some (s.value j)
  -- a run that ends with nothing owed has evaluated what was due and nothing else
  pub settles :
      (S : System Instance V) → Ordered S → (s u : State Instance V) (is : List Instance) → Run S s is u →
      Idle u S.tour → Settling same_instance S s is u
  -- after a step, what is owed in the tour stands behind the instance just evaluated
  pub owed_behind :
      (S : System Instance V) → Ordered S → (s t : State Instance V) (i : Instance) (c : Bool) (step : Step S s i c t) →
      (j : Instance) → In j S.tour → t.owed j ≡ true → In j step.back
  -- as many steps from the same state evaluate the same instances and come to the same
  pub one_way :
      (S : System Instance V) → Ordered S → (s u w : State Instance V) (is js : List Instance) → Run S s is u → Run S s js w →
      length is ≡ length js → (is ≡ js) × Alike S u w
