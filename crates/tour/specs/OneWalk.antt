-- One walk settles: it passes what is not owed, evaluates what is owed, and goes on.
use Rattle.std.specs.Prelude.{◌≡◌, Bool, true, List, [], ◌∷◌, ◌++◌, ◌≢◌}
use Rattle.tour.specs.Runs.{System, State, Ordered, Idle, Step, Run}
use Rattle.tour.specs.Incremental.{Settling}
use Rattle.tour.specs.Trees.{Instance, same_instance}

-- the steps of a walk led from s to u, and nothing that it has passed is owed
pub record Walked {I V : Type 0} (S : System I V) (s : State I V) (passed is : List I) (u : State I V) : Type 0 where
  pub run : Run S s is u
  pub idle : Idle u passed

pub record OneWalk (V : Type 0) : Type 0 where
  pub starts : (S : System Instance V) → Ordered S → (s : State Instance V) → Walked S s [] [] s
  -- it passes what is not owed
  pub passes :
      (S : System Instance V) → Ordered S → (s u : State Instance V) (xs is : List Instance) (i : Instance) →
      (u.owed i ≢ true) → Walked S s xs is u → Walked S s (xs ++ i ∷ []) is u
  -- it evaluates what is owed, and what it had passed is still not owed
  pub evaluates :
      (S : System Instance V) → Ordered S → (s u t : State Instance V) (xs is : List Instance) (i : Instance) (c : Bool) →
      (step : Step S u i c t) → step.front ≡ xs → Walked S s xs is u → Walked S s (xs ++ i ∷ []) (is ++ i ∷ []) t
  -- at the end of the tour all is settled
  pub settles :
      (S : System Instance V) → Ordered S → (s u : State Instance V) (is : List Instance) → Walked S s S.tour is u →
      Settling same_instance S s is u
