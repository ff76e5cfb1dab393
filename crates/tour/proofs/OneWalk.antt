-- One walk along the tour settles.
use Rattle.std.proofs.Common.{◌≡◌, Bool, true, List, [], ◌∷◌, ◌++◌, sym, refl, subst, inl, inr}
use Rattle.tour.specs.Runs.{System, State, Ordered, Idle, Step, Run}
use Rattle.tour.specs.Trees.{same_instance}
use Rattle.tour.specs.OneWalk.{Walked, OneWalk}
use Rattle.tour.proofs.Lists.{in_cases}
use Rattle.tour.proofs.Steps.{step_front}
use Rattle.tour.proofs.Incremental.{same_instance_lem, settling}

module _ {I V : Type 0} (S : System I V) (o : Ordered S) where
  pub run_push : (s u t : State I V) (is : List I) (i : I) (c : Bool) → Run S s is u → Step S u i c t → Run S s (is ++ i ∷ []) t
  run_push s u t [] i c r st = (t, c, subst (λ z. Step S z i c t) (sym r) st, refl)
  run_push s u t (j ∷ is) i c (w, d, sw, r) st = (w, d, sw, run_push w u t is i c r st)

  pub walked_none : (s : State I V) → Walked S s [] [] s
  walked_none s = record { run = refl; idle = λ j m. absurd m }

  -- the walk passes what is not owed
  pub walked_skip : (s u : State I V) (xs is : List I) (i : I) → (u.owed i ≡ true → ⊥) → Walked S s xs is u → Walked S s (xs ++ i ∷ []) is u
  walked_skip s u xs is i n w = record {
    run = w.run;
    idle = λ j m d. elim (in_cases j xs (i ∷ []) m) [ inl k ↦ w.idle j k d | inr (inl e) ↦ n (subst (λ z. u.owed z ≡ true) e d) | inr (inr k) ↦ k ];
  }

  -- what is owed is the step's instance, and the walk goes on behind it
  pub walked_step : (s u t : State I V) (xs is : List I) (i : I) (c : Bool) (step : Step S u i c t) → step.front ≡ xs → Walked S s xs is u → Walked S s (xs ++ i ∷ []) (is ++ i ∷ []) t
  walked_step s u t xs is i c step e w =
      record { run = run_push s u t is i c w.run step; idle = subst (λ z. Idle t (z ++ i ∷ [])) e (step_front S o step) }

pub one_walk : (V : Type 0) → OneWalk V
one_walk V = record {
  starts = λ S o s. walked_none S o s;
  passes = λ S o s u xs is i n w. walked_skip S o s u xs is i n w;
  evaluates = λ S o s u t xs is i c step e w. walked_step S o s u t xs is i c step e w;
  settles = λ S o s u is w. settling same_instance same_instance_lem S o s u is w.run w.idle;
}
