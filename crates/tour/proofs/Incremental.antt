-- The law of incremental evaluation.
use Rattle.std.proofs.Common.{◌≡◌, Bool, true, eqb, ◌↔◌, List, [], ◌∷◌, ◌++◌, length, Decides, refl, ap, subst, inl, inr}
use Rattle.std.proofs.lemmas.Bool.Decides.{Decides-like, Decides-and, Decides-eqb}
use Rattle.tour.specs.Runs.{In, Apart, System, State, Ordered, Idle, Step, Run, Alike}
use Rattle.tour.specs.Incremental.{Due, Settling, Incremental}
use Rattle.tour.specs.Trees.{Instance, same_instance}
use Rattle.tour.proofs.Lists.{in_cases}
use Rattle.tour.proofs.Sums.{same_length}
use Rattle.tour.proofs.Sources.{discrete_by}
use Rattle.tour.proofs.Steps.{step_front, front_split, step_consistent, run_consistent, fresh_values, run_once, run_only, run_all}
use Rattle.tour.proofs.Unique.{run_one}

pub same_instance_lem : (x y : Instance) → Decides (same_instance x y) (x ≡ y)
same_instance_lem x y =
    Decides-like (same_instance x y) (λ h i. (h.0 i, h.1 i)) (λ e. (ap (λ z. z.0) e, ap (λ z. z.1) e))
    (Decides-and (eqb x.0 y.0) (eqb x.1 y.1) (Decides-eqb x.0 y.0) (Decides-eqb x.1 y.1))

pub instance_discrete : Discrete Instance
instance_discrete = discrete_by same_instance same_instance_lem

module _ {I V : Type 0} (same : I → I → Bool) (law : (x y : I) → Decides (same x y) (x ≡ y)) (S : System I V) (o : Ordered S) where
  pub settling : (s u : State I V) (is : List I) → Run S s is u → Idle u S.tour → Settling same S s is u
  settling s u is r idle = record {
    values = λ con j m. fresh_values S o same law u (run_consistent S o dec s u is r con) idle j m;
    once = once;
    exactly = exactly;
    number = λ js a h. same_length is js once a (λ j m. (h j).1 ((exactly j).0 m)) (λ j m. (exactly j).1 ((h j).0 m));
  }
    where
      dec : Discrete I
      dec = discrete_by same law

      once : Apart is
      once = run_once S o dec s u is r

      exactly : (j : I) → In j is ↔ Due S s u j
      exactly j = (run_only S o dec s u is r j, λ w. run_all S o dec s u is r idle j w.0 w.1)

  -- what is owed after a step stands behind it
  pub owed_behind : (s t : State I V) (i : I) (c : Bool) (step : Step S s i c t) (j : I) → In j S.tour → t.owed j ≡ true → In j step.back
  owed_behind s t i c step j m d =
      elim (in_cases j (step.front ++ i ∷ []) step.back (subst (λ z. In j z) (front_split S o step) m))
      [ inl k ↦ absurd (step_front S o step j k d) | inr k ↦ k ]

  pub one_way : (s u w : State I V) (is js : List I) → Run S s is u → Run S s js w → length is ≡ length js → (is ≡ js) × Alike S u w
  one_way s u w is js r q e = run_one (discrete_by same law) S o s u s w is js (record { values = λ j. refl; marks = λ j m. (λ d. d, λ d. d) }) r q e

pub incremental : (V : Type 0) → Incremental V
incremental V = record {
  step_keeps = λ S o s t i c step con. step_consistent S o instance_discrete step con;
  run_keeps = λ S o s u is r con. run_consistent S o instance_discrete s u is r con;
  fresh_values = λ S o s con idle j m. fresh_values S o same_instance same_instance_lem s con idle j m;
  settles = λ S o s u is r idle. settling same_instance same_instance_lem S o s u is r idle;
  owed_behind = λ S o s t i c step j m d. owed_behind same_instance same_instance_lem S o s t i c step j m d;
  one_way = λ S o s u w is js r q e. one_way same_instance same_instance_lem S o s u w is js r q e;
}
