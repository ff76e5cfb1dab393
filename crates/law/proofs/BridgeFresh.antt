-- A fresh evaluation looks at the tour, and at sources and equations of what stands in it.
use Rattle.std.proofs.Common.{◌≡◌, Bool, List, [], ◌∷◌, map, None, Option, refl, ap, ◌∙◌, ap₂, inl, inr}
use Rattle.std.specs.Option.{option_map}
use Rattle.tour.specs.Runs.{In, System}
use Rattle.tour.specs.Fresh.{found, together, evaluated, put, evaluations, fresh}

module _ {I V : Type 0} (same : I → I → Bool) (S R : System I V) where
  evaluated_same : (v : I → Option V) (i : I) → R.sources i ≡ S.sources i → ((vs : List V) → R.apply i vs ≡ S.apply i vs) → evaluated R v i ≡ evaluated S v i
  evaluated_same v i es ea = ap₂ (λ (f : List V → V) xs. option_map f (together (map (found v) xs))) (λ j vs. ea vs j) es

  evaluations_same : (is : List I) (v : I → Option V) → ((i : I) → In i is → R.sources i ≡ S.sources i) → ((i : I) → In i is → (vs : List V) → R.apply i vs ≡ S.apply i vs) → evaluations same R is v ≡ evaluations same S is v
  evaluations_same [] v es ea = refl
  evaluations_same (i ∷ is) v es ea =
      ap (λ z. evaluations same R is (put same i z v)) (evaluated_same v i (es i (inl refl)) (ea i (inl refl)))
      ∙ evaluations_same is (put same i (evaluated S v i) v) (λ j m. es j (inr m)) (λ j m. ea j (inr m))

  -- two systems with the same tour, and the same sources and equations on it, have the same fresh evaluation
  pub fresh_same : R.tour ≡ S.tour → ((i : I) → In i S.tour → R.sources i ≡ S.sources i) → ((i : I) → In i S.tour → (vs : List V) → R.apply i vs ≡ S.apply i vs) → fresh same R ≡ fresh same S
  fresh_same e es ea = ap (λ is. evaluations same R is (λ _. None)) e ∙ evaluations_same S.tour (λ _. None) es ea
