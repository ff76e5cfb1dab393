-- A result looks at the values of its arguments and at no others.
use Rattle.std.proofs.Common.{◌≡◌, Bool, true, false, List, [], ◌∷◌, map, Some, Decides, Option, refl, ap, ap₂, inl, inr}
use Rattle.std.specs.Option.{option_map}
use Rattle.std.proofs.lemmas.Bool.Decides.{not_from_Decides}
use Rattle.grammar.specs.Forms.{onto}
use Rattle.tour.specs.Runs.{In, Source, System, read, named, args, result}
use Rattle.tour.specs.Runs.Source.{of, fixed}
use Rattle.tour.specs.Fresh.{found, together, evaluated, put}

-- a test that decides equality
pub discrete_by : {I : Type 0} (same : I → I → Bool) → ((x y : I) → Decides (same x y) (x ≡ y)) → Discrete I
discrete_by same law x y = go (same x y) refl
  where
    go : (b : Bool) → same x y ≡ b → Dec (x ≡ y)
    go true e = yes ((law x y).0 e)
    go false e = no (λ q. not_from_Decides (same x y) (law x y) e q)

module _ {I V : Type 0} where
  reads_same : (v w : I → V) (xs : List (Source I V)) → ((a : I) → In a (named xs) → v a ≡ w a) → map (read v) xs ≡ map (read w) xs
  reads_same v w [] h = refl
  reads_same v w (of i ∷ xs) h = ap₂ ◌∷◌ (h i (inl refl)) (reads_same v w xs (λ a m. h a (inr m)))
  reads_same v w (fixed x ∷ xs) h = ap (λ z. x ∷ z) (reads_same v w xs h)

  pub result_local : (S : System I V) (i : I) (v w : I → V) → ((a : I) → In a (args S i) → v a ≡ w a) → result S i v ≡ result S i w
  result_local S i v w h = ap (S.apply i) (reads_same v w (S.sources i) h)

  finds_all : (v : I → Option V) (w : I → V) (xs : List (Source I V)) → ((a : I) → In a (named xs) → v a ≡ Some (w a)) → together (map (found v) xs) ≡ Some (map (read w) xs)
  finds_all v w [] h = refl
  finds_all v w (of i ∷ xs) h = ap₂ onto (h i (inl refl)) (finds_all v w xs (λ a m. h a (inr m)))
  finds_all v w (fixed x ∷ xs) h = ap (onto (Some x)) (finds_all v w xs h)

  -- where all arguments have been found, so is the result
  pub evaluated_found : (S : System I V) (i : I) (v : I → Option V) (w : I → V) → ((a : I) → In a (args S i) → v a ≡ Some (w a)) → evaluated S v i ≡ Some (result S i w)
  evaluated_found S i v w h = ap (option_map (S.apply i)) (finds_all v w (S.sources i) h)

  module _ (same : I → I → Bool) (law : (x y : I) → Decides (same x y) (x ≡ y)) where
    pub put_here : (i : I) (x : Option V) (v : I → Option V) (j : I) → j ≡ i → put same i x v j ≡ x
    put_here i x v j e = ap (λ b. elim b [ true ↦ x | false ↦ v j ]) ((law j i).1 e)

    pub put_there : (i : I) (x : Option V) (v : I → Option V) (j : I) → (j ≡ i → ⊥) → put same i x v j ≡ v j
    put_there i x v j n = go (same j i) refl
      where
        go : (b : Bool) → same j i ≡ b → elim b [ true ↦ x | false ↦ v j ] ≡ v j
        go true e = absurd (n ((law j i).0 e))
        go false e = refl
