-- A test of some element, place by place.
use Rattle.std.proofs.Common.{◌≡◌, ℕ, ◌+◌, ◌<◌, Bool, ◌||◌, List, [], ◌∷◌, ◌++◌, length, get_or, take, refl, ap, ◌∙◌, arith}
use Rattle.std.proofs.lemmas.List.{take_more}
use Rattle.std.proofs.lemmas.Bool.Decides.{nat_tests}
use Rattle.std.specs.List.{list_any}
use Rattle.grammar.specs.Tests.{some}

pub some_any : {X : Type 0} (f : X → Bool) (xs : List X) → list_any f xs ≡ some f xs
some_any f [] = refl
some_any f (x ∷ xs) = ap (λ b. f x || b) (some_any f xs)

module _ {X : Type 0} (f : X → Bool) where
  some_push : (xs : List X) (x : X) → some f (xs ++ x ∷ []) ≡ (some f xs || f x)
  some_push [] x = grind (arith, nat_tests)
  some_push (y ∷ ys) x = let h = some_push ys x in grind (arith, nat_tests)

  pub some_more : (xs : List X) (i : ℕ) (d : X) → i < length xs → some f (take (i + 1) xs) ≡ (some f (take i xs) || f (get_or xs i d))
  some_more xs i d h = ap (some f) (take_more xs i d h) ∙ some_push (take i xs) (get_or xs i d)
