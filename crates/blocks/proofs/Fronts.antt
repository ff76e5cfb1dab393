-- A list that is not empty, as a pattern takes it apart.
use Rattle.std.proofs.Common.{◌≡◌, ℕ, ◌-◌, ◌≤◌, List, [], ◌∷◌, length, get_or, take, drop, Some, None, Option, refl, sym, ap, arith, IsSome, MatchOption}
use Rattle.std.proofs.lemmas.List.{take_rest}

pub front : {X : Type 0} (xs : List X) (d : X) → 1 ≤ length xs → xs ≡ get_or xs 0 d ∷ take (length xs - 1) (drop 1 xs)
front [] d l = absurd (omega arith)
front (x ∷ xs) d l = ap (λ t. x ∷ t) (sym (take_rest (x ∷ xs) 1))

-- what is said of nothing
pub none_case : {X : Type 0} (N : Type 0) (S : X → Type 0) (o : Option X) → o ≡ None → N → MatchOption o N S
none_case N S None e n = n
none_case N S (Some x) e n = let z : ◌≡◌ {A = ℕ} 0 1 = cc in absurd (omega arith)

-- something, where nothing cannot be
pub some_case : {X : Type 0} (N : Type 0) (S : X → Type 0) (o : Option X) → MatchOption o N S → (N → ⊥) → IsSome o
some_case N S None h n = absurd (n h)
some_case N S (Some x) h n = refl
