-- Tests over lists and numbers.
use Rattle.std.specs.Prelude.{ℕ, zero, suc, Bool, true, false, ◌&&◌, ◌||◌, List, [], ◌∷◌, Some, None, Option}

-- the test holds of each element
abbrev pub every : {X : Type 0} → (X → Bool) → List X → Bool
every p [] = true
every p (x ∷ xs) = p x && every p xs

-- the test holds of some element
abbrev pub some : {X : Type 0} → (X → Bool) → List X → Bool
some p [] = false
some p (x ∷ xs) = p x || some p xs

-- the test holds of each number below n
abbrev pub every_below : (ℕ → Bool) → ℕ → Bool
every_below p zero = true
every_below p (suc n) = p n && every_below p n

-- what a function gives of what is there
abbrev pub and_then : {X Y : Type 0} → Option X → (X → Option Y) → Option Y
and_then None f = None
and_then (Some x) f = f x
