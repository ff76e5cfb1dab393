-- A test of some element, asked of rows by what they mean.
use Rattle.std.proofs.Common.{◌≡◌, Bool, ◌||◌, List, [], ◌∷◌, map, refl, ap}
use Rattle.grammar.specs.Tests.{some}

pub some_map : {X Y : Type 0} (p : Y → Bool) (f : X → Y) (xs : List X) → some (λ x. p (f x)) xs ≡ some p (map f xs)
some_map p f [] = refl
some_map p f (x ∷ xs) = ap (λ b. p (f x) || b) (some_map p f xs)
