-- Lists behind tables.
use Rattle.std.proofs.Common.{◌≡◌, ℕ, eqb, List, [], ◌∷◌, map, length, ap, arith}
use Rattle.std.proofs.lemmas.Bool.{ne_eqb}
use Rattle.reader.specs.Steps.{is_empty}

-- a table is empty where its list is, seen through f
pub empty_len : {X Y : Type 0} (f : X → Y) (xs : List X) (n : ℕ) → n ≡ length xs → eqb n 0 ≡ is_empty (map f xs)
empty_len f [] n e = ap (λ m. eqb m 0) e
empty_len f (x ∷ xs) n e = ne_eqb n 0 (λ z. omega arith)
