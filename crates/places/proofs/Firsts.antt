-- The children that count are the first ones of a node's four.
use Rattle.std.proofs.Common.{◌≡◌, ℕ, zero, suc, ◌<◌, ◌≤◌, List, length, get_or, drop, refl, ap, ◌∙◌, one-add, arith}
use Rattle.std.proofs.lemmas.List.{get_or-drop}
use Rattle.tour.specs.Trees.{at_of}
use Rattle.places.specs.Places.{firsts}

pub firsts_at : (n k : ℕ) (cs : List ℕ) → k < n → get_or (firsts n cs) k 0 ≡ get_or cs k 0
firsts_at zero k cs h = absurd (omega arith)
firsts_at (suc n) zero cs h = refl
firsts_at (suc n) (suc k) cs h = firsts_at n k (drop 1 cs) (omega arith) ∙ get_or-drop 1 cs k 0 ∙ ap (λ i. get_or cs i 0) (one-add k)

pub length_firsts : (n : ℕ) (cs : List ℕ) → length (firsts n cs) ≡ n
length_firsts zero cs = refl
length_firsts (suc n) cs = ap suc (length_firsts n (drop 1 cs))

pub at_of_firsts : (p n o : ℕ) (cs : List ℕ) → o ≤ n → at_of p (firsts n cs) o ≡ at_of p cs o
at_of_firsts p n zero cs h = refl
at_of_firsts p n (suc k) cs h = firsts_at n k cs (omega arith)
