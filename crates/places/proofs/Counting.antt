-- The free places are as many as are listed.
use Rattle.std.proofs.Common.{◌≡◌, ℕ, suc, List, [], ◌∷◌, cond, length, Some, None, Option, refl, arith, count_by}
use Rattle.std.proofs.lemmas.List.Sums.{sum_by-cons}
use Rattle.places.specs.Totals.{is_free, free_from}
use Rattle.places.specs.declared.node.Node.{Node}

pub free_length : (i : ℕ) (ps : List (Option Node)) → length (free_from i ps) ≡ count_by is_free ps
free_length i [] = refl
free_length i (None ∷ ps) = let h = free_length (suc i) ps in let s = sum_by-cons (λ o. cond (is_free o) 1 0) None ps in omega arith
free_length i (Some n ∷ ps) = let h = free_length (suc i) ps in let s = sum_by-cons (λ o. cond (is_free o) 1 0) (Some n) ps in omega arith
