-- The free places of a table.
use Rattle.std.proofs.Common.{◌≡◌, ℕ, zero, suc, ◌+◌, ◌<◌, ◌≤◌, List, [], ◌∷◌, length, drop, Some, None, Option, sym, refl, ap, ap₂, ◌∙◌, add-zero, arith, cond, ltb, position, ⊎_elim, lt-ltb, MatchOption, subst}
use Rattle.std.specs.Option.{option_map}
use Rattle.blocks.proofs.Fronts.{none_case}
use Rattle.std.specs.List.{position_or_len}
use Rattle.std.proofs.lemmas.List.{drop-drop}
use Rattle.std.proofs.lemmas.Option.{cond_some, none-some}
use Rattle.std.proofs.lemmas.Bool.{cases_lt, ltb-true}
use Rattle.places.specs.declared.node.Node.{Node}
use Rattle.places.specs.Totals.{is_free, free_from}
use Rattle.blocks.specs.Taken.{free_after}

none_free : (i : ℕ) (ps : List (Option Node)) → length ps ≤ position_or_len is_free ps → free_from i ps ≡ []
none_free i [] l = refl
none_free i (None ∷ ps) l = absurd (omega arith)
none_free i (Some n ∷ ps) l = none_free (suc i) ps (omega arith)

one_free : (i k : ℕ) (ps : List (Option Node)) → k ≡ position_or_len is_free ps → k < length ps → free_from i ps ≡ (i + k) ∷ free_from (suc (i + k)) (drop (suc k) ps)
one_free i k [] e l = absurd (omega arith)
one_free i zero (None ∷ ps) e l = ap (λ n. n ∷ free_from (suc n) ps) (sym (add-zero i))
one_free i (suc k) (None ∷ ps) e l = absurd (omega arith)
one_free i zero (Some n ∷ ps) e l = absurd (omega arith)
one_free i (suc k) (Some n ∷ ps) e l = one_free (suc i) k ps (omega arith) (omega arith) ∙ ap (λ m. m ∷ free_from (suc m) (drop (suc k) ps)) (omega arith)

pub free_at : (from : ℕ) (ps : List (Option Node)) (k : ℕ) → position is_free (drop from ps) ≡ Some k → free_after from ps ≡ (from + k) ∷ free_after (from + k + 1) ps
free_at from ps k e =
    let rest = drop from ps in
    let h = cond_some (ltb (position_or_len is_free rest) (length rest)) (position_or_len is_free rest) k e in
    let l : position_or_len is_free rest < length rest = ltb-true _ _ h.0 in
    one_free from k rest (sym h.1) (omega (arith, h.1))
    ∙ ap (λ z. (from + k) ∷ free_from (suc (from + k)) z) (drop-drop (suc k) from ps)
    ∙ ap₂ (λ m n. (from + k) ∷ free_from m (drop n ps)) (omega arith) (omega arith)

pub free_nowhere : (from : ℕ) (ps : List (Option Node)) → position is_free (drop from ps) ≡ None → free_after from ps ≡ []
free_nowhere from ps e =
    let rest = drop from ps in
    let n = position_or_len is_free rest in
    ⊎_elim (λ l. absurd (none-some n (sym e ∙ ap (λ b. cond b (Some n) None) (lt-ltb _ _ l)))) (none_free from rest) (cases_lt n (length rest))

-- the place of the first free one, told by how many stand before it
pub first_after : (from : ℕ) (ps : List (Option Node)) (o r : Option ℕ) → position is_free (drop from ps) ≡ o → r ≡ option_map (λ k. from + k) o → MatchOption r (free_after from ps ≡ []) (λ p. free_after from ps ≡ p ∷ free_after (p + 1) ps)
first_after from ps None r e f = none_case _ _ r f (free_nowhere from ps e)
first_after from ps (Some k) r e f = subst (λ o. MatchOption o (free_after from ps ≡ []) (λ p. free_after from ps ≡ p ∷ free_after (p + 1) ps)) (sym f) (free_at from ps k e)
