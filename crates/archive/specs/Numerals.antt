-- No two numbers have one numeral, and a numeral ends at the byte / behind it: proofs, for Apart.
use Rattle.std.specs.Prelude.{◌≡◌, ℕ, zero, suc, ◌+◌, ◌-◌, ◌<◌, List, [], ◌∷◌, ◌++◌, map, ◌≢◌, slice_index, slice_index_or, refl}
use Rattle.std.proofs.Common.{sym, ap, ◌∙◌, arith}
use Rattle.std.specs.Int.Digits.{digits_of}
use Rattle.std.specs.List.{AllByRecursion}
use Rattle.std.proofs.lemmas.Int.Digits.{same_from_digits_of, first_digits_of}
use Rattle.archive.specs.Texts.{numeral}

back_map : (xs : List ℕ) → map (λ d. d - 48) (map (λ d. 48 + d) xs) ≡ xs
back_map [] = refl
back_map (x ∷ xs) = let e : 48 + x - 48 ≡ x = omega arith in rw (e, back_map xs)

not_nought : (n : ℕ) → numeral (suc n) ≢ numeral 0
not_nought n h =
    let e : digits_of 10 (suc n) ≡ 0 ∷ [] = sym (back_map (digits_of 10 (suc n))) ∙ ap (λ (l : List ℕ). map (λ d. d - 48) l) h in
    let f : slice_index_or (digits_of 10 (suc n)) 0 0 ≡ 0 = ap (λ (l : List ℕ). slice_index l 0) e in
    omega (arith, first_digits_of 10 (suc n) (omega arith) (omega arith))

pub same_from_numeral : (m n : ℕ) → numeral m ≡ numeral n → m ≡ n
same_from_numeral zero zero h = refl
same_from_numeral zero (suc n) h = absurd (not_nought n (sym h))
same_from_numeral (suc m) zero h = absurd (not_nought m h)
same_from_numeral (suc m) (suc n) h =
    same_from_digits_of 10 (suc m) (suc n) (omega arith)
    (sym (back_map (digits_of 10 (suc m))) ∙ ap (λ (l : List ℕ). map (λ d. d - 48) l) h ∙ back_map (digits_of 10 (suc n)))

above_slash : (xs : List ℕ) → AllByRecursion (λ b. 47 < b) (map (λ d. 48 + d) xs)
above_slash [] = tt
above_slash (x ∷ xs) = (omega arith, above_slash xs)

numeral_above : (n : ℕ) → AllByRecursion (λ b. 47 < b) (numeral n)
numeral_above zero = (omega arith, tt)
numeral_above (suc n) = above_slash (digits_of 10 (suc n))

cut : (xs ys rest more : List ℕ) → AllByRecursion (λ b. 47 < b) xs → AllByRecursion (λ b. 47 < b) ys → xs ++ 47 ∷ rest ≡ ys ++ 47 ∷ more → (xs ≡ ys) × (rest ≡ more)
cut [] [] rest more p q h = (refl, cc)
cut [] (y ∷ ys) rest more p q h = let z : ◌≡◌ {A = ℕ} 47 y = cc in absurd (omega (arith, q.0))
cut (x ∷ xs) [] rest more p q h = let z : ◌≡◌ {A = ℕ} x 47 = cc in absurd (omega (arith, p.0))
cut (x ∷ xs) (y ∷ ys) rest more p q h =
    let e : x ≡ y = cc in
    let t : xs ++ 47 ∷ rest ≡ ys ++ 47 ∷ more = cc in
    let r = cut xs ys rest more p.1 q.1 t in
    let l : xs ≡ ys = r.0 in
    (cc, r.1)

-- numerals with / behind them are equal only if the numbers and the rests are
pub same_at_slash : (m n : ℕ) (rest more : List ℕ) → numeral m ++ 47 ∷ rest ≡ numeral n ++ 47 ∷ more → (m ≡ n) × (rest ≡ more)
same_at_slash m n rest more h =
    let r = cut (numeral m) (numeral n) rest more (numeral_above m) (numeral_above n) h in
    (same_from_numeral m n r.0, r.1)
