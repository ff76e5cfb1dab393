-- Writing into a text, byte by byte and number by number.
use Rattle.std.proofs.Common.{◌≡◌, ℕ, zero, suc, ◌+◌, ◌^◌, ◌<◌, ◌≤◌, List, [], ◌∷◌, ◌++◌, length, take, set, decimal, sym, refl, ap, ◌∙◌, arith}
use Rattle.std.proofs.lemmas.List.{append-nil, length-append, length-take-le, take_all, take-append-le, take_more_set}
use Rattle.std.proofs.lemmas.Fmt.{decimal_digit, decimal-digits_of, length-decimal-le}
use Rattle.archive.specs.Texts.{numeral}

-- a byte that there is room for
pub push_room : (bs : List ℕ) (n b : ℕ) → n < 40 → length bs ≡ 40 → take (n + 1) (set bs n b) ≡ take 40 (take n bs ++ b ∷ [])
push_room bs n b h s =
    let l : length (take n bs ++ b ∷ []) ≤ 40 = simp length-append (omega (arith, length-take-le n bs (omega arith))) in
    take_more_set bs n b (omega arith) ∙ sym (take_all 40 (take n bs ++ b ∷ []) l)

-- a byte too many
pub push_full : (bs : List ℕ) (n b : ℕ) → n ≤ 40 → 40 ≤ n → length bs ≡ 40 → take n bs ≡ take 40 (take n bs ++ b ∷ [])
push_full bs n b h k s =
    let l = length-take-le n bs (omega arith) in
    sym (take-append-le 40 (take n bs) (b ∷ []) (omega arith) ∙ take_all 40 (take n bs) (omega arith))

-- what stands there before anything is written
pub written_so_far : (bs : List ℕ) (n : ℕ) → n ≤ 40 → length bs ≡ 40 → take n bs ≡ take 40 (take n bs ++ [])
written_so_far bs n h s =
    let l = length-take-le n bs (omega arith) in
    sym (ap (take 40) (append-nil (take n bs)) ∙ take_all 40 (take n bs) (omega arith))

-- what is written in two goes
pub take_again : {X : Type 0} (n : ℕ) (xs ys : List X) → take n (take n xs ++ ys) ≡ take n (xs ++ ys)
take_again zero xs ys = refl
take_again (suc n) [] ys = refl
take_again (suc n) (x ∷ xs) ys = ap (λ l. x ∷ l) (take_again n xs ys)

-- the numeral of a number that a program holds is what the library writes
pub numeral_decimal : (n : ℕ) → n < 2 ^ 64 → numeral n ≡ decimal n
numeral_decimal zero h = sym (decimal_digit 0 (omega arith))
numeral_decimal (suc n) h = sym (decimal-digits_of (suc n) (omega arith) h)

-- a number of 32 bits has ten digits at most
pub length_numeral : (n : ℕ) → n < 2 ^ 32 → length (numeral n) ≤ 10
length_numeral n h = rw (numeral_decimal n (omega arith)) (length-decimal-le 10 n (omega arith) (omega arith) (omega arith))

-- one piece more behind what was written so far
pub piece : (full mid more fin : List ℕ) → mid ≡ take 40 full → fin ≡ take 40 (mid ++ more) → fin ≡ take 40 (full ++ more)
piece full mid more fin m e = e ∙ ap (λ (l : List ℕ). take 40 (l ++ more)) m ∙ take_again 40 full more

-- the whole, where there is room for it
pub whole : (full text fin : List ℕ) → fin ≡ take 40 full → full ≡ text → length text ≤ 40 → fin ≡ text
whole full text fin e f l = e ∙ ap (take 40) f ∙ take_all 40 text l
