-- Numbers and pairs as they are read, and as they are written.
use Rattle.std.proofs.Common.{◌≡◌, ℕ, ◌+◌, ◌/◌, ◌%◌, ◌<◌, ◌≤◌, List, [], ◌∷◌, ◌++◌, length, get_or, Some, None, decimal, Option, sym, refl, ap, ◌∙◌, subst, ⊎_elim, arith}
use Rattle.std.specs.Int.{IsInRange}
use Rattle.std.specs.Str.Parse.{AllDigits, digits_value}
use Rattle.std.proofs.lemmas.List.{get_or_append_left, length-append}
use Rattle.std.proofs.lemmas.Bool.{cases_lt}
use Rattle.std.proofs.lemmas.Bool.Decides.{nat_tests}
use Rattle.std.proofs.lemmas.Str.Parse.{IsNumeralModel, numerals_by_value, tells_digits, not_in_digits, digit_at}
use Rattle.std.proofs.lemmas.Fmt.{decimal_digit, decimal_step, decimal_nonempty, digits_decimal}
use Rattle.words.specs.Cuts.{Lacks, Halves, cut_at}
use Rattle.words.specs.Numbers.{number_in, both, pair_of, pair_in}
use Rattle.words.proofs.Parts.{lacks_tail, lacks_cons, cut_found, cut_back}
use Rattle.sheet.specs.Writing.{write_pair}

two : (n : ℕ) → 10 ≤ n → n < 100 → decimal n ≡ (48 + n / 10) ∷ (48 + n % 10) ∷ []
two n l h = decimal_step n l (omega arith) ∙ ap (λ ds. ds ++ ((48 + n % 10) ∷ [])) (decimal_digit (n / 10) (omega arith))

three : (n : ℕ) → 100 ≤ n → n < 1000 → decimal n ≡ (48 + n / 10 / 10) ∷ (48 + n / 10 % 10) ∷ (48 + n % 10) ∷ []
three n l h = decimal_step n (omega arith) (omega arith) ∙ ap (λ ds. ds ++ ((48 + n % 10) ∷ [])) (two (n / 10) (omega arith) (omega arith))

read_one : (n : ℕ) → n < 10 → number_in ((48 + n) ∷ []) ≡ Some n
read_one n h = grind (arith, nat_tests)

read_two : (n : ℕ) → 10 ≤ n → n < 100 → number_in ((48 + n / 10) ∷ (48 + n % 10) ∷ []) ≡ Some n
read_two n l h = grind (arith, nat_tests)

read_three : (n : ℕ) → 100 ≤ n → n < 1000 → number_in ((48 + n / 10 / 10) ∷ (48 + n / 10 % 10) ∷ (48 + n % 10) ∷ []) ≡ Some n
read_three n l h = grind (arith, nat_tests)

-- a written number is read as itself
pub number_comes : (n : ℕ) → n < 1000 → number_in (decimal n) ≡ Some n
number_comes n h =
    ⊎_elim (λ a. ap number_in (decimal_digit n a) ∙ read_one n a)
    (λ a. ⊎_elim (λ b. ap number_in (two n a b) ∙ read_two n a b) (λ b. ap number_in (three n b h) ∙ read_three n b h) (cases_lt n 100))
    (cases_lt n 10)

-- what is read as a number is how it is written
pub number_goes_back : (w : List ℕ) (n : ℕ) → number_in w ≡ Some n → (w ≡ decimal n) × (n < 1000)
number_goes_back [] n e = absurd (grind arith)
number_goes_back (a ∷ []) n e =
    let k : (n < 10) × (a ≡ 48 + n) = grind (arith, nat_tests) in
    (ap (λ x. x ∷ []) k.1 ∙ sym (decimal_digit n k.0), omega arith)
number_goes_back (a ∷ b ∷ []) n e =
    let k : (10 ≤ n) × (n < 100) × (a ≡ 48 + n / 10) × (b ≡ 48 + n % 10) = grind (arith, nat_tests) in
    ((λ i. (k.2 i) ∷ (k.3 i) ∷ []) ∙ sym (two n k.0 k.1), omega arith)
number_goes_back (a ∷ b ∷ c ∷ []) n e =
    let k : (100 ≤ n) × (n < 1000) × (a ≡ 48 + n / 10 / 10) × (b ≡ 48 + n / 10 % 10) × (c ≡ 48 + n % 10) = grind (arith, nat_tests) in
    ((λ i. (k.2 i) ∷ (k.3 i) ∷ (k.4 i) ∷ []) ∙ sym (three n k.0 k.1), omega arith)
number_goes_back (a ∷ b ∷ c ∷ d ∷ ds) n e = absurd (grind arith)

own : IsNumeralModel (AllDigits 10) (digits_value 10)
own = numerals_by_value _ tells_digits

-- what is no digit does not stand in a number
pub number_lacks : (c n : ℕ) → c < 48 → n < 1000 → Lacks c (decimal n)
number_lacks c n l h k m e = not_in_digits own (decimal n) c (digits_decimal own n (omega arith)) (λ i. omega arith) k m e

-- it begins with a digit
abbrev pub Numeric : List ℕ → Type 0
Numeric w = (0 < length w) × IsInRange 48 57 (get_or w 0 0)

pub number_begins : (n : ℕ) → n < 1000 → Numeric (decimal n)
number_begins n h =
    let some : 0 < length (decimal n) = decimal_nonempty n (omega arith) in
    (some, digit_at (decimal n) 0 (digits_decimal own n (omega arith)) some)

pub lacks_append : (c : ℕ) (a b : List ℕ) → Lacks c a → Lacks c b → Lacks c (a ++ b)
lacks_append c [] b h k = k
lacks_append c (x ∷ a) b h k = lacks_cons c x (a ++ b) (h 0 (omega arith)) (lacks_append c a b (lacks_tail c x a h) k)

both_goes_back : (a b : List ℕ) (o p : Option ℕ) (q : ℕ × ℕ) → number_in a ≡ o → number_in b ≡ p → both o p ≡ Some q → (a ++ 46 ∷ b ≡ write_pair q.0 q.1) × ((q.0 < 1000) × (q.1 < 1000))
both_goes_back a b None p q ea eb e = absurd (grind arith)
both_goes_back a b (Some x) None q ea eb e = absurd (grind arith)
both_goes_back a b (Some x) (Some y) q ea eb e =
    let is : (x, y) ≡ q = cc in
    let l = number_goes_back a x ea in
    let r = number_goes_back b y eb in
    subst (λ (z : ℕ × ℕ). (a ++ 46 ∷ b ≡ write_pair z.0 z.1) × ((z.0 < 1000) × (z.1 < 1000))) is ((λ i. l.0 i ++ 46 ∷ r.0 i), (l.1, r.1))

-- what is read as a pair is how it is written
pub pair_goes_back : (w : List ℕ) (q : ℕ × ℕ) → pair_in w ≡ Some q → (w ≡ write_pair q.0 q.1) × ((q.0 < 1000) × (q.1 < 1000))
pair_goes_back w q e = by (cut_at 46 w) refl e
  where
    by : (o : Option Halves) → cut_at 46 w ≡ o → pair_of o ≡ Some q → (w ≡ write_pair q.0 q.1) × ((q.0 < 1000) × (q.1 < 1000))
    by None c k = absurd (grind arith)
    by (Some h) c k =
        let r = both_goes_back h.before h.after (number_in h.before) (number_in h.after) q refl refl k in
        ((cut_back 46 w h c).whole ∙ r.0, r.1)

pub pair_cuts : (x y : ℕ) → x < 1000 → cut_at 46 (write_pair x y) ≡ Some (record { before = decimal x; after = decimal y })
pair_cuts x y h = cut_found 46 (decimal x) (decimal y) (number_lacks 46 x (omega arith) h)

-- a written pair is read as itself
pub pair_comes : (x y : ℕ) → x < 1000 → y < 1000 → pair_in (write_pair x y) ≡ Some (x, y)
pair_comes x y h k = ap pair_of (pair_cuts x y h) ∙ (λ i. both (number_comes x h i) (number_comes y k i))

pub pair_lacks : (c x y : ℕ) → c < 46 → x < 1000 → y < 1000 → Lacks c (write_pair x y)
pair_lacks c x y l h k = lacks_append c (decimal x) (46 ∷ decimal y) (number_lacks c x (omega arith) h) (lacks_cons c 46 (decimal y) (λ e. omega arith) (number_lacks c y (omega arith) k))

pub pair_begins : (x y : ℕ) → x < 1000 → Numeric (write_pair x y)
pair_begins x y h =
    let b = number_begins x h in
    let e = get_or_append_left (decimal x) (46 ∷ decimal y) 0 0 b.0 in
    (simp length-append (omega arith), subst (IsInRange 48 57) (sym e) b.1)
