use Rattle.std.proofs.Common.{◌≡◌, ℕ, zero, suc, ◌+◌, ◌-◌, ◌/◌, ◌%◌, ◌^◌, ◌<◌, ◌≤◌, min, max, Bool, true, false, cond, not, ◌&&◌, ◌||◌, eqb, ltb, ◌⊎◌, sym, refl, ap, ◌∙◌, ap₂, inl, inr, mod-lt, pow-suc, div-one, one-add, arith, shr-shr, ltb-false, ltb-true}
use mathlib.Core.Bool.{false≢true}
use lib.Bits.{bit_and, bit_or, or_shr, and_shr, or_step, and_step}
use lib.Count.{ones, ones-le, ones_step, count_trailing_zeros, under}
use Rattle.std.proofs.lemmas.Bool.Decides.{nat_tests}
use Rattle.std.proofs.lemmas.Nat.{pow_below}
use Rattle.places.specs.Marks.{owes, owed_below, First, Turned}

-- by a shift
pub owes_shift : (m a : ℕ) → owes m a ≡ eqb (m / 2 ^ a % 2) 1
owes_shift m zero = rw div-one
owes_shift m (suc a) = owes_shift (m / 2) a ∙ ap (λ (x : ℕ). eqb (x % 2) 1) (shr-shr m 1 a ∙ ap (λ (k : ℕ). m / 2 ^ k) (one-add a))

pub owes_zero : (a : ℕ) → owes 0 a ≡ false
owes_zero zero = refl
owes_zero (suc a) = owes_zero a

or_odd : (a b : ℕ) → eqb (bit_or a b % 2) 1 ≡ (eqb (a % 2) 1 || eqb (b % 2) 1)
or_odd a b =
    let s = or_step a b in
    let p : a % 2 < 2 = mod-lt a (omega arith) in
    let q : b % 2 < 2 = mod-lt b (omega arith) in
    let e : bit_or a b % 2 ≡ max (a % 2) (b % 2) = omega arith in
    rw e (grind (arith, nat_tests))

and_odd : (a b : ℕ) → eqb (bit_and a b % 2) 1 ≡ (eqb (a % 2) 1 && eqb (b % 2) 1)
and_odd a b =
    let s = and_step a b in
    let p : a % 2 < 2 = mod-lt a (omega arith) in
    let q : b % 2 < 2 = mod-lt b (omega arith) in
    let e : bit_and a b % 2 ≡ min (a % 2) (b % 2) = omega arith in
    rw e (grind (arith, nat_tests))

pub owes_or : (a b k : ℕ) → owes (bit_or a b) k ≡ (owes a k || owes b k)
owes_or a b zero = or_odd a b
owes_or a b (suc k) = ap (λ (x : ℕ). owes x k) (or_shr a b 1) ∙ owes_or (a / 2) (b / 2) k

pub owes_and : (a b k : ℕ) → owes (bit_and a b) k ≡ (owes a k && owes b k)
owes_and a b zero = and_odd a b
owes_and a b (suc k) = ap (λ (x : ℕ). owes x k) (and_shr a b 1) ∙ owes_and (a / 2) (b / 2) k

pub owes_pow : (a k : ℕ) → owes (2 ^ a) k ≡ eqb k a
owes_pow zero zero = refl
owes_pow zero (suc k) = owes_zero k ∙ grind (arith, nat_tests)
owes_pow (suc a) zero =
    let e : 2 ^ suc a % 2 ≡ 0 = omega (arith, pow-suc 2 a) in
    rw e (grind (arith, nat_tests))
owes_pow (suc a) (suc k) =
    let e : 2 ^ suc a / 2 ≡ 2 ^ a = omega (arith, pow-suc 2 a) in
    rw e (owes_pow a k ∙ grind (arith, nat_tests))

-- the complement of n among w digits
pub owes_rest : (w n k : ℕ) → n < 2 ^ w → k < w → owes (2 ^ w - 1 - n) k ≡ not (owes n k)
owes_rest zero n k h l = absurd (omega arith)
owes_rest (suc w) n zero h l =
    let p : n % 2 < 2 = mod-lt n (omega arith) in
    let e : (2 ^ suc w - 1 - n) % 2 ≡ 1 - n % 2 = omega (arith, pow-suc 2 w) in
    rw e (grind (arith, nat_tests))
owes_rest (suc w) n (suc k) h l =
    let e : (2 ^ suc w - 1 - n) / 2 ≡ 2 ^ w - 1 - n / 2 = omega (arith, pow-suc 2 w) in
    rw e (owes_rest w (n / 2) k (omega (arith, pow-suc 2 w)) (omega arith))

step : (m t d : ℕ) → m % 2 ≡ d → d < 2 → (d ≡ 0 → First (m / 2) t) → First m (under d t)
step m t zero e l f = record { owed = (f refl).owed; none_before = before }
  where
    before : (k : ℕ) → k < suc t → owes m k ≡ false
    before zero h = rw e
    before (suc k) h = (f refl).none_before k (omega arith)
step m t (suc d) e l f =
    let o : m % 2 ≡ 1 = omega arith in
    record { owed = rw o; none_before = λ k h. absurd (omega arith) }

pub trailing_first : (k m : ℕ) → 0 < m → m < 2 ^ k → First m (count_trailing_zeros k m)
unfolding count_trailing_zeros
trailing_first zero m p h = absurd (omega arith)
trailing_first (suc k) m p h =
    step m (count_trailing_zeros k (m / 2)) (m % 2) refl (mod-lt m (omega arith))
    (λ e. trailing_first k (m / 2) (omega arith) (omega (arith, pow-suc 2 k)))

below_step : (m n : ℕ) → owed_below m (suc n) ≡ cond (owes m 0) 1 0 + owed_below (m / 2) n
below_step m zero = omega arith
below_step m (suc n) = let h = below_step m n in omega arith

pub ones_below : (n m : ℕ) → m < 2 ^ n → ones m ≡ owed_below m n
ones_below zero m h = let l = ones-le 0 m h in omega arith
ones_below (suc n) m h =
    let e : m % 2 ≡ cond (eqb (m % 2) 1) 1 0 = (let p : m % 2 < 2 = mod-lt m (omega arith) in grind (arith, nat_tests)) in
    let i = ones_below n (m / 2) (omega (arith, pow-suc 2 n)) in
    ones_step m ∙ ap₂ ◌+◌ e i ∙ sym (below_step m n)

pub turned_on : (m a : ℕ) → Turned m a true (bit_or m (2 ^ a))
turned_on m a = record {
  there = owes_or m (2 ^ a) a ∙ (let p = owes_pow a a in grind (arith, nat_tests, p));
  others = λ k ne. owes_or m (2 ^ a) k ∙ (let p = owes_pow a k in grind (arith, nat_tests, p, ne));
}

pub owes_high : (w m k : ℕ) → m < 2 ^ w → w ≤ k → owes m k ≡ false
owes_high zero m k h l = let z : m ≡ 0 = omega arith in rw z (owes_zero k)
owes_high (suc w) m zero h l = absurd (omega arith)
owes_high (suc w) m (suc k) h l = owes_high w (m / 2) k (omega (arith, pow-suc 2 w)) (omega arith)

off_other : (m a k : ℕ) → m < 2 ^ 16 → a < 16 → (k ≡ a → ⊥) → (k < 16) ⊎ (16 ≤ k) → owes (bit_and m (2 ^ 16 - 1 - 2 ^ a)) k ≡ owes m k
off_other m a k h l ne (inl below) =
    let p = owes_pow a k in
    let r = owes_rest 16 (2 ^ a) k (pow_below a 16 l) below in
    owes_and m (2 ^ 16 - 1 - 2 ^ a) k ∙ grind (arith, nat_tests, p, r, ne)
off_other m a k h l ne (inr above) =
    let z = owes_high 16 m k h above in
    owes_and m (2 ^ 16 - 1 - 2 ^ a) k ∙ grind (arith, nat_tests, z)

sides : (k n : ℕ) → (k < n) ⊎ (n ≤ k)
sides k n = let P : Bool → Type 0 = λ b. ltb k n ≡ b → (k < n) ⊎ (n ≤ k) in elim (ltb k n) as P [ true ↦ λ e. inl (ltb-true k n e) | false ↦ λ e. inr (ltb-false k n e) ] refl

pub turned_off : (m a : ℕ) → m < 2 ^ 16 → a < 16 → Turned m a false (bit_and m (2 ^ 16 - 1 - 2 ^ a))
turned_off m a h l = record {
  there =
      let p = owes_pow a a in
      let r = owes_rest 16 (2 ^ a) a (pow_below a 16 l) l in
      owes_and m (2 ^ 16 - 1 - 2 ^ a) a ∙ grind (arith, nat_tests, p, r);
  others = λ k ne. off_other m a k h l ne (sides k 16);
}

pub owed_most : (m n : ℕ) → owed_below m n ≤ n
owed_most m zero = omega arith
owed_most m (suc n) = let h = owed_most m n in grind (arith, nat_tests)

-- under marks below the n-th power only the first n attributes are owed
pub owed_below_lem : (n m a : ℕ) → m < 2 ^ n → owes m a ≡ true → a < n
owed_below_lem n m a h e = by (sides a n)
  where
    by : (a < n) ⊎ (n ≤ a) → a < n
    by (inl l) = l
    by (inr l) = absurd (false≢true (sym (owes_high n m a h l) ∙ e))
