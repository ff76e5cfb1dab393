-- Which attributes are owed under a number of marks.
use Rattle.std.specs.Prelude.{◌≡◌, ℕ, zero, suc, ◌+◌, ◌/◌, ◌%◌, ◌<◌, Bool, true, false, cond, ◌==◌, ◌≢◌}

-- whether attribute a is owed under the marks m: the a-th binary digit, lowest first
abbrev pub owes : ℕ → ℕ → Bool
owes m zero = m % 2 == 1
owes m (suc a) = owes (m / 2) a

-- how many of the first n attributes are owed
abbrev pub owed_below : ℕ → ℕ → ℕ
owed_below m zero = 0
owed_below m (suc n) = owed_below m n + cond (owes m n) 1 0

-- a is the first owed attribute
pub record First (m a : ℕ) : Type 0 where
  pub owed : owes m a ≡ true
  pub none_before : (k : ℕ) → k < a → owes m k ≡ false

-- the marks n are m with attribute a at b, and no other changed
pub record Turned (m a : ℕ) (b : Bool) (n : ℕ) : Type 0 where
  pub there : owes n a ≡ b
  pub others : (k : ℕ) → (k ≢ a) → owes n k ≡ owes m k
