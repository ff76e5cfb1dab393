-- Numbers of a sheet: 0, or 1 to 3 decimal digits, the first not 0.
use Rattle.std.specs.Prelude.{ℕ, ◌+◌, ◌-◌, ◌*◌, Bool, false, cond, List, [], ◌∷◌, Some, None, Option, nat_le}
use Rattle.words.specs.Cuts.{Halves, cut_at}

abbrev pub digit : ℕ → Bool
digit b = cond (nat_le 48 b) (nat_le b 57) false

-- a first digit that is not 0
abbrev pub lead : ℕ → Bool
lead b = cond (nat_le 49 b) (nat_le b 57) false

abbrev pub number_in : List ℕ → Option ℕ
number_in [] = None
number_in (a ∷ []) = cond (digit a) (Some (a - 48)) None
number_in (a ∷ b ∷ []) = cond (lead a) (cond (digit b) (Some ((a - 48) * 10 + (b - 48))) None) None
number_in (a ∷ b ∷ c ∷ []) = cond (lead a) (cond (digit b) (cond (digit c) (Some ((a - 48) * 100 + (b - 48) * 10 + (c - 48))) None) None) None
number_in (a ∷ b ∷ c ∷ d ∷ ds) = None

-- two numbers, or none unless both are there
abbrev pub both : Option ℕ → Option ℕ → Option (ℕ × ℕ)
both None y = None
both (Some x) None = None
both (Some x) (Some y) = Some (x, y)

abbrev pub pair_of : Option Halves → Option (ℕ × ℕ)
pair_of None = None
pair_of (Some h) = both (number_in h.before) (number_in h.after)

-- two numbers with a dot between them
abbrev pub pair_in : List ℕ → Option (ℕ × ℕ)
pair_in bs = pair_of (cut_at 46 bs)
