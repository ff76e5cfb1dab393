-- The tide in a harbour.
use Rattle.std.specs.Prelude.{◌≡◌, ℕ, cond, List, [], ◌∷◌, Some, None, Option, ◌==◌, nat_lt, refl}
use Rattle.std.proofs.Common.{arith}
use Rattle.archive_other.specs.declared.harbour.Tide.{Tide}
use Rattle.archive_other.specs.declared.harbour.Tide.TheVariants.{Low, High}

abbrev pub tide_of : ℕ → ℕ → Tide
tide_of flood code = cond (nat_lt code flood) Low High

abbrev pub count_of : ℕ → Option ℕ
count_of f = cond (f == 7) (Some 3) (cond (f == 9) (Some 1) None)

abbrev pub most : Tide → Tide → Tide → Tide
most Low Low c = Low
most Low High c = c
most High Low c = c
most High High c = High

abbrev pub other : Tide → Tide
other Low = High
other High = Low

abbrev pub result_of : ℕ → Tide → Tide → Tide → Tide
result_of f a b c = cond (f == 7) (most a b c) (cond (f == 9) (other a) c)

-- l or h
abbrev pub tide_text : Tide → List ℕ
tide_text Low = 108 ∷ []
tide_text High = 104 ∷ []

pub tides_apart : (v w : Tide) → tide_text v ≡ tide_text w → v ≡ w
tides_apart Low Low h = refl
tides_apart Low High h = let z : ◌≡◌ {A = ℕ} 108 104 = cc in absurd (omega arith)
tides_apart High Low h = let z : ◌≡◌ {A = ℕ} 108 104 = cc in absurd (omega arith)
tides_apart High High h = refl

-- a function of three values at three that stand together
abbrev pub applied : {V : Type 0} → (V → V → V → V) → V × V × V → V
applied f vs = f vs.0 vs.1 vs.2
