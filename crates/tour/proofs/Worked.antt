-- The worked day, by computation.
use Rattle.std.proofs.Common.{◌≡◌, ℕ, zero, suc, ◌<◌, true, length, get_or, refl, inl, inr, arith}
use Rattle.std.proofs.lemmas.Bool.{ltb-true}
use Rattle.sheet.specs.Worked.{day_text, day}
use Rattle.sheet.proofs.Keeping.{acceptance}
use Rattle.sheet.proofs.WorkedSheets.{worked_sheets}
use Rattle.tour.specs.Rules.{rule}
use Rattle.tour.specs.Nodes.Link.{under}
use Rattle.tour.specs.Shapes.{Climbs, Shape}
use Rattle.tour.specs.Worked.{table, used, WorkedTour}

beyond : (p : ℕ) → used (suc (suc (suc (suc p)))) ≡ true → ⊥
beyond p u = omega (arith, ltb-true (suc (suc (suc (suc p)))) 4 u)

-- the day's tree is in shape
shaped : Shape day table used 0
shaped = record { root_used = refl; root_top = refl; root_start = refl; rules = rules; kids = kids; kid_used = kid_used; kid_link = kid_link; kid_symbol = kid_symbol; climbs = climbs }
  where
    rules : (p : ℕ) → used p ≡ true → (table p).rule < 3
    rules zero u = omega arith
    rules (suc zero) u = omega arith
    rules (suc (suc zero)) u = omega arith
    rules (suc (suc (suc zero))) u = omega arith
    rules (suc (suc (suc (suc p)))) u = absurd (beyond p u)

    kids : (p : ℕ) → used p ≡ true → length (table p).kids ≡ length (rule day (table p).rule).right
    kids zero u = refl
    kids (suc zero) u = refl
    kids (suc (suc zero)) u = refl
    kids (suc (suc (suc zero))) u = refl
    kids (suc (suc (suc (suc p)))) u = absurd (beyond p u)

    kid_used : (p k : ℕ) → used p ≡ true → k < length (table p).kids → used (get_or (table p).kids k 0) ≡ true
    kid_used zero zero u h = refl
    kid_used zero (suc k) u h = absurd (omega arith)
    kid_used (suc zero) zero u h = refl
    kid_used (suc zero) (suc zero) u h = refl
    kid_used (suc zero) (suc (suc k)) u h = absurd (omega arith)
    kid_used (suc (suc zero)) k u h = absurd (omega arith)
    kid_used (suc (suc (suc zero))) k u h = absurd (omega arith)
    kid_used (suc (suc (suc (suc p)))) k u h = absurd (beyond p u)

    kid_link : (p k : ℕ) → used p ≡ true → k < length (table p).kids → (table (get_or (table p).kids k 0)).link ≡ under p (suc k)
    kid_link zero zero u h = refl
    kid_link zero (suc k) u h = absurd (omega arith)
    kid_link (suc zero) zero u h = refl
    kid_link (suc zero) (suc zero) u h = refl
    kid_link (suc zero) (suc (suc k)) u h = absurd (omega arith)
    kid_link (suc (suc zero)) k u h = absurd (omega arith)
    kid_link (suc (suc (suc zero))) k u h = absurd (omega arith)
    kid_link (suc (suc (suc (suc p)))) k u h = absurd (beyond p u)

    kid_symbol : (p k : ℕ) → used p ≡ true → k < length (table p).kids → (rule day (table (get_or (table p).kids k 0)).rule).left ≡ get_or (rule day (table p).rule).right k 0
    kid_symbol zero zero u h = refl
    kid_symbol zero (suc k) u h = absurd (omega arith)
    kid_symbol (suc zero) zero u h = refl
    kid_symbol (suc zero) (suc zero) u h = refl
    kid_symbol (suc zero) (suc (suc k)) u h = absurd (omega arith)
    kid_symbol (suc (suc zero)) k u h = absurd (omega arith)
    kid_symbol (suc (suc (suc zero))) k u h = absurd (omega arith)
    kid_symbol (suc (suc (suc (suc p)))) k u h = absurd (beyond p u)

    climbs : (p : ℕ) → used p ≡ true → Climbs table 64 p
    climbs zero u = inl refl
    climbs (suc zero) u = inr (0, 1, refl, inl refl)
    climbs (suc (suc zero)) u = inr (1, 1, refl, inr (0, 1, refl, inl refl))
    climbs (suc (suc (suc zero))) u = inr (1, 2, refl, inr (0, 1, refl, inl refl))
    climbs (suc (suc (suc (suc p)))) u = absurd (beyond p u)

pub worked_tour : WorkedTour
worked_tour = record {
  sound = ((acceptance day_text day).0 worked_sheets.accepted).sound;
  read = refl;
  in_preorder = refl;
  shaped = shaped;
  read_off = refl;
  thirteen = refl;
  first_end = refl;
  day_end = refl;
}
