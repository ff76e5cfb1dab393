use Rattle.std.proofs.Common.{◌≡◌, ℕ, ◌<◌, false, not, eqb, is_some, Some, None, Option, IfSome, MatchOption, sym, subst, arith, rules, ◌^◌}
use Rattle.std.proofs.lemmas.Bool.Decides.{nat_tests}
use Rattle.places.specs.Marks.{owes, First}
use Rattle.places.proofs.Digits.{owes_zero, trailing_first}
use lib.Count.{count_trailing_zeros}
use Rattle.places.proofs.marks.first_owed.Goals as goal

first_or_none : (m : ℕ) (r : Option ℕ) → m < 2 ^ 16 → is_some r ≡ not (eqb m 0) → IfSome r (λ a. a ≡ count_trailing_zeros 16 m) → MatchOption r ((k : ℕ) → owes m k ≡ false) (λ a. First m a)
first_or_none m None h e f = let z : m ≡ 0 = grind (arith, nat_tests) in λ k. rw z (owes_zero k)
first_or_none m (Some a) h e f = let p : 0 < m = grind (arith, nat_tests) in subst (First m) (sym f) (trailing_first 16 m p h)

pub returns : goal.returns
returns c = first_or_none c.args.marks c.then.result (omega arith) c.then.ensures.variant (search rules)
