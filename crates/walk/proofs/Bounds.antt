-- How large the rules of a sheet are.
use Rattle.std.proofs.Common.{ℕ, zero, suc, ◌≤◌, List, [], ◌∷◌, length, get_or, arith}
use Rattle.std.specs.List.{AllByRecursion}
use Rattle.std.proofs.lemmas.List.Sums.{sum_by-cons}
use Rattle.grammar.specs.Model.{Grammar, Rule, Symbol}
use Rattle.sheet.specs.Meaning.{Sound, SoundRule, SoundSymbol, instructions_in}
use Rattle.tour.specs.Rules.{rule, no_rule, symbol, no_symbol}

plan_in_lem : (rs : List Rule) (k : ℕ) → length (get_or rs k no_rule).plan ≤ instructions_in rs
plan_in_lem [] k = omega arith
plan_in_lem (r ∷ rs) zero = omega (arith, sum_by-cons (λ x. length x.plan) r rs)
plan_in_lem (r ∷ rs) (suc k) = omega (arith, sum_by-cons (λ x. length x.plan) r rs, plan_in_lem rs k)

pub short_plan : (g : Grammar) → Sound g → (k : ℕ) → length (rule g k).plan ≤ 1024
short_plan g so k = omega (arith, plan_in_lem g.rules k, so.few_instructions)

right_in : (ss : List Symbol) (rs : List Rule) (k : ℕ) → AllByRecursion (SoundRule ss) rs → length (get_or rs k no_rule).right ≤ 4
right_in ss [] k h = omega arith
right_in ss (r ∷ rs) zero h = h.0.few_right
right_in ss (r ∷ rs) (suc k) h = right_in ss rs k h.1

pub few_right : (g : Grammar) → Sound g → (k : ℕ) → length (rule g k).right ≤ 4
few_right g so k = right_in g.symbols g.rules k so.rules_sound

attributes_in_lem : (ss : List Symbol) (k : ℕ) → AllByRecursion SoundSymbol ss → length (get_or ss k no_symbol).attributes ≤ 16
attributes_in_lem [] k h = omega arith
attributes_in_lem (s ∷ ss) zero h = h.0.few_attributes
attributes_in_lem (s ∷ ss) (suc k) h = attributes_in_lem ss k h.1

pub few_attributes : (g : Grammar) → Sound g → (k : ℕ) → length (symbol g k).attributes ≤ 16
few_attributes g so k = attributes_in_lem g.symbols k so.symbols_sound
