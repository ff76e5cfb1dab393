use Rattle.std.proofs.Common.{◌≡◌, ℕ, ◌<◌, ◌≤◌, List, length, Some, None, Option, MatchOption, sym, subst, arith, rules}
use borrow.Author.Tests.{tests}
use Rattle.places.specs.Totals.{NoneOwedAt, NoneOwed, FirstOfPlace, FirstOfTree}
use Rattle.places.specs.declared.node.Node.{Node}
use Rattle.places.proofs.Checking.{first_mapped_from_Range}
use Rattle.places.proofs.Looks.{used_below}
use Rattle.places.proofs.totals.first_owed_in_tree.Goals as goal

of_tree : (ps : List (Option Node)) (root : ℕ) (o : Option (ℕ × ℕ))
    → MatchOption o ((k : ℕ) → 0 ≤ k → k < length ps → NoneOwedAt ps root k) (λ y. (i : ℕ) × (i < length ps) × ((y.0 ≡ i) × FirstOfPlace ps root i y.1) × ((k : ℕ) → 0 ≤ k → k < i → NoneOwedAt ps root k))
    → MatchOption o (NoneOwed ps root) (λ x. FirstOfTree ps root x.0 x.1)
of_tree ps root None h = λ p i. h p (omega arith) (used_below ps p i.node i.there) i
of_tree ps root (Some y) (i, l, (e, here), before) = record { here = subst (λ p. FirstOfPlace ps root p y.1) (sym e) here; places_before = λ q b. before q (omega arith) (omega arith) }

pub returns : goal.returns
returns c = of_tree c.args.places.now c.args.root c.find_map.result
    (first_mapped_from_Range _ (λ a r f' k. search rules) (NoneOwedAt c.args.places.now c.args.root) (λ p y. (y.0 ≡ p) × FirstOfPlace c.args.places.now c.args.root p y.1)
    (λ x k. search (rules, tests)) (λ x y k. search (rules, tests)) _ c.find_map.result c.find_map.ensures.runs)
