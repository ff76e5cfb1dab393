use Rattle.std.proofs.Common.{◌≡◌, ℕ, suc, ◌+◌, Bool, not, ◌||◌, map, length, ap, ◌∙◌, rules, arith}
use borrow.Author.Tests.{tests}
use Rattle.grammar.specs.Rows.{equation_of}
use Rattle.grammar.specs.Scopes.{scope_of, defines, attributes_at}
use Rattle.grammar.specs.Tests.{every_below}
use Rattle.lines.specs.Faults.{has_target}
use Rattle.plans.proofs.Chains.{below_asked}
use Rattle.lines.proofs.faults.complete.Goals as goal

pub returns : goal.returns
returns c =
    let σ = scope_of c.args.group.now.production in
    let test : ℕ → Bool = λ o. every_below (λ a. not (defines σ o a) || has_target (map equation_of c.args.group.now.equations.now) o a) (attributes_at σ o) in
    let n = length c.args.group.now.production.right.now in
    let next : n + 1 ≡ suc n = omega arith in
    below_asked test (n + 1) _ _ _ c.all.ensures.ran (cc) (λ x b q k. search (rules, tests)) ∙ ap (every_below test) next
