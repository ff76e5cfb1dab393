use Rattle.std.proofs.Common.{ℕ, Bool, not, ◌||◌, map, length, ap, ◌∙◌, rules}
use borrow.Author.Tests.{tests}
use Rattle.grammar.specs.Rows.{equation_of}
use Rattle.grammar.specs.Scopes.{scope_of, defines}
use Rattle.grammar.specs.Tests.{every_below}
use Rattle.lines.specs.Faults.{has_target}
use Rattle.plans.proofs.Chains.{below_asked}
use Rattle.lines.proofs.faults.complete_at.Goals as goal

pub returns : goal.returns
returns c =
    let test : ℕ → Bool = λ a. not (defines (scope_of c.args.group.now.production) c.args.occurrence a) || has_target (map equation_of c.args.group.now.equations.now) c.args.occurrence a in
    below_asked test (length c.attributes.result.now) _ _ _ c.all.ensures.ran (cc) (λ x b q k. search (rules, tests)) ∙ ap (every_below test) c.attributes.ensures.count
