use Rattle.std.proofs.Common.{Bool, ◌∙◌, rules}
use borrow.Author.Tests.{tests}
use Rattle.grammar.specs.Model.{Equation}
use Rattle.grammar.specs.Rows.{equation_of, targets}
use Rattle.plans.proofs.Chains.{some_asked}
use Rattle.lines.proofs.Trying.{some_map}
use Rattle.lines.proofs.faults.has_target.Goals as goal

pub returns : goal.returns
returns c =
    let test : Equation → Bool = λ e. targets e c.args.occurrence c.args.attribute in
    some_asked (λ e. test (equation_of e)) c.args.equations.now _ _ _ c.any.ensures.ran (cc) (λ x b q k. search (rules, tests)) ∙ some_map test equation_of c.args.equations.now
