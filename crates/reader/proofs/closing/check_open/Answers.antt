use Rattle.std.proofs.Common.{◌∷◌, map, ◌∙◌}
use Rattle.grammar.specs.Rows.{symbol_of, equation_of}
use Rattle.lines.specs.Faults.{plan_fault}
use Rattle.reader.proofs.closing.check_open.Goals as goal

pub returns : goal.returns
returns c =
    let p = c.production.ensures in
    c.check_plan.ensures
    ∙ (λ i. plan_fault (record { symbols = map symbol_of (p.symbols i); occurrences = p.left i ∷ p.right i }) (map equation_of c.args.equations.now) c.args.plan.now)
