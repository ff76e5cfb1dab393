use Rattle.std.proofs.Common.{◌<◌, ℕ, Bool, ◌&&◌, sym, ap, ◌∙◌, rules}
use Rattle.std.specs.Prelude.{nat_lt}
use Rattle.std.proofs.lemmas.Bool.{lt-ltb}
use borrow.Author.Tests.{tests}
use Rattle.grammar.specs.Tests.{every}
use Rattle.plans.proofs.Chains.{every_asked}
use Rattle.lines.proofs.faults.symbols_there.Goals as goal

pub returns-then-from-count : goal.returns-then-from-count
returns-then-from-count c =
    let test : ℕ → Bool = λ x. nat_lt x c.args.count in
    let right = c.args.row.now.right.items in
    let left : c.args.row.now.left < c.args.count = search rules in
    every_asked test right _ _ _ c.all.ensures.ran (cc) (λ x b q k. search (rules, tests)) ∙ ap (λ b. b && every test right) (sym (lt-ltb _ _ left))
