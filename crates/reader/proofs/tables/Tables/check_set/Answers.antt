use Rattle.std.proofs.Common.{◌≡◌, ◌<◌, ◌≤◌, None, Some, drop, vec_len, ap, ◌∙◌, rules}
use Rattle.std.specs.Result.{result_err}
use Rattle.std.proofs.lemmas.List.{take_rest}
use Rattle.lines.specs.Read.{set_of}
use Rattle.reader.proofs.Stepping.{set_judged}
use Rattle.reader.proofs.tables.Tables.check_set.Goals as goal

pub returns-in_err-check_equation-clause-fault : goal.returns-in_err-check_equation-clause-fault
returns-in_err-check_equation-clause-fault c =
    let t = c.args.self.now in
    let opened : t.opened ≡ Some c.in_ok-open.open.now = search rules in
    let small : c.args.set.now.function ≤ 255 = search rules in
    let few : vec_len t.equations < 512 = search rules in
    let same : result_err c.from_residual-in_err-check_equation.result ≡ result_err c.check_equation.result = search rules in
    same
    ∙ c.check_equation.ensures
    ∙ set_judged t c.in_ok-open.open.now (set_of c.args.set.now) c.production-production.result _ opened (c.production-production.ensures.symbols ∙ c.deref.ensures.value) c.production-production.ensures.left c.production-production.ensures.right (take_rest c.deref-2.result.now c.in_ok-open.open.now.start ∙ ap (drop c.in_ok-open.open.now.start) c.deref-2.ensures.value) small few

pub returns-clause-fault : goal.returns-clause-fault
returns-clause-fault c =
    let t = c.args.self.now in
    let opened : t.opened ≡ Some c.in_ok-open.open.now = search rules in
    let small : c.args.set.now.function ≤ 255 = search rules in
    let few : vec_len t.equations < 512 = search rules in
    let same : None ≡ result_err c.check_equation.result = search rules in
    same
    ∙ c.check_equation.ensures
    ∙ set_judged t c.in_ok-open.open.now (set_of c.args.set.now) c.production-production.result _ opened (c.production-production.ensures.symbols ∙ c.deref.ensures.value) c.production-production.ensures.left c.production-production.ensures.right (take_rest c.deref-2.result.now c.in_ok-open.open.now.start ∙ ap (drop c.in_ok-open.open.now.start) c.deref-2.ensures.value) small few
