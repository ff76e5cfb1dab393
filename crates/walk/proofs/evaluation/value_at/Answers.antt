use Rattle.std.proofs.Common.{◌≡◌, ◌+◌, ◌*◌, get_or, sym, ap, ◌∙◌, arith}
use Rattle.archive.proofs.Supplying.{supplied_from}
use Rattle.walk.proofs.Evaluating.{read_nth, value_kept}
use Rattle.walk.proofs.evaluation.value_at.Goals as goal

pub returns : goal.returns
returns g c =
    let missing = g.A.Archive.leafs c.args.archive.now 0 in
    let vs = c.args.values.now in
    let i = 16 * c.from.result + c.from-2.result in
    let e : i ≡ 16 * c.args.place + c.args.attribute = omega (arith, c.from.ensures, c.from-2.ensures) in
    supplied_from vs i missing c.supplied.result c.get.result c.copied.result c.get.ensures.lookup c.copied.ensures c.supplied.ensures
    ∙ read_nth vs i missing ∙ ap (λ n. get_or vs n missing) e ∙ sym (value_kept missing vs c.args.place c.args.attribute c.if-attribute-ge16.false)
