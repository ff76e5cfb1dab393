use Rattle.std.proofs.Common.{◌≤◌, length, sym, subst, refl, MatchOption}
use Rattle.sheet.specs.Answers.{grammar_of}
use Rattle.places.specs.Kinds.{Known}
use Rattle.places.proofs.Knowing.{known}
use Rattle.places.proofs.Looks.{rule_missing}
use Rattle.places.proofs.kinds.kind_of.Goals as goal

pub returns-in_err-production : goal.returns-in_err-production
returns-in_err-production c =
    let g = grammar_of c.args.sheet.now in
    subst (λ o. MatchOption o (length g.rules ≤ c.args.rule) (λ k. Known g c.args.rule k.left k.right.now k.attributes)) (sym c.from_residual.ensures)
    (rule_missing g c.args.rule c.args.rule refl c.in_err-production.ensures.rule).1

pub returns : goal.returns
returns c = known c.args.sheet.now c.args.rule c.in_ok-production.field-0 (length c.attributes.result.now) c.in_ok-production.ensures.rule c.in_ok-production.ensures.symbols c.attributes.ensures.count
