use Rattle.std.proofs.Common.{◌≡◌, ◌+◌, ap, sym, ◌∙◌, position, rules, tests}
use Rattle.std.specs.Option.{option_map}
use Rattle.std.proofs.lemmas.List.{take_rest}
use Rattle.places.specs.Totals.{is_free}
use Rattle.blocks.proofs.Free.{first_after}
use Rattle.blocks.proofs.finding.first_free.Goals as goal

pub returns-clause-found : goal.returns-clause-found
returns-clause-found c =
    let ps = c.args.places.now in
    let rest = c.in_ok-get.ensures.lookup.0.2 ∙ take_rest ps c.args.from in
    let e : c.map.result ≡ option_map (λ k. c.args.from + k) c.before_free.result = search (rules, tests) in
    first_after c.args.from ps _ _ (ap (position is_free) (sym rest) ∙ sym c.before_free.ensures) e
