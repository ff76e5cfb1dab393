use Rattle.std.proofs.Common.{◌<◌, ◌≤◌, [], length, ap, rules}
use Rattle.sheet.specs.Answers.{grammar_of}
use Rattle.blocks.proofs.Fronts.{front, none_case}
use Rattle.blocks.proofs.Plantings.{planting_none, no_piece, no_place_lem, no_rule_there, no_planting_below, no_planting_beside, planting_more}
use Rattle.blocks.proofs.planting.Planter.+plant_row.Goals as goal

pub returns-then-count-eq0-clause-planted : goal.returns-then-count-eq0-clause-planted
returns-then-count-eq0-clause-planted t c =
    let p = c.args.self.now in
    planting_none (grammar_of p.sheet.now) c.args.up c.args.count p.pieces.now p.next c.args.places.now c.if-count-eq0.true

pub returns-in_default-clause-planted : goal.returns-in_default-clause-planted
returns-in_default-clause-planted t c =
    let p = c.args.self.now in
    let l : 1 ≤ c.args.count = search rules in
    let m : length p.pieces.now < 1 = search rules in
    no_piece (grammar_of p.sheet.now) c.args.count p.pieces.now p.next c.args.places.now l m

pub returns-in_err-kind-clause-planted : goal.returns-in_err-kind-clause-planted
returns-in_err-kind-clause-planted t c =
    let p = c.args.self.now in
    let l : 1 ≤ c.args.count = search rules in
    let m : 1 ≤ length p.pieces.now = search rules in
    none_case _ _ _ c.from_residual.ensures
    (no_rule_there (grammar_of p.sheet.now) _ p.pieces.now _ c.args.count p.next c.args.places.now l (front p.pieces.now (record { rule = 0; datum = 0 }) m) c.in_err-kind.ensures)

pub returns-in_err-place-clause-planted : goal.returns-in_err-place-clause-planted
returns-in_err-place-clause-planted t c =
    let p = c.args.self.now in
    let l : 1 ≤ c.args.count = search rules in
    none_case _ _ _ c.from_residual-in_err-place.ensures
    (no_place_lem (grammar_of p.sheet.now) c.args.count p.pieces.now p.next c.args.places.now l c.in_err-place.ensures.found)

pub returns-in_err-children-clause-planted : goal.returns-in_err-children-clause-planted
returns-in_err-children-clause-planted t c =
    let p = c.args.self.now in
    let l : 1 ≤ c.args.count = search rules in
    let m : 1 ≤ length p.pieces.now = search rules in
    none_case _ _ _ c.from_residual-in_err-children.ensures
    (no_planting_below (grammar_of p.sheet.now) c.args.up _ p.pieces.now _ [] c.in_ok-place.place c.args.count p.next _ _ 0 _ [] c.args.places.now [] l
    (front p.pieces.now (record { rule = 0; datum = 0 }) m) c.in_ok-place.ensures.found c.in_ok-kind.ensures c.in_err-children.ensures.planted)

pub returns-in_err-second-clause-planted : goal.returns-in_err-second-clause-planted
returns-in_err-second-clause-planted t c =
    let p = c.args.self.now in
    let l : 1 ≤ c.args.count = search rules in
    let m : 1 ≤ length p.pieces.now = search rules in
    let same = ap grammar_of c.in_ok-children.ensures.sheet in
    none_case _ _ _ c.from_residual-in_err-second.ensures
    (no_planting_beside (grammar_of p.sheet.now) c.args.up _ p.pieces.now _ _ c.in_ok-place.place c.args.count p.next _ _ _ _ _ c.args.places.now _ l
    (front p.pieces.now (record { rule = 0; datum = 0 }) m) c.in_ok-place.ensures.found c.in_ok-kind.ensures c.first_below.result c.new_node.result c.first_below.ensures c.in_ok-children.ensures.planted c.new_node.ensures (rw same at c.in_err-second.ensures.planted))

pub returns-clause-planted : goal.returns-clause-planted
returns-clause-planted t c =
    let p = c.args.self.now in
    let l : 1 ≤ c.args.count = search rules in
    let m : 1 ≤ length p.pieces.now = search rules in
    let same = ap grammar_of c.in_ok-children.ensures.sheet in
    planting_more (grammar_of p.sheet.now) c.args.up _ p.pieces.now _ _ c.in_ok-place.place c.args.count p.next _ _ _ _ _ c.args.places.now _ l
    (front p.pieces.now (record { rule = 0; datum = 0 }) m) c.in_ok-place.ensures.found c.in_ok-kind.ensures c.first_below.result c.new_node.result c.first_below.ensures c.in_ok-children.ensures.planted c.new_node.ensures _ _ _ _ _ c.in_ok-place.ensures.there.0 c.next_to.ensures (rw same at c.in_ok-second.ensures.planted)
