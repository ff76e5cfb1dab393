use Rattle.std.proofs.Common.{[]}
use Rattle.std.proofs.lemmas.Option.{MatchOption-at_some}
use Rattle.sheet.specs.Answers.{grammar_of}
use Rattle.blocks.specs.Block.{own_symbol}
use Rattle.blocks.proofs.Fronts.{some_case}
use Rattle.blocks.proofs.Writing.{written, some_planting, narrow, judged_sound}
use Rattle.blocks.proofs.planting.write_block.Goals as goal

pub unwrap-requires : goal.unwrap-requires
unwrap-requires c = some_case _ _ c.plant_row.result c.plant_row.ensures.planted (some_planting (grammar_of c.args.sheet.now) c.args.places.now c.args.block.now c.requires.judged c.requires.room)

pub returns : goal.returns
returns c =
    let g = grammar_of c.args.sheet.now in
    let planter = c.plant_row.new.self in
    written g c.args.places.now c.args.block.now c.requires.judged c.requires.room (narrow g (judged_sound c.args.sheet.now (own_symbol g c.args.block.now) [] c.args.block.now c.requires.judged))
    c.unwrap.result planter.pieces.now planter.next c.plant_row.new.places (MatchOption-at_some _ _ c.unwrap.result c.unwrap.ensures c.plant_row.ensures.planted)
