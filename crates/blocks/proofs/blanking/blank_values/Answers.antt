use Rattle.std.proofs.Common.{◌+◌, [], ◌∷◌, drop, sym, ap, ◌∙◌, arith}
use Rattle.sheet.specs.Answers.{grammar_of}
use Rattle.blocks.specs.Block.{own_symbol}
use Rattle.blocks.specs.Blank.{blanked}
use Rattle.places.specs.Totals.{free}
use Rattle.blocks.specs.Taken.{free_after}
use Rattle.blocks.proofs.Values.{reads_known, blanked_nowhere, blanked_step, blanked_end, blanked_taken}
use Rattle.blocks.proofs.Entries.{blanked_trees}
use Rattle.blocks.proofs.Writing.{judged_sound}
use Rattle.blocks.proofs.blanking.blank_values.Goals as goal

pub returns-in_default : goal.returns-in_default
returns-in_default g c =
    let σ = grammar_of c.args.sheet.now in
    let k = reads_known σ (own_symbol σ c.args.block.now ∷ []) c.args.block.now c.loop-piece.piece-index (record { rule = 0; datum = 0 }) c.requires.judged c.loop-piece-test.true in
    absurd (omega (arith, k, c.in_default.ensures))

pub returns-in_default-first_free : goal.returns-in_default-first_free
returns-in_default-first_free g c =
    let σ = grammar_of c.args.sheet.now in
    let bs = c.args.block.now in
    let ps = c.args.places.now in
    let vs = c.args.values.now in
    let e = sym (blanked_taken σ (g.A.Archive.leafs c.args.archive.now 0) bs ps vs ∙ ap (λ v. blanked σ v bs (free ps) vs) (sym c.leaf-blank.ensures) ∙ c.loop-piece.invariant
    ∙ blanked_nowhere σ c.leaf-blank.result (drop c.loop-piece.piece-index bs) (free_after c.loop-piece.next ps) c.loop-piece.values c.in_default-first_free.ensures.found) in
    record { entries = e; blank = blanked_trees σ (g.A.Archive.leafs c.args.archive.now 0) (judged_sound c.args.sheet.now (own_symbol σ bs) [] bs c.requires.judged) ps bs vs c.loop-piece.values c.requires.room c.requires.entries e }

pub loop-piece-preserved : goal.loop-piece-preserved
loop-piece-preserved g c =
    let σ = grammar_of c.args.sheet.now in
    let bs = c.args.block.now in
    let ps = c.args.places.now in
    let q = c.in-Some-first_free.place in
    let i = c.loop-piece.piece-index in
    c.loop-piece.invariant
    ∙ blanked_step σ c.leaf-blank.result bs i (record { rule = 0; datum = 0 }) (free_after c.loop-piece.next ps) (free_after (q + 1) ps) q c.in-Some.kind.attributes c.loop-piece.values
    c.loop-piece-test.true c.in-Some-first_free.ensures.found c.in-Some.ensures.count_is
    ∙ ap (blanked σ c.leaf-blank.result (drop (i + 1) bs) (free_after (q + 1) ps)) (sym c.blank_row.ensures)

pub returns : goal.returns
returns g c =
    let σ = grammar_of c.args.sheet.now in
    let bs = c.args.block.now in
    let ps = c.args.places.now in
    let vs = c.args.values.now in
    let e = sym (blanked_taken σ (g.A.Archive.leafs c.args.archive.now 0) bs ps vs ∙ ap (λ v. blanked σ v bs (free ps) vs) (sym c.leaf-blank.ensures) ∙ c.loop-piece.invariant
    ∙ blanked_end σ c.leaf-blank.result bs c.loop-piece.piece-index (free_after c.loop-piece.next ps) c.loop-piece.values c.loop-piece-test.false) in
    record { entries = e; blank = blanked_trees σ (g.A.Archive.leafs c.args.archive.now 0) (judged_sound c.args.sheet.now (own_symbol σ bs) [] bs c.requires.judged) ps bs vs c.loop-piece.values c.requires.room c.requires.entries e }
