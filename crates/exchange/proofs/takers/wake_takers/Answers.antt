use Rattle.std.proofs.Common.{◌≡◌, Some, rules}
use Rattle.sheet.specs.Answers.{grammar_of}
use Rattle.places.specs.Places.{at}
use Rattle.exchange.proofs.Soundness.{sound_fits_at, parent_fits_at}
use Rattle.exchange.proofs.takers.wake_takers.Goals as goal

pub flow-requires : goal.flow-requires
flow-requires c =
    let e : at c.args.places.now c.args.q ≡ Some c.in-Some.node = search rules in
    (c.requires.sound.nodes c.args.q c.in-Some.node e).rule_there

pub mark_takers-requires : goal.mark_takers-requires
mark_takers-requires c = sound_fits_at (grammar_of c.args.sheet.now) c.args.places.now c.requires.sound c.args.q c.requires.there

pub mark_takers-requires-in-Synthesized-Some : goal.mark_takers-requires-in-Synthesized-Some
mark_takers-requires-in-Synthesized-Some c =
    let e : at c.args.places.now c.args.q ≡ Some c.in-Some.node = search rules in
    parent_fits_at (grammar_of c.args.sheet.now) c.args.places.now c.requires.sound c.args.q c.in-Some.node c.in-Synthesized-Some.parent e (search rules)
