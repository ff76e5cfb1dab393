use Rattle.std.proofs.Common.{◌≡◌, is_some, Some, sym, ap, ◌∙◌, subst, rules}
use Rattle.sheet.specs.Answers.{grammar_of}
use Rattle.places.specs.Places.{at, parent_at}
use Rattle.exchange.proofs.Hanging.{EveryFits, hung_fits, hung_used, remarked_fits, exchanged}
use Rattle.exchange.proofs.Marking.{remarked_used}
use Rattle.exchange.proofs.Soundness.{sound_fits_at, hangs}
use Rattle.exchange.proofs.Targets.{used_within}
use Rattle.exchange.proofs.exchanging.exchange.Goals as goal

pub hang-requires : goal.hang-requires
hang-requires c =
    let g = grammar_of c.args.sheet.now in
    let ps = c.args.places.now in
    let u = c.in-Some.parent in
    let e : parent_at ps c.args.target ≡ Some u = search rules in
    (hangs g ps c.requires.sound c.args.target u e).below.first

pub wake_inherited-requires : goal.wake_inherited-requires
wake_inherited-requires c =
    let g = grammar_of c.args.sheet.now in
    let ps = c.args.places.now in
    let u = c.in-Some.parent in
    let f = hung_fits g ps c.args.target c.args.held u (used_within ps c.args.held c.requires.held) (sound_fits_at g ps c.requires.sound) c.args.held in
    let k = hung_used ps c.args.target c.args.held (Some u) c.args.held c.requires.held in
    subst (λ z. EveryFits g z c.args.held) (sym c.hang.ensures) f (ap (λ z. is_some (at z c.args.held)) c.hang.ensures ∙ k)

pub mark_takers-requires : goal.mark_takers-requires
mark_takers-requires c =
    let g = grammar_of c.args.sheet.now in
    let ps = c.args.places.now in
    let u = c.in-Some.parent in
    let e : parent_at ps c.args.target ≡ Some u = search rules in
    let h = hangs g ps c.requires.sound c.args.target u e in
    let f = hung_fits g ps c.args.target c.args.held u (used_within ps c.args.held c.requires.held) (sound_fits_at g ps c.requires.sound) u.place in
    let k = hung_used ps c.args.target c.args.held (Some u) u.place (ap is_some h.there) in
    let v = subst (λ z. EveryFits g z u.place) (sym c.hang.ensures) f in
    remarked_fits g c.hang.new.places c.wake_inherited.new.places c.wake_inherited.ensures u.place v (remarked_used c.hang.new.places c.wake_inherited.new.places u.place c.wake_inherited.ensures ∙ ap (λ z. is_some (at z u.place)) c.hang.ensures ∙ k)

pub returns-in-Some : goal.returns-in-Some
returns-in-Some c =
    let ps = c.args.places.now in
    let e : parent_at ps c.args.target ≡ Some c.in-Some.parent = search rules in
    exchanged (grammar_of c.args.sheet.now) ps c.hang.new.places c.wake_inherited.new.places c.mark_takers.new.places c.args.target c.args.held c.in-Some.parent e c.hang.ensures c.wake_inherited.ensures c.mark_takers.ensures
