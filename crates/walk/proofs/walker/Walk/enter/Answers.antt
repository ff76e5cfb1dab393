use Rattle.std.proofs.Common.{◌≡◌, ◌<◌, true, cond, length, Ok, Err, is_ok, ltb, ap, ◌∙◌, arith}
use Rattle.std.proofs.lemmas.Bool.Decides.{nat_tests}
use Rattle.places.specs.declared.pushdown.Frame.{Frame}
use Rattle.walk.proofs.Standing.{reverse_push, stacked_length}
use Rattle.walk.proofs.walker.Walk.enter.Goals as goal

pub unwrap-requires : goal.unwrap-requires
unwrap-requires c =
    let f = c.args.self.now.frames.now in
    let l : f.len < length f.cells.now = omega (arith, stacked_length f.cells.now f.len f.ok, c.requires.room) in
    let t : ltb f.len (length f.cells.now) ≡ true = grind (arith, nat_tests) in
    let under_way : Frame = record { place = c.args.self.now.place; instruction = c.args.self.now.next } in
    ap is_ok c.push.ensures.room ∙ ap (λ b. is_ok (cond b (Ok tt) (Err under_way))) t

pub returns : goal.returns
returns c =
    let e = reverse_push _ _ _ (rw c.unwrap.ensures at c.push.ensures.stack) in
    λ i. record { mode = c.passing-self.ensures i; place = c.args.child; next = 0; frames = e i; room = c.push.ensures.cells i }
