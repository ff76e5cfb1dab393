use Rattle.std.proofs.Common.{reverse, length, sym, ap, ◌∙◌}
use Rattle.places.specs.Stack.{stacked}
use Rattle.walk.specs.Moves.{left}
use Rattle.walk.specs.Stands.{stand_of}
use Rattle.walk.specs.declared.walker.Mode.TheVariants.{Returning}
use Rattle.walk.proofs.Standing.{reverse_push}
use Rattle.walk.proofs.walker.Walk.leave.Goals as goal

pub returns-in-Some : goal.returns-in-Some
returns-in-Some c =
    let f = c.in-Some.frame in
    let after = c.pop.new.self in
    let e = reverse_push (stacked after.cells.now after.len) _ f c.in-Some.ensures.stack in
    (λ i. record { mode = Returning; place = f.place; next = f.instruction; frames = reverse (stacked after.cells.now after.len); room = length (c.in-Some.ensures.cells i) })
    ∙ sym (ap (λ l. left l (stand_of c.args.self.now)) e)
