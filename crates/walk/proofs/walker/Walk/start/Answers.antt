use Rattle.std.proofs.Common.{reverse, length, sym, ap, subst}
use Rattle.places.specs.Stack.{stacked}
use Rattle.walk.specs.Walking.{Started}
use Rattle.walk.specs.declared.walker.Mode.TheVariants.{InPlan}
use Rattle.walk.proofs.Shaping.{starts}
use Rattle.walk.proofs.walker.Walk.start.Goals as goal

pub returns : goal.returns
returns c =
    let f = c.args.frames.now in
    let e = ap (λ n. record { mode = InPlan; place = c.args.root; next = 0; frames = reverse (stacked f.cells.now n); room = length f.cells.now }) c.requires.empty in
    record { stand = e; started = λ g ps w sh. subst (Started g ps c.args.root) (sym e) (starts g ps c.args.root (length f.cells.now) c.requires.room w sh) }
