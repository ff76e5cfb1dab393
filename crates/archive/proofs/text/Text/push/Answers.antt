use Rattle.archive.proofs.Writing.{push_room, push_full}
use Rattle.archive.proofs.text.Text.push.Goals as goal

pub returns-then-self-lt40 : goal.returns-then-self-lt40
returns-then-self-lt40 c = push_room c.args.self.now.bytes c.args.self.now.len c.args.byte c.if-self-lt40.true c.args.self.now.size

pub returns-else-self-lt40 : goal.returns-else-self-lt40
returns-else-self-lt40 c = push_full c.args.self.now.bytes c.args.self.now.len c.args.byte c.args.self.now.within c.if-self-lt40.false c.args.self.now.size
