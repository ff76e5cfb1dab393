use Rattle.sheet.proofs.Looking.{looked_empty}
use Rattle.sheet.proofs.kept.Sheet.is_empty.Goals as goal

pub returns : goal.returns
returns c = looked_empty c.args.self.now.tables c.is_empty.result c.args.self.now.accepted c.is_empty.ensures
