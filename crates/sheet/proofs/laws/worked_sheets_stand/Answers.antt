use Rattle.sheet.proofs.WorkedSheets.{worked_sheets}
use Rattle.sheet.proofs.laws.worked_sheets_stand.Goals as goal

pub returns : goal.returns
returns c = worked_sheets
