-- The worked sheets, by computation.
use Rattle.std.proofs.Common.{refl}
use Rattle.sheet.specs.Worked.{WorkedSheets}

pub worked_sheets : WorkedSheets
worked_sheets = record { accepted = refl; early = refl; unreturned = refl; plan_layer = λ p. refl; plan_number = λ p. refl; early_rule = refl; unreturned_rule = refl }
