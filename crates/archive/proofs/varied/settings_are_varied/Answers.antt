use Rattle.archive.proofs.Examples.{varied_by_identifier, varied_by_path}
use Rattle.archive.proofs.varied.settings_are_varied.Goals as goal

pub returns : goal.returns
returns c = record { identifiers = varied_by_identifier; paths = varied_by_path }
