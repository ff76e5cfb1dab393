-- What stands for arguments that are missing.
use Rattle.std.specs.Prelude.{List}
use Rattle.std.specs.Option.{unwrap_or}
use Rattle.std.specs.List.{slice_get}

-- the first three, and a value in place of each that is missing
abbrev pub first_three : {V : Type 0} → V → List V → V × V × V
first_three missing vs = (unwrap_or (slice_get vs 0) missing, unwrap_or (slice_get vs 1) missing, unwrap_or (slice_get vs 2) missing)
