-- What came of reading a list.
use Rattle.std.specs.Prelude.{List, Ok, Err, Result}
use Rattle.arrayvec.specs.ArrayVec.{ArrayVec}
use Rattle.grammar.specs.declared.refusal.Refusal.{Refusal}

-- the list in what came of reading it
abbrev pub listed_in : {T : Type 0} → Result (ArrayVec T) Refusal → Result (List T) Refusal
listed_in (Ok l) = Ok l.items
listed_in (Err e) = Err e
