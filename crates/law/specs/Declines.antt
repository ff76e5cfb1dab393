-- The numbers of the declines.
use Rattle.std.specs.Prelude.{ℕ}
use Rattle.law.specs.declared.decline.Decline.{Decline}
use Rattle.law.specs.declared.decline.Decline.TheVariants.{Function, Tables, Length, Form, Depth, Full, Shape, Cells, Ticket, Target, Symbol, Unmet, Unsettled, Absent}

abbrev pub decline_number : Decline → ℕ
decline_number Function = 9
decline_number Tables = 10
decline_number Length = 11
decline_number Form = 12
decline_number Depth = 13
decline_number Full = 14
decline_number Shape = 15
decline_number Cells = 16
decline_number Ticket = 17
decline_number Target = 18
decline_number Symbol = 19
decline_number Unmet = 20
decline_number Unsettled = 21
decline_number Absent = 22
