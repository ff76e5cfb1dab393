-- What came of reading the words of a plan into their table.
use Rattle.std.specs.Prelude.{◌≡◌, ◌+◌, ◌<◌, ◌≤◌, List, ◌++◌, length, Some, None, Ok, Err, Option, Result}
use Rattle.grammar.specs.declared.terms.Instruction.{Instruction}
use Rattle.grammar.specs.declared.refusal.Refusal.{Refusal}
use Rattle.grammar.specs.declared.refusal.Refusal.TheVariants.{LineForm, Range}

-- What came of reading the words of a plan, behind what was in the table: all of it joins the table, which then has at
-- most 1,024 instructions; after a refusal nothing is said of the table.
abbrev pub PlanRead : Result (Unit {0}) Refusal → Option (List Instruction) → List Instruction → List Instruction → Type 0
PlanRead (Ok u) None was now = ⊥
PlanRead (Ok u) (Some is) was now = (now ≡ was ++ is) × (length was + length is ≤ 1024)
PlanRead (Err e) None was now = e ≡ LineForm
PlanRead (Err e) (Some is) was now = (e ≡ Range) × (1024 < length was + length is)
