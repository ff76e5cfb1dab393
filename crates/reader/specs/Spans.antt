-- Parts of tables that rows name by their bounds.
use Rattle.std.specs.Prelude.{ℕ, Bool, true, ◌&&◌, List, Some, None, Option, nat_le, nat_lt}
use Rattle.grammar.specs.Tests.{every}
use Rattle.reader.specs.declared.rows.Span.{Span}
use Rattle.reader.specs.declared.rows.RuleRow.{RuleRow}
use Rattle.reader.specs.declared.rows.Opened.{Opened}

abbrev pub span_fits : ℕ → Span → Bool
span_fits n s = nat_le s.end n

abbrev pub row_fits : ℕ → ℕ → RuleRow → Bool
row_fits equations plan r = span_fits equations r.equations && span_fits plan r.plan

abbrev pub open_fits : ℕ → Option Opened → Bool
open_fits equations None = true
open_fits equations (Some o) = nat_le o.start equations

-- each part lies in its table
abbrev pub spans_fit : ℕ → ℕ → List RuleRow → Option Opened → Bool
spans_fit equations plan rules open' = every (row_fits equations plan) rules && open_fits equations open'

-- there is room for the rule that is open
abbrev pub open_few : ℕ → Option Opened → Bool
open_few rules None = true
open_few rules (Some o) = nat_lt rules 64
