-- A sheet is judged line by line.
use Rattle.std.specs.Prelude.{ℕ, ◌+◌, Bool, true, false, not, ◌&&◌, List, [], ◌∷◌, length, is_some, Some, None, Ok, Err, Option, Result, nat_le}
use Rattle.words.specs.Cuts.{parts_at}
use Rattle.words.specs.Tokens.{Keyed, line_in, Token}
use Rattle.words.specs.Tokens.Token.{key, number, pair, instruction}
use Rattle.grammar.specs.Model.{Grammar}
use Rattle.grammar.specs.declared.refusal.Refusal.{Refusal}
use Rattle.grammar.specs.declared.refusal.Refusal.TheVariants.{Length, LineForm}
use Rattle.lines.specs.LineKinds.{Line}
use Rattle.lines.specs.Lines.{key_in, parse}
use Rattle.reader.specs.Steps.{State, Step, nothing, is_empty, allowed, step}
use Rattle.reader.specs.Steps.Step.{next, stop}
use Rattle.lines.specs.declared.says.Key.{Key}
use Rattle.reader.specs.declared.fault.Fault.{Fault}

pub data Outcome : Type 0 where
  sheet : Grammar → Outcome
  fault : Fault → Outcome

abbrev pub fault_at : ℕ → Refusal → Outcome
fault_at n r = fault (record { refusal = r; line = n })

abbrev pub on_line : State → Result Line Refusal → Step
on_line st (Err e) = stop e
on_line st (Ok l) = step st l

abbrev pub if_allowed : Bool → Step → Step
if_allowed true s = s
if_allowed false s = stop LineForm

abbrev pub on_key : State → Option Key → List Token → Step
on_key st None ws = stop LineForm
on_key st (Some k) ws = if_allowed (allowed st k) (on_line st (parse k ws))

-- the first word of a line is its key
abbrev pub on_token : State → Token → List Token → Step
on_token st (key name) ws = on_key st (key_in name) ws
on_token st (number n) ws = stop LineForm
on_token st (pair a b) ws = stop LineForm
on_token st (instruction i) ws = stop LineForm

abbrev pub on_keyed : State → Option Keyed → Step
on_keyed st None = stop LineForm
on_keyed st (Some k) = on_token st (key k.name) k.words

-- the bytes of one line, without its end
abbrev pub judge_line : State → List ℕ → Step
judge_line st bytes = on_keyed st (line_in bytes)

abbrev pub whole : State → Bool
whole st = not (is_empty st.rules) && not (is_some st.opened)

-- what was read is a grammar
abbrev pub grammar_in : State → Grammar
grammar_in st = record { symbols = st.symbols; rules = st.rules }

abbrev pub end_with : Bool → ℕ → State → Outcome
end_with true n st = sheet (grammar_in st)
end_with false n st = fault_at n LineForm

-- what follows the last byte 10 has to be nothing, and then the text may not end early
abbrev pub at_end : ℕ → State → List ℕ → Outcome
at_end n st [] = end_with (whole st) n st
at_end n st (b ∷ bs) = fault_at n LineForm

abbrev pub go_on : ℕ → Step → (State → Outcome) → Outcome
go_on n (next st) k = k st
go_on n (stop r) k = fault_at n r

-- the parts between the bytes 10, from line n on
abbrev pub judge_from : ℕ → State → List (List ℕ) → Outcome
judge_from n st [] = fault_at n LineForm
judge_from n st (p ∷ []) = at_end n st p
judge_from n st (p ∷ q ∷ ps) = go_on n (judge_line st p) (λ st'. judge_from (n + 1) st' (q ∷ ps))

abbrev pub of_length : Bool → List ℕ → Outcome
of_length true text = judge_from 1 nothing (parts_at 10 text)
of_length false text = fault_at 0 Length

abbrev pub long_enough : ℕ → Bool
long_enough n = nat_le 1 n && nat_le n 32768

-- the sheet that a text is, or its first fault
abbrev pub judge : List ℕ → Outcome
judge text = of_length (long_enough (length text)) text
