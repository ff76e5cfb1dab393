-- What each line adds to the sheet that was read before it, or why it is refused.
use Rattle.std.specs.Prelude.{ℕ, ◌+◌, Bool, true, false, not, ◌&&◌, List, [], ◌∷◌, ◌++◌, length, is_some, Some, None, Option, nat_le, nat_lt}
use Rattle.std.specs.Option.{option_map}
use Rattle.grammar.specs.Model.{Symbol, Equation, Rule}
use Rattle.grammar.specs.Scopes.{Scope}
use Rattle.grammar.specs.declared.terms.Instruction.{Instruction}
use Rattle.grammar.specs.declared.refusal.Refusal.{Refusal}
use Rattle.grammar.specs.declared.refusal.Refusal.TheVariants.{LineForm, Range}
use Rattle.lines.specs.Faults.{failing, symbol_fault, rule_fault, set_fault, plan_fault}
use Rattle.lines.specs.LineKinds.{Line}
use Rattle.lines.specs.LineKinds.Line.{symbol_line, rule_line, set_line, plan_line}
use Rattle.lines.specs.declared.says.Key.{Key}
use Rattle.lines.specs.declared.says.Key.TheVariants.{OfSymbol, OfRule, OfSet, OfPlan}

-- a rule whose plan has not come yet
pub record Open : Type 0 where
  pub left : ℕ
  pub right : List ℕ
  pub equations : List Equation

-- what was read: the symbols, the rules with their plans, the rule that is open, and how many set lines and
-- instructions there were
pub record State : Type 0 where
  pub symbols : List Symbol
  pub rules : List Rule
  pub opened : Option Open
  pub sets : ℕ
  pub steps : ℕ

abbrev pub nothing : State
nothing = record { symbols = []; rules = []; opened = None; sets = 0; steps = 0 }

pub data Step : Type 0 where
  next : State → Step
  stop : Refusal → Step

abbrev pub is_empty : {X : Type 0} → List X → Bool
is_empty [] = true
is_empty (x ∷ xs) = false

-- which key may come next
abbrev pub allowed : State → Key → Bool
allowed st OfSymbol = is_empty st.rules && not (is_some st.opened)
allowed st OfRule = not (is_empty st.symbols) && not (is_some st.opened)
allowed st OfSet = is_some st.opened
allowed st OfPlan = is_some st.opened

abbrev pub scope_in : State → Open → Scope
scope_in st o = record { symbols = st.symbols; occurrences = o.left ∷ o.right }

abbrev pub on_open : Option Open → (Open → Option Refusal) → Option Refusal
on_open None f = Some LineForm
on_open (Some o) f = f o

-- what is wrong with a line, behind what was read before it
abbrev pub fault_of : State → Line → Option Refusal
fault_of st (symbol_line v xs) = symbol_fault st.symbols v xs
fault_of st (rule_line l rs) = rule_fault (length st.symbols) (length st.rules) l rs
fault_of st (set_line e) =
    on_open st.opened (λ o. failing (nat_le e.function 255 && nat_lt st.sets 512) Range (set_fault (scope_in st o) o.equations e))
fault_of st (plan_line is) =
    on_open st.opened (λ o. failing (nat_le (st.steps + length is) 1024) Range (plan_fault (scope_in st o) o.equations is))

abbrev pub add_to : Equation → Open → Open
add_to e o = record { left = o.left; right = o.right; equations = o.equations ++ e ∷ [] }

abbrev pub closed : List Instruction → Option Open → List Rule
closed is None = []
closed is (Some o) = record { left = o.left; right = o.right; equations = o.equations; plan = is } ∷ []

-- what was read, with one line more
abbrev pub after : State → Line → State
after st (symbol_line v xs) = record { symbols = st.symbols ++ record { visits = v; attributes = xs } ∷ []; rules = st.rules; opened = st.opened; sets = st.sets; steps = st.steps }
after st (rule_line l rs) = record { symbols = st.symbols; rules = st.rules; opened = Some (record { left = l; right = rs; equations = [] }); sets = st.sets; steps = st.steps }
after st (set_line e) = record { symbols = st.symbols; rules = st.rules; opened = option_map (add_to e) st.opened; sets = st.sets + 1; steps = st.steps }
after st (plan_line is) = record { symbols = st.symbols; rules = st.rules ++ closed is st.opened; opened = None; sets = st.sets; steps = st.steps + length is }

abbrev pub unless_fault : Option Refusal → State → Step
unless_fault None st = next st
unless_fault (Some r) st = stop r

abbrev pub step : State → Line → Step
step st l = unless_fault (fault_of st l) (after st l)
