-- What the proofs of reading and writing show.
use Rattle.std.proofs.Common.{◌≡◌, ℕ, ◌<◌, ◌≤◌, true, List, [], ◌∷◌, length}
use Rattle.std.specs.List.{flat_map, AllByRecursion}
use Rattle.words.specs.Cuts.{Lacks, parts_at}
use Rattle.grammar.specs.Model.{Grammar}
use Rattle.grammar.specs.declared.terms.Argument.{Argument}
use Rattle.grammar.specs.declared.terms.Argument.TheVariants.{Datum, Of}
use Rattle.grammar.specs.declared.terms.Instruction.{Instruction}
use Rattle.grammar.specs.declared.terms.Instruction.TheVariants.{Evaluate, Visit, Return}
use Rattle.lines.specs.LineKinds.{Line}
use Rattle.lines.specs.LineKinds.Line.{symbol_line, rule_line, set_line, plan_line}
use Rattle.reader.specs.Steps.{State, allowed, step}
use Rattle.reader.specs.Steps.Step.{next}
use Rattle.reader.specs.Judgement.{judge_line, judge_from, if_allowed, whole}
use Rattle.reader.specs.Judgement.Outcome.{sheet}
use Rattle.lines.specs.declared.says.Key.{Key}
use Rattle.lines.specs.declared.says.Key.TheVariants.{OfSymbol, OfRule, OfSet, OfPlan}
use Rattle.sheet.specs.Writing.{write_line, ended}

abbrev pub kind : Line → Key
kind (symbol_line v xs) = OfSymbol
kind (rule_line l rs) = OfRule
kind (set_line e) = OfSet
kind (plan_line is) = OfPlan

abbrev pub SmallArgument : Argument → Type 0
SmallArgument Datum = Unit {0}
SmallArgument (Of o a) = (o < 1000) × (a < 1000)

abbrev pub SmallInstruction : Instruction → Type 0
SmallInstruction (Evaluate o a) = (o < 1000) × (a < 1000)
SmallInstruction (Visit k j) = (k < 1000) × (j < 1000)
SmallInstruction (Return j) = j < 1000

-- what can stand in a line of that kind: numbers of at most three digits, and no more words than it may have
abbrev pub Writable : Line → Type 0
Writable (symbol_line v xs) = (v < 1000) × (length xs ≤ 16) × AllByRecursion (λ x. x.visit < 1000) xs
Writable (rule_line l rs) = (l < 1000) × (length rs ≤ 4) × AllByRecursion (λ x. x < 1000) rs
Writable (set_line e) = ((e.occurrence < 1000) × (e.attribute < 1000)) × (e.function < 1000) × (length e.arguments ≤ 3) × AllByRecursion SmallArgument e.arguments
Writable (plan_line is) = (0 < length is) × AllByRecursion SmallInstruction is

-- a line that was taken is the writing of something that its step takes
pub record ReadAs (st : State) (bytes : List ℕ) (st' : State) : Type 0 where
  pub line : Line
  pub written : bytes ≡ write_line line
  pub small : Writable line
  pub key : allowed st (kind line) ≡ true
  pub taken : step st line ≡ next st'

abbrev pub LinesGoBack : Type 0
LinesGoBack = (st : State) (bytes : List ℕ) (st' : State) → judge_line st bytes ≡ next st' → ReadAs st bytes st'

abbrev pub LinesCome : Type 0
LinesCome = (st : State) (l : Line) → Writable l → judge_line st (write_line l) ≡ if_allowed (allowed st (kind l)) (step st l)

abbrev pub LinesLackEnds : Type 0
LinesLackEnds = (l : Line) → Writable l → Lacks 10 (write_line l)

-- from state st, the lines are taken one after another, up to state st'
pub data Runs : State → List Line → State → Type 0 where
  done : {st : State} → Runs st [] st
  more : {st st₁ st' : State} {l : Line} {ls : List Line} → Writable l → allowed st (kind l) ≡ true → step st l ≡ next st₁ → Runs st₁ ls st' → Runs st (l ∷ ls) st'

pub record TextOf (st : State) (text : List ℕ) (g : Grammar) : Type 0 where
  pub lines : List Line
  pub last : State
  pub written : text ≡ flat_map ended lines
  pub runs : Runs st lines last
  pub ends : whole last ≡ true
  pub is : g ≡ record { symbols = last.symbols; rules = last.rules }

-- a text is judged a sheet just where it is lines that are taken one after another and make it whole
abbrev pub TextsGoBack : Type 0
TextsGoBack = (n : ℕ) (st : State) (text : List ℕ) (g : Grammar) → judge_from n st (parts_at 10 text) ≡ sheet g → TextOf st text g

abbrev pub TextsCome : Type 0
TextsCome = (n : ℕ) (st : State) (ls : List Line) (last : State) → Runs st ls last → whole last ≡ true → judge_from n st (parts_at 10 (flat_map ended ls)) ≡ sheet (record { symbols = last.symbols; rules = last.rules })
