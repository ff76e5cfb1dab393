-- From the fault of a line to the step that it makes.
use Rattle.std.proofs.Common.{◌≡◌, ℕ, ◌<◌, ◌≤◌, Bool, true, false, ◌&&◌, ltb, leb, List, ◌∷◌, map, length, drop, Some, None, Ok, Err, vec_items, vec_len, Option, Result, sym, refl, ap, ◌∙◌, arith}
use Rattle.std.specs.Option.{option_map}
use Rattle.std.specs.Result.{result_err}
use Rattle.std.proofs.lemmas.Bool.{ltb-true, lt-ltb, leb-true, le-leb, and_from}
use Rattle.grammar.specs.Model.{Symbol, Equation}
use Rattle.grammar.specs.Rows.{EquationRow, symbol_of, equation_of}
use Rattle.grammar.specs.Scopes.{scope_of}
use Rattle.grammar.specs.declared.production.Production.{Production}
use Rattle.grammar.specs.Tests.{every}
use Rattle.grammar.specs.declared.terms.Attribute.{Attribute}
use Rattle.grammar.specs.declared.refusal.Refusal.{Refusal}
use Rattle.grammar.specs.declared.refusal.Refusal.TheVariants.{Range, Absent, Start}
use Rattle.lines.specs.LineKinds.{Line}
use Rattle.lines.specs.LineKinds.Line.{set_line}
use Rattle.reader.specs.Views.{open_of, state_of, Stepped}
use Rattle.reader.specs.declared.rows.Opened.{Opened}
use Rattle.reader.specs.declared.tables.Tables.{Tables}
use Rattle.lines.specs.Faults.{between1, starts, failing, symbol_fault, rule_fault, set_fault}
use Rattle.reader.specs.Steps.{Open, State, Step, scope_in, on_open, fault_of, after, unless_fault}
use Rattle.reader.specs.Steps.Step.{next, stop}
use Rattle.reader.specs.Judgement.{on_line}

pub taken : (st : State) (r : Result Line Refusal) (l : Line) → Ok l ≡ r → None ≡ fault_of st l → on_line st r ≡ next (after st l)
taken st r l e none = ap (on_line st) (sym e) ∙ ap (λ o. unless_fault o (after st l)) (sym none)

pub refused : (st : State) (r : Result Line Refusal) (l : Line) (x : Refusal) → Ok l ≡ r → Some x ≡ fault_of st l → on_line st r ≡ stop x
refused st r l x e some = ap (on_line st) (sym e) ∙ ap (λ o. unless_fault o (after st l)) (sym some)

-- a step that a refusal stops
pub stepped_err : (r : Result (Unit {0}) Refusal) (s : Step) (x : Refusal) (t : Tables) → result_err r ≡ Some x → s ≡ stop x → Stepped r s t
stepped_err (Ok u) s x t e k = absurd (grind arith)
stepped_err (Err y) s x t e k = let same : x ≡ y = cc in k ∙ ap stop same

-- a symbol that is taken found room
pub few_symbols : (ss : List Symbol) (v : ℕ) (xs : List Attribute) → None ≡ symbol_fault ss v xs → length ss < 32
few_symbols ss v xs e = by (between1 4 v) (ltb (length ss) 32) refl e
  where
    by : (x y : Bool) → ltb (length ss) 32 ≡ y → None ≡ failing (x && y) Range (failing (every (λ a. between1 v a.visit) xs) Absent (failing (starts ss v xs) Start None)) → length ss < 32
    by true true is e = ltb-true _ _ is
    by true false is e = absurd (grind arith)
    by false y is e = absurd (grind arith)

-- a rule that is taken found room
pub few_rules : (ss n l : ℕ) (rs : List ℕ) → None ≡ rule_fault ss n l rs → n < 64
few_rules ss n l rs e = by (ltb n 64) refl e
  where
    by : (x : Bool) → ltb n 64 ≡ x → None ≡ failing x Range (failing (every (λ y. ltb y ss) (l ∷ rs)) Absent None) → n < 64
    by true is k = ltb-true _ _ is
    by false is k = absurd (grind arith)

failing_so : (t : Bool) (r : Refusal) (later : Option Refusal) → t ≡ true → failing t r later ≡ later
failing_so t r later e = ap (λ b. failing b r later) e

-- the fault of an equation, by the parts of the tables that it is judged from
pub set_judged : (t : Tables) (open' : Opened) (e : Equation) (p : Production) (es : List EquationRow) → t.opened ≡ Some open' → p.symbols.now ≡ vec_items t.symbols → p.left ≡ open'.rule.left → p.right.now ≡ open'.rule.right.items → es ≡ drop open'.start (vec_items t.equations) → e.function ≤ 255 → vec_len t.equations < 512 → set_fault (scope_of p) (map equation_of es) e ≡ fault_of (state_of t) (set_line e)
set_judged t open' e p es is s l r q small few =
    (λ i. set_fault (record { symbols = map symbol_of (s i); occurrences = l i ∷ r i }) (map equation_of (q i)) e)
    ∙ sym (failing_so (leb e.function 255 && ltb (vec_len t.equations) 512) Range _ (and_from _ _ (le-leb _ _ small) (lt-ltb _ _ few)))
    ∙ sym (ap (λ o. on_open (option_map (open_of (vec_items t.equations)) o) (λ p. failing (leb e.function 255 && ltb (vec_len t.equations) 512) Range (set_fault (scope_in (state_of t) p) p.equations e))) is)

-- an equation that is taken is of a rule that is open, and found room
pub record Room (st : State) (e : Equation) : Type 0 where
  pub small : e.function ≤ 255
  pub few : st.sets < 512

pub set_room : (st : State) (e : Equation) → None ≡ fault_of st (set_line e) → Room st e
set_room st e h = by st.opened h
  where
    on : (x y : Bool) (later : Option Refusal) → leb e.function 255 ≡ x → ltb st.sets 512 ≡ y → None ≡ failing (x && y) Range later → Room st e
    on true true later p q k = record { small = leb-true _ _ p; few = ltb-true _ _ q }
    on true false later p q k = absurd (grind arith)
    on false y later p q k = absurd (grind arith)

    by : (o : Option Open) → None ≡ on_open o (λ p. failing (leb e.function 255 && ltb st.sets 512) Range (set_fault (scope_in st p) p.equations e)) → Room st e
    by None k = absurd (grind arith)
    by (Some p) k = on (leb e.function 255) (ltb st.sets 512) (set_fault (scope_in st p) p.equations e) refl refl k
