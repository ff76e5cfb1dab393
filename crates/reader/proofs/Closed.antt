-- A rule is closed by its plan.
use Rattle.std.proofs.Common.{◌≡◌, ℕ, ◌+◌, ◌-◌, ◌<◌, ◌≤◌, Bool, true, leb, List, [], ◌∷◌, ◌++◌, map, length, take, drop, Some, None, Ok, vec_items, vec_len, Option, Vec, sym, refl, ap, ◌∙◌, append-nil, arith}
use Rattle.std.specs.Option.{option_map}
use Rattle.std.specs.declared.alloc.Global.{Global}
use Rattle.std.proofs.lemmas.List.{take_rest, drop_at, map_push}
use Rattle.std.proofs.lemmas.Bool.{and_parts, and_from, leb-true, le-leb, ltb-true}
use Rattle.grammar.specs.Forms.{all_of, instruction_word}
use Rattle.grammar.specs.Rows.{EquationRow, equation_of}
use Rattle.grammar.specs.Tests.{every}
use Rattle.grammar.specs.declared.rows.SymbolRow.{SymbolRow}
use Rattle.grammar.specs.declared.terms.Instruction.{Instruction}
use Rattle.grammar.specs.declared.refusal.Refusal.{Refusal}
use Rattle.grammar.specs.declared.refusal.Refusal.TheVariants.{Range}
use Rattle.words.specs.Tokens.{Token}
use Rattle.lines.specs.LineKinds.Line.{plan_line}
use Rattle.lines.specs.Lines.{plan_in, planned_by}
use Rattle.reader.specs.PlanTable.{PlanRead}
use Rattle.reader.specs.Spans.{row_fits, open_fits, spans_fit, open_few}
use Rattle.lines.specs.Faults.{failing, plan_fault}
use Rattle.reader.specs.Steps.{scope_in, on_open, fault_of, closed}
use Rattle.reader.specs.Views.{rule_of, open_of, open_scope, state_of}
use Rattle.reader.specs.declared.rows.RuleRow.{RuleRow}
use Rattle.reader.specs.declared.rows.Opened.{Opened}
use Rattle.reader.specs.declared.tables.Tables.{Tables}
use Rattle.reader.proofs.Spanned.{rows_more, rules_more}

-- what holds of the tables while the rule that was open is judged
pub record Ghosts (t : Tables) (plan : Vec Instruction Global) (o : Option Opened) : Type 0 where
  pub turn : open_few (vec_len t.rules) o ≡ true
  pub spans : spans_fit (vec_len t.equations) (vec_len plan) (vec_items t.rules) o ≡ true

pub taken_out : (t : Tables) (plan : Vec Instruction Global) (o : Option Opened) → vec_len t.plan ≤ vec_len plan → o ≡ None → Ghosts t plan o
taken_out t plan o grows none =
    let p = and_parts (every (row_fits (vec_len t.equations) (vec_len t.plan)) (vec_items t.rules)) (open_fits (vec_len t.equations) t.opened) t.spans in
    record {
      turn = ap (open_few (vec_len t.rules)) none;
      spans = and_from _ _ (rows_more (vec_len t.equations) (vec_len t.equations) (vec_len t.plan) (vec_len plan) (omega arith) grows (vec_items t.rules) p.0) (ap (open_fits (vec_len t.equations)) none);
    }

every_push : {X : Type 0} (p : X → Bool) (xs : List X) (x : X) → every p xs ≡ true → p x ≡ true → every p (xs ++ x ∷ []) ≡ true
every_push p [] x h k = and_from _ _ k refl
every_push p (y ∷ xs) x h k = let q = and_parts (p y) (every p xs) h in and_from _ _ q.0 (every_push p xs x q.1 k)

-- the rule that is open has its equations in the table, and there is room for one rule more
pub record OpenHere (t : Tables) (open' : Opened) : Type 0 where
  pub starts : open'.start ≤ vec_len t.equations
  pub room : vec_len t.rules < 64

pub open_here : (t : Tables) (open' : Opened) → t.opened ≡ Some open' → OpenHere t open'
open_here t open' is =
    let p = and_parts (every (row_fits (vec_len t.equations) (vec_len t.plan)) (vec_items t.rules)) (open_fits (vec_len t.equations) t.opened) t.spans in
    record {
      starts = leb-true _ _ (sym (ap (open_fits (vec_len t.equations)) is) ∙ p.1);
      room = ltb-true _ _ (sym (ap (open_few (vec_len t.rules)) is) ∙ t.turn);
    }

-- the tables with one rule more
pub closed_spans : (t : Tables) (plan : Vec Instruction Global) (rows : List RuleRow) (row : RuleRow) (o : Option Opened) → vec_len t.plan ≤ vec_len plan → o ≡ None → rows ≡ vec_items t.rules ++ row ∷ [] → row.equations.end ≤ vec_len t.equations → row.plan.end ≤ vec_len plan → spans_fit (vec_len t.equations) (vec_len plan) rows o ≡ true
closed_spans t plan rows row o grows none e within planned =
    let g = taken_out t plan o grows none in
    let p = and_parts (every (row_fits (vec_len t.equations) (vec_len plan)) (vec_items t.rules)) (open_fits (vec_len t.equations) o) g.spans in
    and_from _ _ (ap (every (row_fits (vec_len t.equations) (vec_len plan))) e ∙ every_push _ (vec_items t.rules) row p.0 (and_from _ _ (le-leb _ _ within) (le-leb _ _ planned))) p.1

-- the instructions that were read
pub record PlanWords (ws : List Token) (was now : List Instruction) : Type 0 where
  pub instructions : List Instruction
  pub says : Ok (plan_line instructions) ≡ plan_in ws
  pub joins : now ≡ was ++ instructions
  pub few : length was + length instructions ≤ 1024

pub plan_words : (ws : List Token) (was now : List Instruction) → PlanRead (Ok tt) (all_of instruction_word ws) was now → PlanWords ws was now
plan_words ws was now h = by (all_of instruction_word ws) refl h
  where
    by : (o : Option (List Instruction)) → all_of instruction_word ws ≡ o → PlanRead (Ok tt) o was now → PlanWords ws was now
    by None e k = absurd k
    by (Some is) e k = record { instructions = is; says = sym (ap planned_by e); joins = k.0; few = k.1 }

-- what was read is the part of the table from where it began
pub joined_part : (was now is : List Instruction) (n m : ℕ) → n ≡ length was → m ≡ length now → now ≡ was ++ is → take (m - n) (drop n now) ≡ is
joined_part was now is n m en em e = ap (λ k. take (k - n) (drop n now)) em ∙ take_rest now n ∙ ap (drop n) e ∙ drop_at was is n (sym en)

failing_so : (t : Bool) (r : Refusal) (later : Option Refusal) → t ≡ true → failing t r later ≡ later
failing_so t r later e = ap (λ b. failing b r later) e

pub plan_judged : (t : Tables) (open' : Opened) (is : List Instruction) (ss : List SymbolRow) (es : List EquationRow) (js : List Instruction) → t.opened ≡ Some open' → ss ≡ vec_items t.symbols → es ≡ drop open'.start (vec_items t.equations) → js ≡ is → vec_len t.plan + length is ≤ 1024 → plan_fault (open_scope ss open') (map equation_of es) js ≡ fault_of (state_of t) (plan_line is)
plan_judged t open' is ss es js opened s e j few =
    (λ i. plan_fault (open_scope (s i) open') (map equation_of (e i)) (j i))
    ∙ sym (failing_so (leb (vec_len t.plan + length is) 1024) Range _ (le-leb _ _ few))
    ∙ sym (ap (λ o. on_open (option_map (open_of (vec_items t.equations)) o) (λ p. failing (leb (vec_len t.plan + length is) 1024) Range (plan_fault (scope_in (state_of t) p) p.equations is))) opened)

-- what the tables show after one rule more
pub closed_rules : (t : Tables) (open' : Opened) (is plan : List Instruction) (rows : List RuleRow) (row : RuleRow) → t.opened ≡ Some open' → plan ≡ vec_items t.plan ++ is → rows ≡ vec_items t.rules ++ row ∷ [] → rule_of (vec_items t.equations) plan row ≡ record { left = open'.rule.left; right = open'.rule.right.items; equations = map equation_of (drop open'.start (vec_items t.equations)); plan = is } → (state_of t).rules ++ closed is (state_of t).opened ≡ map (rule_of (vec_items t.equations) plan) rows
closed_rules t open' is plan rows row opened joins e shows =
    let es = vec_items t.equations in
    let p = and_parts (every (row_fits (vec_len t.equations) (vec_len t.plan)) (vec_items t.rules)) (open_fits (vec_len t.equations) t.opened) t.spans in
    let q = rows_more (vec_len t.equations) (length es) (vec_len t.plan) (length (vec_items t.plan)) (omega (arith, t.equations.ok.0)) (omega (arith, t.plan.ok.0)) (vec_items t.rules) p.0 in
    let same : map (rule_of es plan) (vec_items t.rules) ≡ map (rule_of es (vec_items t.plan)) (vec_items t.rules) = ap (λ l. map (rule_of es l) (vec_items t.rules)) joins ∙ ap (λ l. map (rule_of l (vec_items t.plan ++ is)) (vec_items t.rules)) (sym (append-nil es)) ∙ rules_more es [] (vec_items t.plan) is (vec_items t.rules) q in
    ap (λ o. (state_of t).rules ++ closed is (option_map (open_of es) o)) opened
    ∙ sym (ap (map (rule_of es plan)) e ∙ map_push (rule_of es plan) (vec_items t.rules) row ∙ (λ i. same i ++ shows i ∷ []))
