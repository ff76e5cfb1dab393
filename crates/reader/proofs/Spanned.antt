-- Parts of tables stay as they are while the tables grow.
use Rattle.std.proofs.Common.{◌≡◌, ℕ, ◌-◌, ◌≤◌, true, List, [], ◌∷◌, ◌++◌, map, length, take, drop, Some, None, Option, sym, refl, ap, ◌∙◌, append-nil, arith, length-drop}
use Rattle.std.specs.Option.{option_map}
use Rattle.std.proofs.lemmas.List.{take-append-le, drop-append-le, map_push}
use Rattle.std.proofs.lemmas.Bool.{and_parts, and_from, leb-true, le-leb}
use Rattle.grammar.specs.Rows.{EquationRow, equation_of}
use Rattle.grammar.specs.Tests.{every}
use Rattle.grammar.specs.declared.terms.Instruction.{Instruction}
use Rattle.reader.specs.Spans.{span_fits, row_fits, open_fits, spans_fit}
use Rattle.reader.specs.Steps.{add_to}
use Rattle.reader.specs.Views.{part, rule_of, open_of}
use Rattle.reader.specs.declared.rows.Span.{Span}
use Rattle.reader.specs.declared.rows.RuleRow.{RuleRow}
use Rattle.reader.specs.declared.rows.Opened.{Opened}

pub record Within (s : Span) (n : ℕ) : Type 0 where
  pub ordered : s.start ≤ s.end
  pub inside : s.end ≤ n

pub within : (n : ℕ) (s : Span) → span_fits n s ≡ true → Within s n
within n s h = record { ordered = s.ordered; inside = leb-true _ _ h }

pub within_fits : (n : ℕ) (s : Span) → Within s n → span_fits n s ≡ true
within_fits n s w = le-leb _ _ w.inside

span_more : (n m : ℕ) (s : Span) → n ≤ m → span_fits n s ≡ true → span_fits m s ≡ true
span_more n m s l h = let w = within n s h in within_fits m s (record { ordered = w.ordered; inside = omega arith })

-- a part that lies in a table is the same part of a longer one
pub part_more : {X : Type 0} (s : Span) (xs ys : List X) → span_fits (length xs) s ≡ true → part s (xs ++ ys) ≡ part s xs
part_more s xs ys h =
    let w = within (length xs) s h in
    ap (take (s.end - s.start)) (drop-append-le s.start xs ys (omega arith))
    ∙ take-append-le (s.end - s.start) (drop s.start xs) ys (omega (arith, length-drop s.start xs))

row_parts : (n m : ℕ) (r : RuleRow) → row_fits n m r ≡ true → (span_fits n r.equations ≡ true) × (span_fits m r.plan ≡ true)
row_parts n m r h = and_parts (span_fits n r.equations) (span_fits m r.plan) h

pub rows_more : (n n' m m' : ℕ) → n ≤ n' → m ≤ m' → (rows : List RuleRow) → every (row_fits n m) rows ≡ true → every (row_fits n' m') rows ≡ true
rows_more n n' m m' k l [] h = refl
rows_more n n' m m' k l (r ∷ rows) h =
    let p = and_parts (row_fits n m r) (every (row_fits n m) rows) h in
    let q = row_parts n m r p.0 in
    and_from _ _ (and_from _ _ (span_more n n' r.equations k q.0) (span_more m m' r.plan l q.1)) (rows_more n n' m m' k l rows p.1)

open_more : (n n' : ℕ) → n ≤ n' → (o : Option Opened) → open_fits n o ≡ true → open_fits n' o ≡ true
open_more n n' k None h = refl
open_more n n' k (Some o) h = let l = leb-true o.start n h in le-leb _ _ (omega arith)

pub spans_more : (n n' m m' : ℕ) → n ≤ n' → m ≤ m' → (rows : List RuleRow) (o : Option Opened) → spans_fit n m rows o ≡ true → spans_fit n' m' rows o ≡ true
spans_more n n' m m' k l rows o h =
    let p = and_parts (every (row_fits n m) rows) (open_fits n o) h in
    and_from _ _ (rows_more n n' m m' k l rows p.0) (open_more n n' k o p.1)

-- the rules that were closed stay as they are
pub rules_more : (es fs : List EquationRow) (is js : List Instruction) (rows : List RuleRow) → every (row_fits (length es) (length is)) rows ≡ true → map (rule_of (es ++ fs) (is ++ js)) rows ≡ map (rule_of es is) rows
rules_more es fs is js [] h = refl
rules_more es fs is js (r ∷ rows) h =
    let p = and_parts (row_fits (length es) (length is) r) (every (row_fits (length es) (length is)) rows) h in
    let q = row_parts (length es) (length is) r p.0 in
    let e = part_more r.equations es fs q.0 in
    let f = part_more r.plan is js q.1 in
    λ i. record { left = r.rule.left; right = r.rule.right.items; equations = map equation_of (e i); plan = f i } ∷ rules_more es fs is js rows p.1 i

-- the open rule gains the equation
pub open_gains : (es : List EquationRow) (e : EquationRow) (o : Option Opened) → open_fits (length es) o ≡ true → option_map (open_of (es ++ e ∷ [])) o ≡ option_map (add_to (equation_of e)) (option_map (open_of es) o)
open_gains es e None h = refl
open_gains es e (Some o) h =
    ap (λ l. Some (record { left = o.rule.left; right = o.rule.right.items; equations = l }))
    (ap (map equation_of) (drop-append-le o.start es (e ∷ []) (leb-true _ _ h)) ∙ map_push equation_of (drop o.start es) e)

-- what the tables show after one equation more
pub record Gained (es fs : List EquationRow) (row : EquationRow) (is : List Instruction) (rows : List RuleRow) (o : Option Opened) : Type 0 where
  pub rules : map (rule_of es is) rows ≡ map (rule_of fs is) rows
  pub opened : option_map (add_to (equation_of row)) (option_map (open_of es) o) ≡ option_map (open_of fs) o

pub gained : (es fs : List EquationRow) (row : EquationRow) (is : List Instruction) (rows : List RuleRow) (o : Option Opened) (n m : ℕ) → n ≡ length es → m ≡ length is → fs ≡ es ++ row ∷ [] → spans_fit n m rows o ≡ true → Gained es fs row is rows o
gained es fs row is rows o n m en em e h =
    let p = and_parts (every (row_fits n m) rows) (open_fits n o) h in
    let q : every (row_fits (length es) (length is)) rows ≡ true = rows_more n (length es) m (length is) (omega arith) (omega arith) rows p.0 in
    let r : open_fits (length es) o ≡ true = open_more n (length es) (omega arith) o p.1 in
    record {
      rules = sym (ap (λ l. map (rule_of l is) rows) e ∙ ap (λ l. map (rule_of (es ++ row ∷ []) l) rows) (sym (append-nil is)) ∙ rules_more es (row ∷ []) is [] rows q);
      opened = sym (ap (λ l. option_map (open_of l) o) e ∙ open_gains es row o r);
    }
