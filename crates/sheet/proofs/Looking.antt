-- What is read off the tables of a sheet.
use Rattle.std.proofs.Common.{◌≡◌, ℕ, zero, suc, ◌+◌, ◌-◌, ◌<◌, ◌≤◌, Bool, true, false, eqb, ◌⊎◌, List, [], ◌∷◌, map, length, get_or, drop, vec_items, vec_len, MatchBool, sum_by, Option, sym, refl, ap, ◌∙◌, ⊎_elim, arith, length-drop, length-take, Bor}
use Rattle.std.specs.Option.{option_map}
use Rattle.std.specs.Slice.{IsGetResult}
use Rattle.std.specs.List.{slice_get}
use Rattle.std.proofs.lemmas.List.{length-map}
use Rattle.std.proofs.lemmas.List.Sums.{sum_by-cons}
use Rattle.std.proofs.lemmas.Bool.{and_parts, eqb-true, eqb-false}
use Rattle.grammar.specs.Rows.{equation_of}
use Rattle.grammar.specs.Tests.{every}
use Rattle.grammar.specs.Rows.{EquationRow}
use Rattle.grammar.specs.declared.terms.Instruction.{Instruction}
use Rattle.grammar.proofs.Elements.{item_map}
use Rattle.reader.specs.Judgement.{grammar_in}
use Rattle.reader.specs.Spans.{span_fits, row_fits, open_fits}
use Rattle.reader.specs.Views.{part, rule_of, rules_of, state_of}
use Rattle.reader.specs.declared.rows.RuleRow.{RuleRow}
use Rattle.reader.specs.declared.rows.Span.{Span}
use Rattle.reader.specs.declared.tables.Tables.{Tables}
use Rattle.reader.proofs.Spanned.{Within, within}
use Rattle.sheet.specs.Answers.{size_of}
use Rattle.sheet.specs.Kept.{empty, read_back}
use Rattle.sheet.specs.Meaning.{SheetOf, sets_in, instructions_in}
use Rattle.sheet.specs.Writing.{write}
use Rattle.sheet.proofs.Keeping.{empty_or_sheet}

-- where the table of rules is empty the sheet is, and else it was accepted
pub looked_empty : (t : Tables) (r : Bool) → read_back (grammar_in (state_of t)) ≡ grammar_in (state_of t) → r ≡ eqb (vec_len t.rules) 0 → MatchBool r (grammar_in (state_of t) ≡ empty) (SheetOf (write (grammar_in (state_of t))) (grammar_in (state_of t)))
looked_empty t r h e = by r (sym e) (empty_or_sheet (grammar_in (state_of t)) h)
  where
    none : (k : grammar_in (state_of t) ≡ empty) → vec_len t.rules ≡ 0
    none k = t.rules.ok.0 ∙ sym (length-map (vec_items t.rules) (rule_of (vec_items t.equations) (vec_items t.plan))) ∙ ap (λ g. length g.rules) k

    by : (b : Bool) → eqb (vec_len t.rules) 0 ≡ b → (grammar_in (state_of t) ≡ empty) ⊎ SheetOf (write (grammar_in (state_of t))) (grammar_in (state_of t)) → MatchBool b (grammar_in (state_of t) ≡ empty) (SheetOf (write (grammar_in (state_of t))) (grammar_in (state_of t)))
    by true z c = ⊎_elim (λ k. k) (λ s. absurd (omega (arith, eqb-true (vec_len t.rules) 0 z, s.sound.some_rule, length-map (vec_items t.rules) (rule_of (vec_items t.equations) (vec_items t.plan)), t.rules.ok.0))) c
    by false z c = ⊎_elim (λ k. absurd (eqb-false (vec_len t.rules) 0 z (none k))) (λ s. s) c

-- the bounds of a row's parts
pub record Parts (t : Tables) (r : RuleRow) : Type 0 where
  pub equations : Within r.equations (vec_len t.equations)
  pub plan : Within r.plan (vec_len t.plan)

every_at : {X : Type 0} (p : X → Bool) (xs : List X) (i : ℕ) (x : X) → every p xs ≡ true → i < length xs → x ≡ get_or xs i x → p x ≡ true
every_at p [] i x h l e = absurd (omega arith)
every_at p (y ∷ xs) zero x h l e = ap p e ∙ (and_parts (p y) (every p xs) h).0
every_at p (y ∷ xs) (suc i) x h l e = every_at p xs i x (and_parts (p y) (every p xs) h).1 (omega arith) e

pub row_parts : (t : Tables) (rows : List RuleRow) (i : ℕ) (r : RuleRow) → rows ≡ vec_items t.rules → i < length rows → r ≡ get_or rows i r → Parts t r
row_parts t rows i r same l e =
    let p = and_parts (every (row_fits (vec_len t.equations) (vec_len t.plan)) (vec_items t.rules)) (open_fits (vec_len t.equations) t.opened) t.spans in
    let h = ap (every (row_fits (vec_len t.equations) (vec_len t.plan))) same ∙ p.0 in
    let q = and_parts (span_fits (vec_len t.equations) r.equations) (span_fits (vec_len t.plan) r.plan) (every_at (row_fits (vec_len t.equations) (vec_len t.plan)) rows i r h l e) in
    record { equations = within _ _ q.0; plan = within _ _ q.1 }

-- the rule that a row shows
pub row_rule : (t : Tables) (rows : List RuleRow) (i : ℕ) (o : Option (Bor RuleRow)) → rows ≡ vec_items t.rules → IsGetResult rows i i o → option_map (λ x. rule_of (vec_items t.equations) (vec_items t.plan) x.now) o ≡ slice_get (rules_of t) i
row_rule t rows i o same h = item_map (rule_of (vec_items t.equations) (vec_items t.plan)) rows i o h ∙ ap (λ l. slice_get (map (rule_of (vec_items t.equations) (vec_items t.plan)) l) i) same

part_size : {X : Type 0} (s : Span) (xs : List X) (n : ℕ) → n ≡ length xs → Within s n → length (part s xs) ≡ size_of s
part_size s xs n e w = omega (arith, length-take (s.end - s.start) (drop s.start xs), length-drop s.start xs, w.ordered, w.inside)

row_size : (es : List EquationRow) (is : List Instruction) (n m : ℕ) (r : RuleRow) → n ≡ length es → m ≡ length is → row_fits n m r ≡ true → (length (rule_of es is r).equations ≡ size_of r.equations) × (length (rule_of es is r).plan ≡ size_of r.plan)
row_size es is n m r en em h =
    let q = and_parts (span_fits n r.equations) (span_fits m r.plan) h in
    (length-map (part r.equations es) equation_of ∙ part_size r.equations es n en (within _ _ q.0), part_size r.plan is m em (within _ _ q.1))

-- the sizes of the rows' parts are those of the rules
rows_sizes : (es : List EquationRow) (is : List Instruction) (n m : ℕ) → n ≡ length es → m ≡ length is → (rows : List RuleRow) → every (row_fits n m) rows ≡ true → (sets_in (map (rule_of es is) rows) ≡ sum_by (λ r. size_of r.equations) rows) × (instructions_in (map (rule_of es is) rows) ≡ sum_by (λ r. size_of r.plan) rows)
rows_sizes es is n m en em [] h = (refl, refl)
rows_sizes es is n m en em (r ∷ rows) h =
    let p = and_parts (row_fits n m r) (every (row_fits n m) rows) h in
    let q = row_size es is n m r en em p.0 in
    let k = rows_sizes es is n m en em rows p.1 in (
      sum_by-cons (λ x. length x.equations) (rule_of es is r) (map (rule_of es is) rows) ∙ (λ i. q.0 i + k.0 i) ∙ sym (sum_by-cons (λ x. size_of x.equations) r rows),
      sum_by-cons (λ x. length x.plan) (rule_of es is r) (map (rule_of es is) rows) ∙ (λ i. q.1 i + k.1 i) ∙ sym (sum_by-cons (λ x. size_of x.plan) r rows),
    )

-- the sums over the rows, which stay small
pub record Sizes (t : Tables) : Type 0 where
  pub sets : sets_in (rules_of t) ≡ sum_by (λ r. size_of r.equations) (vec_items t.rules)
  pub instructions : instructions_in (rules_of t) ≡ sum_by (λ r. size_of r.plan) (vec_items t.rules)
  pub few_sets : sets_in (rules_of t) ≤ 512
  pub few_instructions : instructions_in (rules_of t) ≤ 1024

pub sizes : (t : Tables) → read_back (grammar_in (state_of t)) ≡ grammar_in (state_of t) → Sizes t
sizes t h =
    let p = and_parts (every (row_fits (vec_len t.equations) (vec_len t.plan)) (vec_items t.rules)) (open_fits (vec_len t.equations) t.opened) t.spans in
    let k = rows_sizes (vec_items t.equations) (vec_items t.plan) (vec_len t.equations) (vec_len t.plan) t.equations.ok.0 t.plan.ok.0 (vec_items t.rules) p.0 in
    let c = empty_or_sheet (grammar_in (state_of t)) h in
    let few : (sets_in (rules_of t) ≤ 512) × (instructions_in (rules_of t) ≤ 1024) = ⊎_elim (λ e. (omega (arith, ap (λ g. sets_in g.rules) e), omega (arith, ap (λ g. instructions_in g.rules) e))) (λ s. (s.sound.few_sets, s.sound.few_instructions)) c in
    record { sets = k.0; instructions = k.1; few_sets = few.0; few_instructions = few.1 }
