-- The writing of a grammar that meets every rule is judged a sheet.
use Rattle.std.proofs.Common.{◌≡◌, ℕ, ◌+◌, ◌<◌, ◌≤◌, true, not, leb, List, [], ◌∷◌, ◌++◌, map, length, Some, None, sym, refl, ap, ◌∙◌, subst, append_assoc, arith}
use Rattle.std.specs.List.{flat_map, AllByRecursion, slice_get}
use Rattle.std.proofs.lemmas.List.{append-nil, length-append, length_push}
use Rattle.std.proofs.lemmas.List.Sums.{sum_by-append, sum_by_push}
use Rattle.std.proofs.lemmas.Bool.{and_from, le-leb}
use Rattle.words.specs.Cuts.{parts_at}
use Rattle.grammar.specs.Model.{Symbol, Equation, Rule, Grammar}
use Rattle.grammar.specs.declared.refusal.PlanRule.TheVariants.{ReturnsInOrder}
use Rattle.lines.specs.LineKinds.{Line}
use Rattle.lines.specs.LineKinds.Line.{rule_line, set_line, plan_line}
use Rattle.reader.specs.Steps.{Open, State, nothing, is_empty, allowed, fault_of, after, unless_fault}
use Rattle.reader.specs.Judgement.{judge, judge_from, of_length}
use Rattle.reader.specs.Judgement.Outcome.{sheet}
use Rattle.sheet.specs.Writing.{symbol_line_of, group_of, lines_of}
use Rattle.plans.proofs.Attributes.{defines_decides}
use Rattle.sheet.specs.Meaning.{SoundSymbol, StartSymbol, scope_of_rule, SoundEquation, SoundRule, sets_in, instructions_in, Sound, SheetOf}
use Rattle.sheet.proofs.Statements.{kind, Writable, Runs}
use Rattle.sheet.proofs.Statements.Runs.{done, more}
use Rattle.sheet.proofs.Texts.{texts_come}
use Rattle.std.proofs.lemmas.Option.{slice_get_within}
use Rattle.sheet.proofs.Places.{nth_front, nth_at, all_nth}
use Rattle.sheet.proofs.Deciding.{TargetAt, Complete}
use Rattle.sheet.proofs.Faults.{Starts, symbol_passes, rule_passes, set_passes, plan_passes}
use Rattle.sheet.proofs.Sofar.{Apart, scope_here, state}
use Rattle.sheet.proofs.Small.{symbol_small, rule_small, equation_small, plan_small}

runs_append : {st st₁ st₂ : State} (ls ms : List Line) → Runs st ls st₁ → Runs st₁ ms st₂ → Runs st (ls ++ ms) st₂
runs_append _ ms done r = r
runs_append _ ms (more {ls = ls} w a t q) r = more w a t (runs_append ls ms q r)

-- a line with no fault in front
runs_more : {ls : List Line} {st' : State} (st : State) (l : Line) → Writable l → allowed st (kind l) ≡ true → fault_of st l ≡ None → Runs (after st l) ls st' → Runs st (l ∷ ls) st'
runs_more st l w a e r = more w a (ap (λ o. unless_fault o (after st l)) e) r

-- symbols
module _ (all : List Symbol) (few : length all ≤ 32) (start : (s : Symbol) → slice_get all 0 ≡ Some s → StartSymbol s) where
  begins : (before : List Symbol) (s : Symbol) (rest : List Symbol) → all ≡ before ++ s ∷ rest → Starts before s
  begins [] s rest e = start s (ap (λ xs. slice_get xs 0) e)
  begins (x ∷ before) s rest e = tt

  symbols_run : (rest before : List Symbol) → all ≡ before ++ rest → AllByRecursion SoundSymbol rest → Runs (state before [] None 0 0) (map symbol_line_of rest) (state all [] None 0 0)
  symbols_run [] before e h = subst (λ x. Runs (state before [] None 0 0) [] (state x [] None 0 0)) (sym (e ∙ append-nil before)) done
  symbols_run (s ∷ rest) before e h =
      let long : length all ≡ length before + length (s ∷ rest) = ap length e ∙ length-append before (s ∷ rest) in
      runs_more (state before [] None 0 0) (symbol_line_of s) (symbol_small s h.0) refl
      (symbol_passes before s (record { room = omega arith; some_visit = h.0.some_visit; few_visits = h.0.few_visits; visits_there = h.0.visits_there; begins = begins before s rest e }))
      (symbols_run rest (before ++ s ∷ []) (e ∙ sym (append_assoc before (s ∷ []) rest)) h.1)

-- equations
apart_fresh : (before : List Equation) (e : Equation) (rest : List Equation) → Apart (before ++ e ∷ rest) → TargetAt before e.occurrence e.attribute → ⊥
apart_fresh before e rest apart t =
    let p = apart t.place (length before) t.equation e (nth_front before (e ∷ rest) t.place t.equation t.stands) (nth_at before rest e) t.occurrence_is t.attribute_is in
    let l = slice_get_within before t.place t.equation t.stands in
    omega arith

abbrev opened : ℕ → List ℕ → List Equation → Open
opened l rs es = record { left = l; right = rs; equations = es }

-- the open rule has the equations before, and gets the rest; m sets are there at the end
module _ (ss : List Symbol) (sound : AllByRecursion SoundSymbol ss) (rules : List Rule) (l : ℕ) (rs : List ℕ) (few : length rs ≤ 4) (all : List Equation) (apart : Apart all) (k m : ℕ) (room : m ≤ 512) where
  sets_run : (rest before : List Equation) (n : ℕ) → all ≡ before ++ rest → n + length rest ≡ m → AllByRecursion (SoundEquation (scope_here ss (opened l rs all))) rest → Runs (state ss rules (Some (opened l rs before)) n k) (map set_line rest) (state ss rules (Some (opened l rs all)) m k)
  sets_run [] before n e c h =
      let z : n ≡ m = omega arith in
      subst (λ es. Runs (state ss rules (Some (opened l rs before)) n k) [] (state ss rules (Some (opened l rs es)) m k)) (sym (e ∙ append-nil before))
      (subst (λ j. Runs (state ss rules (Some (opened l rs before)) n k) [] (state ss rules (Some (opened l rs before)) j k)) z done)
  sets_run (q ∷ rest) before n e c h =
      runs_more (state ss rules (Some (opened l rs before)) n k) (set_line q) (equation_small (scope_here ss (opened l rs all)) sound (omega arith) q h.0) refl
      (set_passes (scope_here ss (opened l rs all)) before n q (record {
        small_function = h.0.small_function;
        room = omega arith;
        target = (defines_decides (scope_here ss (opened l rs all)) q.occurrence q.attribute).1 h.0.target;
        fresh = apart_fresh before q rest (subst Apart e apart);
        arguments_taken = h.0.arguments_taken;
      }))
      (sets_run rest (before ++ q ∷ []) (n + 1) (e ∙ sym (append_assoc before (q ∷ []) rest)) (omega arith) h.1)

-- rules
sound_apart : (ss : List Symbol) (r : Rule) → SoundRule ss r → Apart r.equations
sound_apart ss r h p q e f sp sq oc at =
    let d = (all_nth (SoundEquation (scope_of_rule ss r)) r.equations p e h.equations_sound sp).target in
    let o = h.one_equation e.occurrence e.attribute d in
    o.1.only p e sp refl refl ∙ sym (o.1.only q f sq (sym oc) (sym at))

sound_complete : (ss : List Symbol) (r : Rule) → SoundRule ss r → Complete (scope_of_rule ss r) r.equations
sound_complete ss r h o a d =
    let q = h.one_equation o a ((defines_decides (scope_of_rule ss r) o a).0 d) in
    record { place = q.0; equation = q.1.equation; stands = q.1.stands; occurrence_is = q.1.occurrence_is; attribute_is = q.1.attribute_is }

some_plan : (ss : List Symbol) (r : Rule) → SoundRule ss r → 0 < length r.plan
some_plan ss r h =
    let e = (h.planned ReturnsInOrder).1 in
    let z : length r.plan ≡ length e.0 + 1 = ap length e.1 ∙ length_push e.0 _ in
    omega arith

not_empty : {X : Type 0} (xs : List X) → 1 ≤ length xs → not (is_empty xs) ≡ true
not_empty [] h = absurd (omega arith)
not_empty (x ∷ xs) h = refl

module _ (ss : List Symbol) (few : length ss ≤ 32) (some : 1 ≤ length ss) (sound : AllByRecursion SoundSymbol ss) where
  -- the lines of one rule, of which m sets and j instructions are there at the end
  group_run : (rules : List Rule) (r : Rule) (n k m j : ℕ) → SoundRule ss r → length rules < 64 → n + length r.equations ≡ m → m ≤ 512 → k + length r.plan ≡ j → j ≤ 1024 → Runs (state ss rules None n k) (group_of r) (state ss (rules ++ r ∷ []) None m j)
  group_run rules r n k m j h room cm lm cj lj =
      runs_more (state ss rules None n k) (rule_line r.left r.right) (rule_small (length ss) r.left r.right few h.left_there h.few_right h.right_there) (and_from _ _ (not_empty ss some) refl)
      (rule_passes (length ss) (length rules) r.left r.right (record { room = room; left_there = h.left_there; right_there = h.right_there }))
      (runs_append (map set_line r.equations) (plan_line r.plan ∷ [])
      (sets_run ss sound rules r.left r.right h.few_right r.equations (sound_apart ss r h) k m lm r.equations [] n refl cm h.equations_sound)
      (runs_more (state ss rules (Some (opened r.left r.right r.equations)) m k) (plan_line r.plan) (plan_small (scope_of_rule ss r) sound five r.plan (some_plan ss r h) h.instructions_there) refl
      (plan_passes (scope_of_rule ss r) r.equations k r.plan (record { room = omega arith; instructions_there = h.instructions_there; all_defined = sound_complete ss r h; planned = h.planned }))
      (subst (λ i. Runs (state ss (rules ++ r ∷ []) None m (k + length r.plan)) [] (state ss (rules ++ r ∷ []) None m i)) cj done)))
    where
      five : length (r.left ∷ r.right) ≤ 5
      five = let z = h.few_right in omega arith

  rules_run : (all : List Rule) → length all ≤ 64 → sets_in all ≤ 512 → instructions_in all ≤ 1024 → (rest before : List Rule) → all ≡ before ++ rest → AllByRecursion (SoundRule ss) rest → Runs (state ss before None (sets_in before) (instructions_in before)) (flat_map group_of rest) (state ss all None (sets_in all) (instructions_in all))
  rules_run all long sets steps [] before e h = subst (λ x. Runs (state ss before None (sets_in before) (instructions_in before)) [] (state ss x None (sets_in x) (instructions_in x))) (sym (e ∙ append-nil before)) done
  rules_run all long sets steps (r ∷ rest) before e h =
      let all-long : length all ≡ length before + length (r ∷ rest) = ap length e ∙ length-append before (r ∷ rest) in
      let more-all : all ≡ (before ++ r ∷ []) ++ rest = e ∙ sym (append_assoc before (r ∷ []) rest) in
      let all-sets : sets_in all ≡ sets_in (before ++ r ∷ []) + sets_in rest = ap sets_in more-all ∙ sum_by-append (λ x. length x.equations) (before ++ r ∷ []) rest in
      let all-steps : instructions_in all ≡ instructions_in (before ++ r ∷ []) + instructions_in rest = ap instructions_in more-all ∙ sum_by-append (λ x. length x.plan) (before ++ r ∷ []) rest in
      runs_append (group_of r) (flat_map group_of rest)
      (group_run before r (sets_in before) (instructions_in before) (sets_in (before ++ r ∷ [])) (instructions_in (before ++ r ∷ [])) h.0 (omega arith) (sym (sum_by_push (λ x. length x.equations) before r)) (omega arith) (sym (sum_by_push (λ x. length x.plan) before r)) (omega arith))
      (rules_run all long sets steps rest (before ++ r ∷ []) more-all h.1)

sound_runs : (g : Grammar) → Sound g → Runs nothing (lines_of g) (state g.symbols g.rules None (sets_in g.rules) (instructions_in g.rules))
sound_runs g h =
    runs_append (map symbol_line_of g.symbols) (flat_map group_of g.rules)
    (symbols_run g.symbols h.few_symbols h.start g.symbols [] refl h.symbols_sound)
    (rules_run g.symbols h.few_symbols h.some_symbol h.symbols_sound g.rules h.few_rules h.few_sets h.few_instructions g.rules [] refl h.rules_sound)

pub sheet_judged : (text : List ℕ) (g : Grammar) → SheetOf text g → judge text ≡ sheet g
sheet_judged text g h =
    ap (λ b. of_length b text) (and_from (leb 1 (length text)) (leb (length text) 32768) (le-leb 1 (length text) h.some_text) (le-leb (length text) 32768 h.short_text))
    ∙ ap (λ t. judge_from 1 nothing (parts_at 10 t)) h.written
    ∙ texts_come 1 nothing (lines_of g) _ (sound_runs g h.sound) (and_from _ _ (not_empty g.rules h.sound.some_rule) refl)
