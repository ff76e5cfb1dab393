-- Where a plan is refused, the rule that the fault names is the first broken one.
use Rattle.std.proofs.Common.{◌≡◌, ℕ, ◌+◌, Bool, true, false, cond, not, ◌&&◌, ltb, leb, List, [], ◌∷◌, ◌++◌, length, is_some, Some, None, Ok, Err, Option, Result, sym, refl, ap, ◌∙◌, subst, append_assoc, arith}
use Rattle.std.specs.Option.{option_map}
use Rattle.std.specs.List.{flat_map}
use Rattle.std.proofs.lemmas.List.{flat_map_more, length_push}
use Rattle.words.specs.Cuts.{Halves, cut_at, parts_at}
use Rattle.words.specs.Tokens.{Token, keyed_by, words_in, number_of, pair_word}
use Rattle.words.proofs.Parts.{cut_back, parts_some}
use Rattle.grammar.specs.Forms.{attribute_word, argument_word, instruction_word, all_of, at_most}
use Rattle.grammar.specs.Model.{Symbol, Equation}
use Rattle.grammar.specs.Scopes.{Scope, attribute_at, defines, argument_there, argument_taken, instruction_there}
use Rattle.grammar.specs.Tests.{every}
use Rattle.grammar.specs.declared.terms.Attribute.{Attribute}
use Rattle.grammar.specs.declared.terms.Instruction.{Instruction}
use Rattle.grammar.specs.declared.refusal.PlanRule.{PlanRule}
use Rattle.grammar.specs.declared.refusal.Refusal.{Refusal}
use Rattle.grammar.specs.declared.refusal.Refusal.TheVariants.{Length, LineForm, Range, Absent, Start, Target, BadArgument, Plan}
use Rattle.plans.specs.PlanRules.{FirstBroken}
use Rattle.plans.proofs.FirstRule.{first_broken_tells}
use Rattle.plans.specs.PlanTests.{first_broken}
use Rattle.lines.specs.LineKinds.{Line}
use Rattle.lines.specs.LineKinds.Line.{symbol_line, rule_line, set_line, plan_line}
use Rattle.lines.specs.Lines.{key_in, together, function_in, planned_by, parse}
use Rattle.lines.specs.Faults.{between1, starts, failing, symbol_fault, rule_fault, has_target, set_fault, right_visit, complete, plan_fault}
use Rattle.reader.specs.Steps.{Open, State, Step, nothing, allowed, fault_of, after, unless_fault, step}
use Rattle.reader.specs.Steps.Step.{next, stop}
use Rattle.reader.specs.Judgement.{on_line, if_allowed, on_key, on_keyed, judge_line, fault_at, end_with, go_on, judge_from, whole, of_length, long_enough}
use Rattle.reader.specs.declared.fault.Fault.{Fault}
use Rattle.lines.specs.declared.says.Key.{Key}
use Rattle.lines.specs.declared.says.Key.TheVariants.{OfSymbol, OfRule, OfSet, OfPlan}
use Rattle.sheet.specs.Writing.{write_line, ended, lines_of, group_of}
use Rattle.sheet.specs.Meaning.{PlanBroken, PlanRefusals}
use Rattle.sheet.proofs.Statements.{Runs}
use Rattle.sheet.proofs.Statements.Runs.{done, more}
use Rattle.sheet.proofs.Spacing.{joined_at, parts_join, words_joined}
use Rattle.sheet.proofs.LineForms.{name_of, key_back, parse_back, lines_go_back}
use Rattle.sheet.proofs.Sofar.{grammar_in, open_lines, sofar_nothing, scope_here, state, rule_with}
use Rattle.sheet.proofs.Forward.{runs_keep}

-- a refusal that is not of a plan
abbrev NotPlan : Refusal → Type 0
NotPlan Length = Unit {0}
NotPlan LineForm = Unit {0}
NotPlan Range = Unit {0}
NotPlan Absent = Unit {0}
NotPlan Start = Unit {0}
NotPlan Target = Unit {0}
NotPlan BadArgument = Unit {0}
NotPlan (Plan p) = ⊥

-- reading words refuses no plan
abbrev Plain : {Y : Type 0} → Result Y Refusal → Type 0
Plain (Ok y) = Unit {0}
Plain (Err e) = NotPlan e

together_plain : {X Y Z : Type 0} (f : X → Y → Z) (o : Option X) (r : Result Y Refusal) → Plain r → Plain (together f o r)
together_plain f None r h = tt
together_plain f (Some x) (Ok y) h = tt
together_plain f (Some x) (Err e) h = h

at_most_plain : {X : Type 0} (n : ℕ) (o : Option (List X)) → Plain (at_most n o)
at_most_plain n None = tt
at_most_plain n (Some xs) = by (leb (length xs) n)
  where
    by : (t : Bool) → Plain (cond t (Ok xs) (Err Range))
    by true = tt
    by false = tt

function_plain : (ws : List Token) → Plain (function_in ws)
function_plain [] = tt
function_plain (w ∷ ws) = together_plain _ (number_of w) (at_most 3 (all_of argument_word ws)) (at_most_plain 3 (all_of argument_word ws))

planned_plain : (o : Option (List Instruction)) → Plain (planned_by o)
planned_plain None = tt
planned_plain (Some is) = tt

parse_plain : (k : Key) (ws : List Token) → Plain (parse k ws)
parse_plain OfSymbol [] = tt
parse_plain OfSymbol (w ∷ ws) = together_plain symbol_line (number_of w) _ (at_most_plain 16 (all_of attribute_word ws))
parse_plain OfRule [] = tt
parse_plain OfRule (w ∷ ws) = together_plain rule_line (number_of w) _ (at_most_plain 4 (all_of number_of ws))
parse_plain OfSet [] = tt
parse_plain OfSet (w ∷ ws) = together_plain _ (pair_word w) (function_in ws) (function_plain ws)
parse_plain OfPlan ws = planned_plain (all_of instruction_word ws)

-- the fault of a line that is no plan
abbrev Clear : Option Refusal → Type 0
Clear None = Unit {0}
Clear (Some r) = NotPlan r

failing_clear : (t : Bool) (r : Refusal) (later : Option Refusal) → NotPlan r → Clear later → Clear (failing t r later)
failing_clear true r later h k = k
failing_clear false r later h k = h

symbol_clear : (ss : List Symbol) (v : ℕ) (xs : List Attribute) → Clear (symbol_fault ss v xs)
symbol_clear ss v xs =
    failing_clear (between1 4 v && ltb (length ss) 32) Range _ tt
    (failing_clear (every (λ x. between1 v x.visit) xs) Absent _ tt (failing_clear (starts ss v xs) Start None tt tt))

rule_clear : (n m l : ℕ) (rs : List ℕ) → Clear (rule_fault n m l rs)
rule_clear n m l rs = failing_clear (ltb m 64) Range _ tt (failing_clear (every (λ x. ltb x n) (l ∷ rs)) Absent None tt tt)

equation_clear : (σ : Scope) (es : List Equation) (e : Equation) → Clear (set_fault σ es e)
equation_clear σ es e =
    failing_clear (is_some (attribute_at σ e.occurrence e.attribute) && every (argument_there σ) e.arguments) Absent _ tt
    (failing_clear (defines σ e.occurrence e.attribute && not (has_target es e.occurrence e.attribute)) Target _ tt
    (failing_clear (every (argument_taken σ) e.arguments) BadArgument None tt tt))

set_clear : (st : State) (q : Equation) (o : Option Open) → Clear (fault_of (state st.symbols st.rules o st.sets st.steps) (set_line q))
set_clear st q None = tt
set_clear st q (Some o) = failing_clear (leb q.function 255 && ltb st.sets 512) Range (set_fault (scope_here st.symbols o) o.equations q) tt (equation_clear (scope_here st.symbols o) o.equations q)

-- only the line of a plan is refused as a plan
only_plans : (st : State) (l : Line) (p : PlanRule) → fault_of st l ≡ Some (Plan p) → (is : List Instruction) × (l ≡ plan_line is)
only_plans st (symbol_line v xs) p e = absurd (subst Clear e (symbol_clear st.symbols v xs))
only_plans st (rule_line l rs) p e = absurd (subst Clear e (rule_clear (length st.symbols) (length st.rules) l rs))
only_plans st (set_line q) p e = absurd (subst Clear e (set_clear st q st.opened))
only_plans st (plan_line is) p e = (is, refl)

-- the bytes are a plan that breaks rule p
record PlanLine (st : State) (bytes : List ℕ) (p : PlanRule) : Type 0 where
  pub plan : List Instruction
  pub written : bytes ≡ write_line (plan_line plan)
  pub faulty : fault_of st (plan_line plan) ≡ Some (Plan p)

step_stop : (st : State) (l : Line) (r : Refusal) → step st l ≡ stop r → fault_of st l ≡ Some r
step_stop st l r e = by (fault_of st l) e
  where
    by : (o : Option Refusal) → unless_fault o (after st l) ≡ stop r → o ≡ Some r
    by None q = absurd (grind arith)
    by (Some x) q = cc

line_refused : (st : State) (bytes : List ℕ) (p : PlanRule) → judge_line st bytes ≡ stop (Plan p) → PlanLine st bytes p
line_refused st bytes p e = cut (cut_at 61 bytes) refl e
  where
    line : (h : Halves) (k : Key) (r : Result Line Refusal) (b : Bool) → bytes ≡ name_of k ++ 61 ∷ h.after → parse k (words_in h.after) ≡ r → if_allowed b (on_line st r) ≡ stop (Plan p) → PlanLine st bytes p
    line h k r false w i q = absurd (grind arith)
    line h k (Err u) true w i q =
        let z : u ≡ Plan p = cc in
        absurd (subst NotPlan z (subst Plain i (parse_plain k (words_in h.after))))
    line h k (Ok l) true w i q =
        let o = parse_back k (parts_at 32 h.after) l (parts_some 32 h.after) i in
        let f = step_stop st l (Plan p) q in
        let is = only_plans st l p f in
        record {
          plan = is.0;
          written = w ∙ ap (λ cs. name_of k ++ 61 ∷ cs) (sym (words_joined h.after)) ∙ o.written ∙ ap write_line is.1;
          faulty = ap (fault_of st) (sym is.1) ∙ f;
        }

    named : (h : Halves) (o : Option Key) → bytes ≡ h.before ++ 61 ∷ h.after → key_in h.before ≡ o → on_key st o (words_in h.after) ≡ stop (Plan p) → PlanLine st bytes p
    named h None w i q = absurd (grind arith)
    named h (Some k) w i q = line h k (parse k (words_in h.after)) (allowed st k) (w ∙ ap (λ n. n ++ 61 ∷ h.after) (key_back h.before k i)) refl q

    cut : (o : Option Halves) → cut_at 61 bytes ≡ o → on_keyed st (keyed_by o) ≡ stop (Plan p) → PlanLine st bytes p
    cut None c q = absurd (grind arith)
    cut (Some h) c q = named h (key_in h.before) (cut_back 61 bytes h c).whole refl q

-- from line n on, lines are taken one after another, and then comes a plan that breaks rule p
record Refused (n : ℕ) (st : State) (text : List ℕ) (line : ℕ) (p : PlanRule) : Type 0 where
  pub lines : List Line
  pub here : State
  pub plan : List Instruction
  pub rest : List ℕ
  pub runs : Runs st lines here
  pub written : text ≡ flat_map ended lines ++ (ended (plan_line plan) ++ rest)
  pub at_line : line ≡ n + length lines
  pub faulty : fault_of here (plan_line plan) ≡ Some (Plan p)

same_fault : (n m : ℕ) (r q : Refusal) → fault_at n r ≡ fault_at m q → (r ≡ q) × (n ≡ m)
same_fault n m r q e =
    let is : ◌≡◌ {A = Fault} (record { refusal = r; line = n }) (record { refusal = q; line = m }) = cc in
    (ap (λ (f : Fault). f.refusal) is, ap (λ (f : Fault). f.line) is)

parts_refused : (n : ℕ) (st : State) (ps : List (List ℕ)) (p : PlanRule) (line : ℕ) → judge_from n st ps ≡ fault_at line (Plan p) → Refused n st (joined_at 10 ps) line p
parts_refused n st [] p line e = absurd (grind arith)
parts_refused n st ([] ∷ []) p line e = end (whole st) e
  where
    end : (b : Bool) → end_with b n st ≡ fault_at line (Plan p) → Refused n st [] line p
    end true q = absurd (grind arith)
    end false q = absurd (grind arith)
parts_refused n st ((b ∷ bs) ∷ []) p line e = absurd (grind arith)
parts_refused n st (w ∷ v ∷ ps) p line e = by (judge_line st w) refl e (λ st₁ k. parts_refused (n + 1) st₁ (v ∷ ps) p line k)
  where
    front : (l : Line) (rest : List ℕ) → write_line l ++ 10 ∷ rest ≡ ended l ++ rest
    front l rest = sym (append_assoc (write_line l) (10 ∷ []) rest)

    by : (s : Step) → judge_line st w ≡ s → go_on n s (λ st₁. judge_from (n + 1) st₁ (v ∷ ps)) ≡ fault_at line (Plan p) → ((st₁ : State) → judge_from (n + 1) st₁ (v ∷ ps) ≡ fault_at line (Plan p) → Refused (n + 1) st₁ (joined_at 10 (v ∷ ps)) line p) → Refused n st (joined_at 10 (w ∷ v ∷ ps)) line p
    by (stop r) j k f =
        let is = same_fault n line r (Plan p) k in
        let t = line_refused st w p (j ∙ ap stop is.0) in
        record {
          lines = [];
          here = st;
          plan = t.plan;
          rest = joined_at 10 (v ∷ ps);
          runs = done;
          written = ap (λ x. x ++ 10 ∷ joined_at 10 (v ∷ ps)) t.written ∙ front (plan_line t.plan) (joined_at 10 (v ∷ ps));
          at_line = let at : n ≡ line = is.1 in omega arith;
          faulty = t.faulty;
        }
    by (next st₁) j k f =
        let l = lines_go_back st w st₁ j in
        let t = f st₁ k in
        record {
          lines = l.line ∷ t.lines;
          here = t.here;
          plan = t.plan;
          rest = t.rest;
          runs = more l.small l.key l.taken t.runs;
          written = (λ i. l.written i ++ 10 ∷ t.written i) ∙ front l.line _ ∙ sym (append_assoc (ended l.line) (flat_map ended t.lines) (ended (plan_line t.plan) ++ t.rest));
          at_line = omega arith;
          faulty = t.faulty;
        }

failing_plan : (t : Bool) (r : Refusal) (later : Option Refusal) (p : PlanRule) → NotPlan r → failing t r later ≡ Some (Plan p) → later ≡ Some (Plan p)
failing_plan true r later p h e = e
failing_plan false r later p h e = let is : r ≡ Plan p = cc in absurd (subst NotPlan is h)

mapped_plan : (o : Option PlanRule) (p : PlanRule) → option_map Plan o ≡ Some (Plan p) → o ≡ Some p
mapped_plan None p e = absurd (grind arith)
mapped_plan (Some q) p e = cc

-- a plan is refused in an open rule, by its first broken rule
plan_faulty : (st : State) (o : Option Open) (is : List Instruction) (p : PlanRule) → fault_of (state st.symbols st.rules o st.sets st.steps) (plan_line is) ≡ Some (Plan p) → (q : Open) × (o ≡ Some q) × (first_broken (scope_here st.symbols q) q.equations is ≡ Some p)
plan_faulty st None is p e = absurd (grind arith)
plan_faulty st (Some q) is p e =
    let σ = scope_here st.symbols q in
    let a = failing_plan (leb (st.steps + length is) 1024) Range (plan_fault σ q.equations is) p tt e in
    let b = failing_plan (every right_visit is) Range _ p tt a in
    let c = failing_plan (every (instruction_there σ) is) Absent _ p tt b in
    let d = failing_plan (complete σ q.equations) Target _ p tt c in
    (q, refl, mapped_plan (first_broken σ q.equations is) p d)

pub plan_refused : PlanRefusals
plan_refused text p n e = by (long_enough (length text)) e
  where
    by : (b : Bool) → of_length b text ≡ fault_at n (Plan p) → PlanBroken text n p
    by false q = absurd (grind arith)
    by true q =
        let t = subst (λ x. Refused 1 nothing x n p) (parts_join 10 text) (parts_refused 1 nothing (parts_at 10 text) p n q) in
        let f = plan_faulty t.here t.here.opened t.plan p t.faulty in
        let k = runs_keep nothing t.lines t.here t.runs sofar_nothing in
        let before = lines_of (grammar_in t.here) in
        let lines : before ++ group_of (rule_with t.plan f.0) ≡ t.lines ++ plan_line t.plan ∷ [] =
        sym (append_assoc before (open_lines (Some f.0)) (plan_line t.plan ∷ []))
        ∙ ap (λ o. (before ++ open_lines o) ++ plan_line t.plan ∷ []) (sym f.1)
        ∙ ap (λ ls. ls ++ plan_line t.plan ∷ []) k.1 in
        record {
          before = grammar_in t.here;
          rule = rule_with t.plan f.0;
          rest = t.rest;
          begins =
              t.written
              ∙ sym (append_assoc (flat_map ended t.lines) (ended (plan_line t.plan)) t.rest)
              ∙ ap (λ bs. bs ++ t.rest) (flat_map_more ended [] t.lines (plan_line t.plan))
              ∙ ap (λ ls. flat_map ended ls ++ t.rest) (sym lines);
          at_line = let at = t.at_line in omega (arith, ap length lines ∙ length_push t.lines (plan_line t.plan));
          broken = subst (FirstBroken (scope_here t.here.symbols f.0) f.0.equations t.plan) f.2 (first_broken_tells (scope_here t.here.symbols f.0) f.0.equations t.plan);
        }
