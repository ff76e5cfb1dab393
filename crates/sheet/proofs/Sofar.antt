-- What holds of all that was read so far, and the lines that it stands for.
use Rattle.std.proofs.Common.{◌≡◌, ℕ, ◌+◌, ◌<◌, ◌≤◌, true, not, ◌&&◌, ◌⊎◌, List, [], ◌∷◌, ◌++◌, map, length, is_some, Some, None, Option, sym, refl, ap, ◌∙◌, subst, inl, inr, append_assoc, arith}
use Rattle.std.specs.Option.{option_map}
use Rattle.std.specs.List.{flat_map, AllByRecursion, slice_get}
use Rattle.std.proofs.ByRecursion.{All-push}
use Rattle.std.proofs.lemmas.List.{append-nil, length_push, map_push, flat_map_more}
use Rattle.std.proofs.lemmas.List.Sums.{sum_by_push}
use Rattle.grammar.specs.Model.{Symbol, Equation, Rule, Grammar}
use Rattle.grammar.specs.Scopes.{Scope, defines}
use Rattle.plans.proofs.Attributes.{defines_decides}
use Rattle.grammar.specs.declared.terms.Instruction.{Instruction}
use Rattle.lines.specs.LineKinds.{Line}
use Rattle.lines.specs.LineKinds.Line.{symbol_line, rule_line, set_line, plan_line}
use Rattle.reader.specs.Steps.{Open, State, nothing, is_empty, allowed, fault_of, add_to, closed, after}
use Rattle.sheet.specs.Writing.{symbol_line_of, group_of, lines_of}
use Rattle.sheet.specs.Meaning.{SoundSymbol, StartSymbol, SoundEquation, OnlyEquation, SoundRule, sets_in, instructions_in}
use Rattle.sheet.proofs.Statements.{kind, Writable}
use Rattle.sheet.proofs.Places.{nth_push}
use Rattle.sheet.proofs.Deciding.{TargetAt, Complete}
use Rattle.sheet.proofs.Faults.{Starts, NextSymbol, NextRule, NextEquation, NextPlan, symbol_next, rule_next, set_next, plan_next}

abbrev pub grammar_in : State → Grammar
grammar_in st = record { symbols = st.symbols; rules = st.rules }

abbrev pub open_lines : Option Open → List Line
open_lines None = []
open_lines (Some o) = rule_line o.left o.right ∷ map set_line o.equations

-- the lines that were read
abbrev pub lines_in : State → List Line
lines_in st = lines_of (grammar_in st) ++ open_lines st.opened

-- a line more is one more of them
pub lines_more : (st : State) (l : Line) → allowed st (kind l) ≡ true → lines_in (after st l) ≡ lines_in st ++ l ∷ []
lines_more st (symbol_line v xs) a = by st.rules st.opened a
  where
    by : (rules : List Rule) (o : Option Open) → (is_empty rules && not (is_some o)) ≡ true → (map symbol_line_of (st.symbols ++ record { visits = v; attributes = xs } ∷ []) ++ flat_map group_of rules) ++ open_lines o ≡ ((map symbol_line_of st.symbols ++ flat_map group_of rules) ++ open_lines o) ++ symbol_line v xs ∷ []
    by [] None h = simp (append-nil, map_push)
    by [] (Some o) h = absurd (grind arith)
    by (r ∷ rules) o h = absurd (grind arith)
lines_more st (rule_line l rs) a = by st.opened a
  where
    by : (o : Option Open) → (not (is_empty st.symbols) && not (is_some o)) ≡ true → lines_of (grammar_in st) ++ rule_line l rs ∷ [] ≡ (lines_of (grammar_in st) ++ open_lines o) ++ rule_line l rs ∷ []
    by None h = ap (λ ls. ls ++ rule_line l rs ∷ []) (sym (append-nil (lines_of (grammar_in st))))
    by (Some o) h = absurd (grind arith)
lines_more st (set_line e) a = by st.opened a
  where
    by : (o : Option Open) → is_some o ≡ true → lines_of (grammar_in st) ++ open_lines (option_map (add_to e) o) ≡ (lines_of (grammar_in st) ++ open_lines o) ++ set_line e ∷ []
    by None h = absurd (grind arith)
    by (Some o) h = ap (λ ls. lines_of (grammar_in st) ++ rule_line o.left o.right ∷ ls) (map_push set_line o.equations e) ∙ sym (append_assoc (lines_of (grammar_in st)) (open_lines (Some o)) (set_line e ∷ []))
lines_more st (plan_line is) a = by st.opened a
  where
    by : (o : Option Open) → is_some o ≡ true → (map symbol_line_of st.symbols ++ flat_map group_of (st.rules ++ closed is o)) ++ [] ≡ (lines_of (grammar_in st) ++ open_lines o) ++ plan_line is ∷ []
    by None h = absurd (grind arith)
    by (Some o) h =
        append-nil _
        ∙ sym (flat_map_more group_of (map symbol_line_of st.symbols) st.rules (record { left = o.left; right = o.right; equations = o.equations; plan = is }))
        ∙ sym (append_assoc (lines_of (grammar_in st)) (open_lines (Some o)) (plan_line is ∷ []))

-- no two equations are for one attribute
abbrev pub Apart : List Equation → Type 0
Apart es = (p q : ℕ) (e f : Equation) → slice_get es p ≡ Some e → slice_get es q ≡ Some f → e.occurrence ≡ f.occurrence → e.attribute ≡ f.attribute → p ≡ q

apart_push : (es : List Equation) (e : Equation) → Apart es → (TargetAt es e.occurrence e.attribute → ⊥) → Apart (es ++ e ∷ [])
apart_push es e h fresh p q f g sp sq oc at = by (nth_push es e p f sp) (nth_push es e q g sq)
  where
    by : (slice_get es p ≡ Some f) ⊎ ((p ≡ length es) × (e ≡ f)) → (slice_get es q ≡ Some g) ⊎ ((q ≡ length es) × (e ≡ g)) → p ≡ q
    by (inl a) (inl b) = h p q f g a b oc at
    by (inl a) (inr b) = absurd (fresh (record { place = p; equation = f; stands = a; occurrence_is = oc ∙ ap (λ x. x.occurrence) (sym b.1); attribute_is = at ∙ ap (λ x. x.attribute) (sym b.1) }))
    by (inr a) (inl b) = absurd (fresh (record { place = q; equation = g; stands = b; occurrence_is = sym oc ∙ ap (λ x. x.occurrence) (sym a.1); attribute_is = sym at ∙ ap (λ x. x.attribute) (sym a.1) }))
    by (inr a) (inr b) = a.0 ∙ sym b.0

-- the symbols and occurrences of the open rule
abbrev pub scope_here : List Symbol → Open → Scope
scope_here ss o = record { symbols = ss; occurrences = o.left ∷ o.right }

-- an open rule behind n rules
pub record SoundOpen (ss : List Symbol) (n : ℕ) (o : Open) : Type 0 where
  pub room : n < 64
  pub left_there : o.left < length ss
  pub few_right : length o.right ≤ 4
  pub right_there : AllByRecursion (λ x. x < length ss) o.right
  pub equations_sound : AllByRecursion (SoundEquation (scope_here ss o)) o.equations
  pub apart : Apart o.equations

abbrev pub OpenedSound : List Symbol → ℕ → Option Open → Type 0
OpenedSound ss n None = Unit {0}
OpenedSound ss n (Some o) = SoundOpen ss n o

abbrev pub open_sets : Option Open → ℕ
open_sets None = 0
open_sets (Some o) = length o.equations

-- what holds of every state that lines lead to
pub record Sofar (st : State) : Type 0 where
  pub few_symbols : length st.symbols ≤ 32
  pub symbols_sound : AllByRecursion SoundSymbol st.symbols
  pub start : (s : Symbol) → slice_get st.symbols 0 ≡ Some s → StartSymbol s
  pub few_rules : length st.rules ≤ 64
  pub rules_sound : AllByRecursion (SoundRule st.symbols) st.rules
  pub open_sound : OpenedSound st.symbols (length st.rules) st.opened
  pub sets_are : st.sets ≡ sets_in st.rules + open_sets st.opened
  pub few_sets : st.sets ≤ 512
  pub steps_are : st.steps ≡ instructions_in st.rules
  pub few_steps : st.steps ≤ 1024

pub sofar_nothing : Sofar nothing
sofar_nothing = record {
  few_symbols = omega arith;
  symbols_sound = tt;
  start = λ s e. absurd (grind arith);
  few_rules = omega arith;
  rules_sound = tt;
  open_sound = tt;
  sets_are = refl;
  few_sets = omega arith;
  steps_are = refl;
  few_steps = omega arith;
}

abbrev pub state : List Symbol → List Rule → Option Open → ℕ → ℕ → State
state ss rules o n k = record { symbols = ss; rules = rules; opened = o; sets = n; steps = k }

starts_push : (ss : List Symbol) (s : Symbol) → Starts ss s → ((t : Symbol) → slice_get ss 0 ≡ Some t → StartSymbol t) → (t : Symbol) → slice_get (ss ++ s ∷ []) 0 ≡ Some t → StartSymbol t
starts_push [] s b h t e = let is : s ≡ t = cc in subst StartSymbol is b
starts_push (x ∷ ss) s b h t e = h t e

keep_symbol : (ss : List Symbol) (n k : ℕ) (s : Symbol) → length s.attributes ≤ 16 → NextSymbol ss s → Sofar (state ss [] None n k) → Sofar (state (ss ++ s ∷ []) [] None n k)
keep_symbol ss n k s few c h = record {
  few_symbols = rw length_push (omega arith);
  symbols_sound = All-push SoundSymbol ss s h.symbols_sound (record { some_visit = c.some_visit; few_visits = c.few_visits; few_attributes = few; visits_there = c.visits_there });
  start = starts_push ss s c.begins h.start;
  few_rules = h.few_rules;
  rules_sound = tt;
  open_sound = tt;
  sets_are = h.sets_are;
  few_sets = h.few_sets;
  steps_are = h.steps_are;
  few_steps = h.few_steps;
}

keep_rule : (ss : List Symbol) (rules : List Rule) (n k l : ℕ) (rs : List ℕ) → length rs ≤ 4 → NextRule (length ss) (length rules) l rs → Sofar (state ss rules None n k) → Sofar (state ss rules (Some (record { left = l; right = rs; equations = [] })) n k)
keep_rule ss rules n k l rs few c h = record {
  few_symbols = h.few_symbols;
  symbols_sound = h.symbols_sound;
  start = h.start;
  few_rules = h.few_rules;
  rules_sound = h.rules_sound;
  open_sound = record { room = c.room; left_there = c.left_there; few_right = few; right_there = c.right_there; equations_sound = tt; apart = λ p q e f sp sq oc at. absurd (grind arith) };
  sets_are = h.sets_are;
  few_sets = h.few_sets;
  steps_are = h.steps_are;
  few_steps = h.few_steps;
}

keep_set : (ss : List Symbol) (rules : List Rule) (o : Open) (n k : ℕ) (e : Equation) → length e.arguments ≤ 3 → NextEquation (scope_here ss o) o.equations n e → Sofar (state ss rules (Some o) n k) → Sofar (state ss rules (Some (add_to e o)) (n + 1) k)
keep_set ss rules o n k e few c h = record {
  few_symbols = h.few_symbols;
  symbols_sound = h.symbols_sound;
  start = h.start;
  few_rules = h.few_rules;
  rules_sound = h.rules_sound;
  open_sound = record {
    room = h.open_sound.room;
    left_there = h.open_sound.left_there;
    few_right = h.open_sound.few_right;
    right_there = h.open_sound.right_there;
    equations_sound = All-push (SoundEquation (scope_here ss o)) o.equations e h.open_sound.equations_sound (record { small_function = c.small_function; few_arguments = few; target = (defines_decides (scope_here ss o) e.occurrence e.attribute).0 c.target; arguments_taken = c.arguments_taken });
    apart = apart_push o.equations e h.open_sound.apart c.fresh;
  };
  sets_are = let z : n ≡ sets_in rules + length o.equations = h.sets_are in omega (arith, length_push o.equations e);
  few_sets = omega arith;
  steps_are = h.steps_are;
  few_steps = h.few_steps;
}

-- a rule that is complete has exactly one equation for each attribute
one_from : (σ : Scope) (es : List Equation) → Apart es → Complete σ es → (o a : ℕ) → defines σ o a ≡ true → (q : ℕ) × OnlyEquation es q o a
one_from σ es apart all o a d =
    let t = all o a d in
    (t.place, record { equation = t.equation; stands = t.stands; occurrence_is = t.occurrence_is; attribute_is = t.attribute_is; only = λ p e s oc at. apart p t.place e t.equation s t.stands (oc ∙ sym t.occurrence_is) (at ∙ sym t.attribute_is) })

abbrev pub rule_with : List Instruction → Open → Rule
rule_with is o = record { left = o.left; right = o.right; equations = o.equations; plan = is }

keep_plan : (ss : List Symbol) (rules : List Rule) (o : Open) (n k : ℕ) (is : List Instruction) → NextPlan (scope_here ss o) o.equations k is → Sofar (state ss rules (Some o) n k) → Sofar (state ss (rules ++ rule_with is o ∷ []) None n (k + length is))
keep_plan ss rules o n k is c h = record {
  few_symbols = h.few_symbols;
  symbols_sound = h.symbols_sound;
  start = h.start;
  few_rules = let z = h.open_sound.room in rw length_push (omega arith);
  rules_sound = All-push (SoundRule ss) rules (rule_with is o) h.rules_sound (record {
    left_there = h.open_sound.left_there;
    few_right = h.open_sound.few_right;
    right_there = h.open_sound.right_there;
    equations_sound = h.open_sound.equations_sound;
    one_equation = λ p a d. one_from (scope_here ss o) o.equations h.open_sound.apart c.all_defined p a ((defines_decides (scope_here ss o) p a).1 d);
    instructions_there = c.instructions_there;
    planned = c.planned;
  });
  open_sound = tt;
  sets_are = let z : n ≡ sets_in rules + length o.equations = h.sets_are in omega (arith, sum_by_push (λ r. length r.equations) rules (rule_with is o));
  few_sets = h.few_sets;
  steps_are = let z : k ≡ instructions_in rules = h.steps_are in omega (arith, sum_by_push (λ r. length r.plan) rules (rule_with is o));
  few_steps = c.room;
}

-- a line that is taken keeps all that
pub keeps : (st : State) (l : Line) → Writable l → allowed st (kind l) ≡ true → fault_of st l ≡ None → Sofar st → Sofar (after st l)
keeps st (symbol_line v xs) w a e h = by st.rules st.opened a h
  where
    by : (rules : List Rule) (o : Option Open) → (is_empty rules && not (is_some o)) ≡ true → Sofar (state st.symbols rules o st.sets st.steps) → Sofar (state (st.symbols ++ record { visits = v; attributes = xs } ∷ []) rules o st.sets st.steps)
    by [] None b k = let s : Symbol = record { visits = v; attributes = xs } in keep_symbol st.symbols st.sets st.steps s w.1 (symbol_next st.symbols s e) k
    by [] (Some o) b k = absurd (grind arith)
    by (r ∷ rules) o b k = absurd (grind arith)
keeps st (rule_line l rs) w a e h = by st.opened a h
  where
    by : (o : Option Open) → (not (is_empty st.symbols) && not (is_some o)) ≡ true → Sofar (state st.symbols st.rules o st.sets st.steps) → Sofar (after st (rule_line l rs))
    by None b k = keep_rule st.symbols st.rules st.sets st.steps l rs w.1 (rule_next (length st.symbols) (length st.rules) l rs e) k
    by (Some o) b k = absurd (grind arith)
keeps st (set_line q) w a e h = by st.opened e h
  where
    by : (o : Option Open) → fault_of (state st.symbols st.rules o st.sets st.steps) (set_line q) ≡ None → Sofar (state st.symbols st.rules o st.sets st.steps) → Sofar (state st.symbols st.rules (option_map (add_to q) o) (st.sets + 1) st.steps)
    by None f k = absurd (grind arith)
    by (Some o) f k = keep_set st.symbols st.rules o st.sets st.steps q w.2 (set_next (scope_here st.symbols o) o.equations st.sets q f) k
keeps st (plan_line is) w a e h = by st.opened e h
  where
    by : (o : Option Open) → fault_of (state st.symbols st.rules o st.sets st.steps) (plan_line is) ≡ None → Sofar (state st.symbols st.rules o st.sets st.steps) → Sofar (state st.symbols (st.rules ++ closed is o) None st.sets (st.steps + length is))
    by None f k = absurd (grind arith)
    by (Some o) f k = keep_plan st.symbols st.rules o st.sets st.steps is (plan_next (scope_here st.symbols o) o.equations st.steps is f) k
