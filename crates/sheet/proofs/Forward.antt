-- A text that is judged a sheet is the writing of a grammar that meets every rule.
use Rattle.std.proofs.Common.{◌≡◌, ℕ, ◌≤◌, Bool, true, false, not, ◌&&◌, leb, List, [], ◌∷◌, ◌++◌, length, is_some, Some, None, Option, sym, refl, ap, ◌∙◌, subst, append_assoc, arith}
use Rattle.std.specs.List.{flat_map, AllByRecursion}
use Rattle.std.proofs.lemmas.List.{append-nil}
use Rattle.std.proofs.lemmas.Bool.{and_parts, leb-true}
use Rattle.grammar.specs.Model.{Symbol, Rule, Grammar}
use Rattle.grammar.specs.declared.refusal.Refusal.{Refusal}
use Rattle.lines.specs.LineKinds.{Line}
use Rattle.reader.specs.Steps.{Open, State, nothing, is_empty, fault_of, after, unless_fault, step}
use Rattle.reader.specs.Steps.Step.{next}
use Rattle.reader.specs.Judgement.{judge, of_length, long_enough, whole}
use Rattle.reader.specs.Judgement.Outcome.{sheet}
use Rattle.sheet.specs.Writing.{ended, lines_of}
use Rattle.sheet.specs.Meaning.{SoundRule, Sound, SheetOf}
use Rattle.sheet.proofs.Statements.{Runs}
use Rattle.sheet.proofs.Statements.Runs.{done, more}
use Rattle.sheet.proofs.Texts.{texts_go_back}
use Rattle.sheet.proofs.Sofar.{grammar_in, open_lines, lines_in, lines_more, Sofar, sofar_nothing, keeps}

-- a line that was taken has no fault, and is added
step_next : (st : State) (l : Line) (st₁ : State) → step st l ≡ next st₁ → (fault_of st l ≡ None) × (after st l ≡ st₁)
step_next st l st₁ e = by (fault_of st l) e
  where
    by : (o : Option Refusal) → unless_fault o (after st l) ≡ next st₁ → (o ≡ None) × (after st l ≡ st₁)
    by None q = (refl, (cc))
    by (Some r) q = absurd (grind arith)

-- lines that are taken one after another keep what holds so far, and are the lines that were read
pub runs_keep : (st : State) (ls : List Line) (st' : State) → Runs st ls st' → Sofar st → Sofar st' × (lines_in st' ≡ lines_in st ++ ls)
runs_keep st _ _ done h = (h, sym (append-nil (lines_in st)))
runs_keep st _ st' (more {st₁ = st₁} {l = l} {ls = ls} w a t r) h =
    let s = step_next st l st₁ t in
    let k = runs_keep st₁ ls st' r (subst Sofar s.1 (keeps st l w a s.0 h)) in
    let m = subst (λ x. lines_in x ≡ lines_in st ++ l ∷ []) s.1 (lines_more st l a) in
    (k.0, k.1 ∙ ap (λ x. x ++ ls) m ∙ append_assoc (lines_in st) (l ∷ []) ls)

-- what is whole has a rule, and none is open
whole_is : (st : State) → whole st ≡ true → (1 ≤ length st.rules) × (st.opened ≡ None)
whole_is st h = by st.rules st.opened h
  where
    by : (rules : List Rule) (o : Option Open) → (not (is_empty rules) && not (is_some o)) ≡ true → (1 ≤ length rules) × (o ≡ None)
    by [] o k = absurd (grind arith)
    by (r ∷ rules) None k = (omega arith, refl)
    by (r ∷ rules) (Some o) k = absurd (grind arith)

-- where a rule is there, so is its left symbol
some_symbol : (ss : List Symbol) (rules : List Rule) → 1 ≤ length rules → AllByRecursion (SoundRule ss) rules → 1 ≤ length ss
some_symbol ss [] h k = absurd (omega arith)
some_symbol ss (r ∷ rules) h k = let l = k.0.left_there in omega arith

whole_sound : (st : State) → Sofar st → whole st ≡ true → Sound (grammar_in st)
whole_sound st h w =
    let r = (whole_is st w).0 in
    record {
      some_symbol = some_symbol st.symbols st.rules r h.rules_sound;
      few_symbols = h.few_symbols;
      symbols_sound = h.symbols_sound;
      start = h.start;
      some_rule = r;
      few_rules = h.few_rules;
      rules_sound = h.rules_sound;
      few_sets = omega arith;
      few_instructions = omega arith;
    }

pub judged_sheet : (text : List ℕ) (g : Grammar) → judge text ≡ sheet g → SheetOf text g
judged_sheet text g e = by (long_enough (length text)) refl e
  where
    by : (b : Bool) → long_enough (length text) ≡ b → of_length b text ≡ sheet g → SheetOf text g
    by false l q = absurd (grind arith)
    by true l q =
        let p = and_parts (leb 1 (length text)) (leb (length text) 32768) l in
        let t = texts_go_back 1 nothing text g q in
        let k = runs_keep nothing t.lines t.last t.runs sofar_nothing in
        let lines : lines_of (grammar_in t.last) ≡ t.lines = sym (append-nil _) ∙ ap (λ o. lines_of (grammar_in t.last) ++ open_lines o) (sym (whole_is t.last t.ends).1) ∙ k.1 in
        subst (SheetOf text) (sym t.is) (record {
          written = t.written ∙ ap (flat_map ended) (sym lines);
          some_text = leb-true 1 (length text) p.0;
          short_text = leb-true (length text) 32768 p.1;
          sound = whole_sound t.last k.0 t.ends;
        })
