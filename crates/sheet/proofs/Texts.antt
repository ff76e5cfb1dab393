-- A text is judged a sheet just where it is lines that are taken one after another.
use Rattle.std.proofs.Common.{◌≡◌, ℕ, ◌+◌, ◌<◌, Bool, true, false, List, [], ◌∷◌, ◌++◌, length, sym, refl, ap, ◌∙◌, subst, append_assoc, arith}
use Rattle.std.specs.List.{flat_map}
use Rattle.std.proofs.lemmas.List.{append-nil}
use Rattle.words.specs.Cuts.{parts_at}
use Rattle.words.proofs.Parts.{parts_found, parts_some}
use Rattle.grammar.specs.Model.{Grammar}
use Rattle.lines.specs.LineKinds.{Line}
use Rattle.reader.specs.Steps.{State, Step, allowed, step}
use Rattle.reader.specs.Steps.Step.{next, stop}
use Rattle.reader.specs.Judgement.{judge_line, judge_from, if_allowed, go_on, end_with, whole}
use Rattle.reader.specs.Judgement.Outcome.{sheet}
use Rattle.sheet.specs.Writing.{write_line, ended}
use Rattle.sheet.proofs.Statements.{kind, Writable, ReadAs, Runs, TextOf, TextsGoBack, TextsCome}
use Rattle.sheet.proofs.Statements.Runs.{done, more}
use Rattle.sheet.proofs.Spacing.{joined_at, parts_join}
use Rattle.sheet.proofs.LineForms.{lines_go_back, lines_come, lines_lack_ends}

-- a line in front of what more lines are written as
ended_front : (l : Line) (rest : List ℕ) → ended l ++ rest ≡ write_line l ++ 10 ∷ rest
ended_front l rest = append_assoc (write_line l) (10 ∷ []) rest

-- one more line in front
text_more : (st st₁ : State) (p text : List ℕ) (g : Grammar) → ReadAs st p st₁ → TextOf st₁ text g → TextOf st (p ++ 10 ∷ text) g
text_more st st₁ p text g r t = record {
  lines = r.line ∷ t.lines;
  last = t.last;
  written = (λ i. r.written i ++ 10 ∷ t.written i) ∙ sym (ended_front r.line (flat_map ended t.lines));
  runs = more r.small r.key r.taken t.runs;
  ends = t.ends;
  is = t.is;
}

parts_go_back : (n : ℕ) (st : State) (ps : List (List ℕ)) (g : Grammar) → judge_from n st ps ≡ sheet g → TextOf st (joined_at 10 ps) g
parts_go_back n st [] g e = absurd (grind arith)
parts_go_back n st ([] ∷ []) g e = end (whole st) refl e
  where
    end : (b : Bool) → whole st ≡ b → end_with b n st ≡ sheet g → TextOf st [] g
    end false w q = absurd (grind arith)
    end true w q = record { lines = []; last = st; written = refl; runs = done; ends = w; is = (cc) }
parts_go_back n st ((b ∷ bs) ∷ []) g e = absurd (grind arith)
parts_go_back n st (p ∷ q ∷ ps) g e = line (judge_line st p) refl e (λ st₁ k. parts_go_back (n + 1) st₁ (q ∷ ps) g k)
  where
    line : (s : Step) → judge_line st p ≡ s → go_on n s (λ st₁. judge_from (n + 1) st₁ (q ∷ ps)) ≡ sheet g → ((st₁ : State) → judge_from (n + 1) st₁ (q ∷ ps) ≡ sheet g → TextOf st₁ (joined_at 10 (q ∷ ps)) g) → TextOf st (joined_at 10 (p ∷ q ∷ ps)) g
    line (stop r) j k f = absurd (grind arith)
    line (next st₁) j k f = text_more st st₁ p (joined_at 10 (q ∷ ps)) g (lines_go_back st p st₁ j) (f st₁ k)

pub texts_go_back : TextsGoBack
texts_go_back n st text g e = subst (λ t. TextOf st t g) (parts_join 10 text) (parts_go_back n st (parts_at 10 text) g e)

judge_more : (n : ℕ) (st : State) (p : List ℕ) (ps : List (List ℕ)) → 0 < length ps → judge_from n st (p ∷ ps) ≡ go_on n (judge_line st p) (λ st₁. judge_from (n + 1) st₁ ps)
judge_more n st p [] h = absurd (omega arith)
judge_more n st p (q ∷ ps) h = refl

-- a line that is taken leaves the text behind it to be judged from there
line_front : (n : ℕ) (st : State) (l : Line) (st₁ : State) (rest : List ℕ) → Writable l → allowed st (kind l) ≡ true → step st l ≡ next st₁ → judge_from n st (parts_at 10 (ended l ++ rest)) ≡ judge_from (n + 1) st₁ (parts_at 10 rest)
line_front n st l st₁ rest s a t =
    ap (λ x. judge_from n st (parts_at 10 x)) (ended_front l rest)
    ∙ ap (judge_from n st) (parts_found 10 (write_line l) rest (lines_lack_ends l s))
    ∙ judge_more n st (write_line l) (parts_at 10 rest) (parts_some 10 rest)
    ∙ ap (λ x. go_on n x (λ st₂. judge_from (n + 1) st₂ (parts_at 10 rest))) (lines_come st l s ∙ ap (λ b. if_allowed b (step st l)) a ∙ t)

-- lines that are taken in front of a text leave the text to be judged from there
pub texts_front : (n : ℕ) (st : State) (ls : List Line) (st' : State) (rest : List ℕ) → Runs st ls st' → judge_from n st (parts_at 10 (flat_map ended ls ++ rest)) ≡ judge_from (n + length ls) st' (parts_at 10 rest)
texts_front n st _ _ rest done = let z : n ≡ n + 0 = omega arith in ap (λ m. judge_from m st (parts_at 10 rest)) z
texts_front n st _ st' rest (more {st₁ = st₁} {l = l} {ls = ls} s a t r) =
    let z : (n + 1) + length ls ≡ n + length (l ∷ ls) = omega arith in
    ap (λ x. judge_from n st (parts_at 10 x)) (append_assoc (ended l) (flat_map ended ls) rest)
    ∙ line_front n st l st₁ (flat_map ended ls ++ rest) s a t
    ∙ texts_front (n + 1) st₁ ls st' rest r
    ∙ ap (λ m. judge_from m st' (parts_at 10 rest)) z

pub texts_come : TextsCome
texts_come n st ls last r w =
    ap (λ x. judge_from n st (parts_at 10 x)) (sym (append-nil (flat_map ended ls)))
    ∙ texts_front n st ls last [] r
    ∙ ap (λ b. end_with b (n + length ls) last) w
