-- What one line after another keeps.
use Rattle.std.proofs.Common.{◌≡◌, ℕ, suc, ◌+◌, ◌<◌, ◌≤◌, Bool, true, false, ◌&&◌, cond, eqb, List, [], ◌∷◌, length, Some, None, Ok, Err, Option, Result, sym, refl, ap, ◌∙◌, arith}
use Rattle.std.specs.Prelude.{MatchResult}
use Rattle.std.specs.Result.{result_err, IsErrAnd}
use Rattle.std.proofs.lemmas.Bool.{and_parts, ne_eqb}
use Rattle.words.specs.Cuts.{Halves, cut_at, parts_at}
use Rattle.words.specs.Left.{left, KeyedLine}
use Rattle.words.specs.Tokens.{Keyed, token_of}
use Rattle.words.specs.declared.Line.{Line}
use Rattle.words.proofs.Parts.{parts_cut, parts_last, parts_some}
use Rattle.grammar.specs.declared.refusal.Refusal.{Refusal}
use Rattle.grammar.specs.declared.refusal.Refusal.TheVariants.{LineForm}
use Rattle.reader.specs.Judgement.{fault_at, on_token, on_keyed, judge_line, judge_from, go_on, at_end, end_with, whole}
use Rattle.reader.specs.Judgement.Outcome.{fault}
use Rattle.reader.specs.Steps.{State, Step}
use Rattle.reader.specs.Views.{state_of, Stepped, LineRead, TextRead}
use Rattle.reader.specs.declared.fault.Fault.{Fault}
use Rattle.reader.specs.declared.tables.Tables.{Tables}
use Rattle.reader.specs.Steps.Step.{next, stop}

-- a line's key and words are judged as the line
pub keyed : (st : State) (o : Option Keyed) (l : Line) (n : ℕ) → KeyedLine l n o → (on_token st (token_of l.key.word) (left l.words) ≡ on_keyed st o) × (l.key.line ≡ n)
keyed st None l n k = absurd k
keyed st (Some h) l n k = ((λ i. on_token st (k.0 i) (k.1 i)), k.2)

-- what a line answers, where a refusal of its words got its number
pub answered : (t : Tables) (s : Step) (r : Result (Unit {0}) Refusal) (q : Result (Unit {0}) Fault) (m n : ℕ) (Told : Refusal → Fault → Type 0) → MatchResult r (λ x. q ≡ Ok x) (λ e. IsErrAnd q (Told e)) → ((e : Refusal) (f : Fault) → Told e f → f ≡ record { refusal = e; line = m }) → m ≡ n → Stepped r s t → LineRead q s n t
answered t s (Ok x) (Ok y) m n Told h told is k = k
answered t s (Ok x) (Err f) m n Told h told is k = absurd (grind arith)
answered t s (Err e) (Ok y) m n Told h told is k = absurd h
answered t s (Err e) (Err f) m n Told h told is k = let same = told e f h in (k ∙ ap (λ g. stop g.refusal) (sym same), ap (λ g. g.line) same ∙ is)

-- line n comes next, st was read from the lines before it, which began at state st₀, and rest is to come
pub record ReadSoFar (text : List ℕ) (st₀ : State) (n : ℕ) (st : State) (rest : List ℕ) : Type 0 where
  pub reads : judge_from n st (parts_at 10 rest) ≡ judge_from 1 st₀ (parts_at 10 text)
  pub counts : n + length rest ≤ length text + 1

line_step : (n : ℕ) (st : State) (rest : List ℕ) (h : Halves) → cut_at 10 rest ≡ Some h → judge_from n st (parts_at 10 rest) ≡ go_on n (judge_line st h.before) (λ s. judge_from (n + 1) s (parts_at 10 h.after))
line_step n st rest h e = ap (judge_from n st) (parts_cut 10 rest h e) ∙ go (parts_at 10 h.after) (parts_some 10 h.after)
  where
    go : (ps : List (List ℕ)) → 0 < length ps → judge_from n st (h.before ∷ ps) ≡ go_on n (judge_line st h.before) (λ s. judge_from (n + 1) s ps)
    go [] k = absurd (omega arith)
    go (q ∷ ps) k = refl

pub one_more : (text : List ℕ) (st₀ : State) (n : ℕ) (st : State) (rest : List ℕ) (h : Halves) (st' : State) → ReadSoFar text st₀ n st rest → cut_at 10 rest ≡ Some h → length h.after < length rest → judge_line st h.before ≡ next st' → ReadSoFar text st₀ (n + 1) st' h.after
one_more text st₀ n st rest h st' r e less is = record {
  reads = sym (line_step n st rest h e ∙ ap (λ s. go_on n s (λ z. judge_from (n + 1) z (parts_at 10 h.after))) is) ∙ r.reads;
  counts = omega (arith, r.counts);
}

pub refused_line : (text : List ℕ) (st₀ : State) (n : ℕ) (st : State) (rest : List ℕ) (h : Halves) (x : Refusal) → ReadSoFar text st₀ n st rest → cut_at 10 rest ≡ Some h → judge_line st h.before ≡ stop x → judge_from 1 st₀ (parts_at 10 text) ≡ fault_at n x
refused_line text st₀ n st rest h x r e is = sym r.reads ∙ line_step n st rest h e ∙ ap (λ s. go_on n s (λ z. judge_from (n + 1) z (parts_at 10 h.after))) is

at_last : (text : List ℕ) (st₀ : State) (n : ℕ) (st : State) (rest : List ℕ) → ReadSoFar text st₀ n st rest → cut_at 10 rest ≡ None → judge_from 1 st₀ (parts_at 10 text) ≡ at_end n st rest
at_last text st₀ n st rest r e = sym r.reads ∙ ap (judge_from n st) (parts_last 10 rest e)

-- the text ends, if nothing is left and the sheet may end there
at_end_told : (n : ℕ) (st : State) (rest : List ℕ) → at_end n st rest ≡ end_with (eqb (length rest) 0 && whole st) n st
at_end_told n st [] = refl
at_end_told n st (b ∷ bs) = ap (λ t. end_with (t && whole st) n st) (sym (ne_eqb (suc (length bs)) 0 (λ e. omega arith)))

pub text_ended : (text : List ℕ) (st₀ : State) (n : ℕ) (t : Tables) (rest : List ℕ) (b : Bool) (r : Result (Unit {0}) Fault) → ReadSoFar text st₀ n (state_of t) rest → cut_at 10 rest ≡ None → b ≡ (eqb (length rest) 0 && whole (state_of t)) → result_err r ≡ cond b None (Some (record { refusal = LineForm; line = n })) → TextRead r (judge_from 1 st₀ (parts_at 10 text)) t
text_ended text st₀ n t rest b r so e is said = by b r is said (at_last text st₀ n (state_of t) rest so e ∙ at_end_told n (state_of t) rest ∙ ap (λ x. end_with x n (state_of t)) (sym is))
  where
    by : (b : Bool) (r : Result (Unit {0}) Fault) → b ≡ (eqb (length rest) 0 && whole (state_of t)) → result_err r ≡ cond b None (Some (record { refusal = LineForm; line = n })) → judge_from 1 st₀ (parts_at 10 text) ≡ end_with b n (state_of t) → TextRead r (judge_from 1 st₀ (parts_at 10 text)) t
    by true (Ok u) is said j = (j, (and_parts _ _ (sym is)).1)
    by true (Err f) is said j = absurd (grind arith)
    by false (Ok u) is said j = absurd (grind arith)
    by false (Err f) is said j = let same : f ≡ record { refusal = LineForm; line = n } = cc in j ∙ ap fault (sym same)
