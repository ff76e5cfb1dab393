-- A sheet holds what was accepted, or nothing.
use Rattle.std.proofs.Common.{◌≡◌, ℕ, ◌⊎◌, List, Ok, Err, Result, sym, refl, ap, ◌∙◌, inl, inr, arith}
use Rattle.grammar.specs.Model.{Grammar}
use Rattle.reader.specs.Judgement.{Outcome, judge, grammar_in}
use Rattle.reader.specs.Judgement.Outcome.{sheet, fault}
use Rattle.reader.specs.Views.{state_of, Answered}
use Rattle.reader.specs.declared.fault.Fault.{Fault}
use Rattle.reader.specs.declared.tables.Tables.{Tables}
use Rattle.sheet.specs.Answers.{Judged, Means}
use Rattle.sheet.specs.Kept.{empty, grammar_from, read_back}
use Rattle.sheet.specs.Meaning.{SheetOf, Acceptance}
use Rattle.sheet.specs.Writing.{write}
use Rattle.sheet.proofs.Forward.{judged_sheet}
use Rattle.sheet.proofs.Backward.{sheet_judged}
use Rattle.sheet.proofs.Refusals.{plan_refused}

pub acceptance : Acceptance
acceptance text g = (judged_sheet text g, sheet_judged text g)

-- what reading leaves reads back as itself
pub keeps_accepted : (r : Result (Unit {0}) Fault) (text : List ℕ) (t : Tables) → Answered r (judge text) t → read_back (grammar_in (state_of t)) ≡ grammar_in (state_of t)
keeps_accepted (Ok u) text t h =
    let s = (acceptance text (grammar_in (state_of t))).0 h.0 in
    ap (λ l. grammar_from (judge l)) (sym s.written) ∙ ap grammar_from h.0
keeps_accepted (Err f) text t h = ap (λ st. read_back (grammar_in st)) h.1 ∙ sym (ap grammar_in h.1)

pub judged : (r : Result (Unit {0}) Fault) (text : List ℕ) (t : Tables) → Answered r (judge text) t → Judged r (judge text) (grammar_in (state_of t))
judged (Ok u) text t h = h.0
judged (Err f) text t h = (h.0, ap grammar_in h.1)

never_both : (o : Outcome) (f : Fault) (g : Grammar) → o ≡ fault f → o ≡ sheet g → ⊥
never_both o f g e k = let z : ◌≡◌ {A = ℕ} 0 1 = cc in omega arith

pub means : (r : Result (Unit {0}) Fault) (text : List ℕ) (t : Tables) → Answered r (judge text) t → Means r text (grammar_in (state_of t))
means (Ok u) text t h = (acceptance text (grammar_in (state_of t))).0 h.0
means (Err f) text t h = (
  (λ g s. never_both (judge text) f g h.0 ((acceptance text g).1 s)),
  (λ p e. plan_refused text p f.line (h.0 ∙ ap (λ x. fault (record { refusal = x; line = f.line })) e)),
)

-- a grammar that reads back as itself is empty, or its writing is a sheet of it
pub empty_or_sheet : (g : Grammar) → read_back g ≡ g → (g ≡ empty) ⊎ SheetOf (write g) g
empty_or_sheet g h = by (judge (write g)) refl h
  where
    by : (o : Outcome) → judge (write g) ≡ o → grammar_from o ≡ g → (g ≡ empty) ⊎ SheetOf (write g) g
    by (sheet k) e same = inr ((acceptance (write g) g).0 (e ∙ ap sheet same))
    by (fault f) e same = inl (sym same)
