-- The words of a verdict: how much a sheet that was accepted holds, or the fault of a text that was refused.
use Rattle.std.specs.Prelude.{◌≡◌, ℕ, Bool, true, false, List, [], ◌∷◌, ◌++◌, Ok, Err, Result, codes, decimal}
use Rattle.grammar.specs.Model.{Grammar}
use Rattle.grammar.specs.Refusals.{refusal_number}
use Rattle.grammar.specs.Sentences.{refusal_sentence}
use Rattle.reader.specs.Judgement.{Outcome}
use Rattle.reader.specs.Judgement.Outcome.{sheet, fault}
use Rattle.reader.specs.FaultText.{fault_text}
use Rattle.reader.specs.declared.fault.Fault.{Fault}
use Rattle.sheet.specs.Answers.{Counted}
use Rattle.sheet.specs.CountsText.{counts_text}
use Rattle.sheet.specs.Kept.{empty}
use Rattle.sheet.specs.declared.counts.Counts.{Counts}

-- a verdict says what the text was judged
abbrev pub Says : Result Counts Fault → Outcome → Type 0
Says (Ok c) (sheet g) = Counted c g
Says (Ok c) (fault f) = ⊥
Says (Err f) (sheet g) = ⊥
Says (Err f) (fault e) = f ≡ e

-- what the sheet holds then
abbrev pub Kept : Outcome → Grammar → Type 0
Kept (sheet g) h = h ≡ g
Kept (fault f) h = h ≡ empty

abbrev pub accepted_in : Result Counts Fault → Bool
accepted_in (Ok c) = true
accepted_in (Err f) = false

abbrev pub head_text : Result Counts Fault → List ℕ
head_text (Ok c) = codes "accepted"
head_text (Err f) = codes "refused=" ++ decimal (refusal_number f.refusal)

abbrev pub detail_text : Result Counts Fault → List ℕ
detail_text (Ok c) = counts_text c
detail_text (Err f) = fault_text f

-- one plain sentence about a refusal
abbrev pub sentence_text : Result Counts Fault → List ℕ
sentence_text (Ok c) = []
sentence_text (Err f) = refusal_sentence f.refusal

-- all that is printed: a line each
abbrev pub account_text : Result Counts Fault → List ℕ
account_text (Ok c) = head_text (Ok c) ++ 10 ∷ (detail_text (Ok c) ++ 10 ∷ [])
account_text (Err f) = head_text (Err f) ++ 10 ∷ (detail_text (Err f) ++ 10 ∷ (sentence_text (Err f) ++ 10 ∷ []))
