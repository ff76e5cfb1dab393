-- The words of a plan that were read so far.
use Rattle.std.proofs.Common.{◌≡◌, ◌+◌, ◌<◌, ◌≤◌, List, [], ◌∷◌, ◌++◌, length, Some, Ok, Err, Result, sym, refl, ap, ◌∙◌, subst, append_assoc, arith, length-append}
use Rattle.std.proofs.lemmas.List.{length_push}
use Rattle.words.specs.Tokens.{Token}
use Rattle.grammar.specs.Forms.{all_of, instruction_word}
use Rattle.grammar.specs.declared.terms.Instruction.{Instruction}
use Rattle.grammar.specs.declared.refusal.Refusal.{Refusal}
use Rattle.grammar.specs.declared.refusal.Refusal.TheVariants.{Range}
use Rattle.grammar.proofs.Taking.{Sofar, sofar_more, sofar_done}
use Rattle.reader.specs.PlanTable.{PlanRead}

-- the table has all that was read, or it is full and more has come
abbrev pub Held : List Instruction → List Instruction → List Instruction → Result (Unit {0}) Refusal → Type 0
Held was now seen (Ok u) = (now ≡ was ++ seen) × (length now ≤ 1024)
Held was now seen (Err e) = (e ≡ Range) × (1024 < length was + length seen) × (1024 ≤ length now)

-- ws are the words that are left; the table was `was` and is `now`, with all that was read, or full
pub record PlannedSoFar (all ws : List Token) (was now : List Instruction) (fits : Result (Unit {0}) Refusal) : Type 0 where
  pub seen : List Instruction
  pub sofar : Sofar instruction_word all seen ws
  pub held : Held was now seen fits

pub one_pushed : (all ls : List Token) (was now after : List Instruction) (fits : Result (Unit {0}) Refusal) (w : Token) (ws : List Token) (x : Instruction) → PlannedSoFar all ls was now fits → ls ≡ w ∷ ws → Some x ≡ instruction_word w → length now < 1024 → after ≡ now ++ x ∷ [] → PlannedSoFar all ws was after fits
one_pushed all ls was now after fits w ws x h e is few more = record { seen = h.seen ++ x ∷ []; sofar = sofar_more instruction_word all h.seen ls w ws x h.sofar e is; held = by fits h.held }
  where
    by : (t : Result (Unit {0}) Refusal) → Held was now h.seen t → Held was after (h.seen ++ x ∷ []) t
    by (Err r) k = absurd (omega (arith, k.2))
    by (Ok u) k = (more ∙ ap (λ l. l ++ x ∷ []) k.0 ∙ append_assoc was h.seen (x ∷ []), omega (arith, ap length more ∙ length_push now x))

pub one_over : (all ls : List Token) (was now : List Instruction) (fits : Result (Unit {0}) Refusal) (w : Token) (ws : List Token) (x : Instruction) → PlannedSoFar all ls was now fits → ls ≡ w ∷ ws → Some x ≡ instruction_word w → 1024 ≤ length now → PlannedSoFar all ws was now (Err Range)
one_over all ls was now fits w ws x h e is full = record { seen = h.seen ++ x ∷ []; sofar = sofar_more instruction_word all h.seen ls w ws x h.sofar e is; held = by fits h.held }
  where
    by : (t : Result (Unit {0}) Refusal) → Held was now h.seen t → Held was now (h.seen ++ x ∷ []) (Err Range)
    by (Err r) k = (refl, omega (arith, length_push h.seen x, k.1), full)
    by (Ok u) k = (refl, omega (arith, length_push h.seen x, ap length k.0 ∙ length-append was h.seen), full)

pub read_all : (all ls : List Token) (was now : List Instruction) (fits : Result (Unit {0}) Refusal) → PlannedSoFar all ls was now fits → ls ≡ [] → PlanRead fits (all_of instruction_word all) was now
read_all all ls was now fits h e = subst (λ o. PlanRead fits o was now) (sym (sofar_done instruction_word all h.seen ls h.sofar e)) (by fits h.held)
  where
    by : (t : Result (Unit {0}) Refusal) → Held was now h.seen t → PlanRead t (Some h.seen) was now
    by (Ok u) k = (k.0, omega (arith, ap length k.0 ∙ length-append was h.seen, k.1))
    by (Err r) k = (k.0, k.1)
