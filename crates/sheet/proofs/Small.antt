-- The numbers in the lines of a sound grammar are small enough to be written.
use Rattle.std.proofs.Common.{◌≡◌, ℕ, ◌<◌, ◌≤◌, List, length, Some, None, Option, refl, arith}
use Rattle.std.specs.List.{AllByRecursion, slice_get}
use Rattle.std.proofs.ByRecursion.{All-weaker}
use Rattle.grammar.specs.Model.{Symbol, Equation}
use Rattle.grammar.specs.Scopes.{Scope, visits_in, symbol_at, visits_at, attribute_at}
use Rattle.grammar.specs.declared.terms.Attribute.{Attribute}
use Rattle.grammar.specs.declared.terms.Argument.{Argument}
use Rattle.grammar.specs.declared.terms.Argument.TheVariants.{Datum, Of}
use Rattle.grammar.specs.declared.terms.Instruction.{Instruction}
use Rattle.grammar.specs.declared.terms.Instruction.TheVariants.{Evaluate, Visit, Return}
use Rattle.lines.specs.LineKinds.Line.{symbol_line, rule_line, set_line, plan_line}
use Rattle.plans.proofs.Attributes.{defines_decides}
use Rattle.sheet.specs.Meaning.{SoundSymbol, Taken, SoundEquation, There}
use Rattle.sheet.proofs.Statements.{SmallArgument, SmallInstruction, Writable}
use Rattle.std.proofs.lemmas.Option.{slice_get_within}
use Rattle.sheet.proofs.Places.{all_nth}
use Rattle.sheet.proofs.Deciding.{is_some, then_some, defined_there, taken_there, placed}

pub symbol_small : (s : Symbol) → SoundSymbol s → Writable (symbol_line s.visits s.attributes)
symbol_small s h =
    (omega arith, h.few_attributes, All-weaker (λ x. (1 ≤ x.visit) × (x.visit ≤ s.visits)) (λ x. x.visit < 1000) (λ x k. omega arith) s.attributes h.visits_there)

pub rule_small : (n l : ℕ) (rs : List ℕ) → n ≤ 32 → l < n → length rs ≤ 4 → AllByRecursion (λ x. x < n) rs → Writable (rule_line l rs)
rule_small n l rs few h long k = (omega arith, long, All-weaker (λ x. x < n) (λ x. x < 1000) (λ x m. omega arith) rs k)

-- at most five occurrences of symbols that are sound
module _ (σ : Scope) (sound : AllByRecursion SoundSymbol σ.symbols) (few : length σ.occurrences ≤ 5) where
  attribute_small : (o a : ℕ) (x : Attribute) → attribute_at σ o a ≡ Some x → (o < 1000) × (a < 1000)
  attribute_small o a x e =
      let p = placed σ o a x e in
      let s = all_nth SoundSymbol σ.symbols p.number p.symbol sound p.names in
      let k = slice_get_within σ.occurrences o p.number p.occurs in
      let l = slice_get_within p.symbol.attributes a x p.has in
      (omega arith, omega arith)

  visit_small : (o j : ℕ) → 1 ≤ j → j ≤ visits_at σ o → (o < 1000) × (j < 1000)
  visit_small o j h k = by (symbol_at σ o) refl k
    where
      by : (s : Option Symbol) → symbol_at σ o ≡ s → j ≤ visits_in s → (o < 1000) × (j < 1000)
      by None e l = absurd (omega arith)
      by (Some s) e l =
          let p = then_some (slice_get σ.occurrences o) (λ y. slice_get σ.symbols y) s e in
          let q = all_nth SoundSymbol σ.symbols p.0 s sound p.2 in
          let m = slice_get_within σ.occurrences o p.0 p.1 in
          (omega arith, omega arith)

  argument_small : (x : Argument) → Taken σ x → SmallArgument x
  argument_small Datum h = tt
  argument_small (Of o a) h = let s = is_some (attribute_at σ o a) (taken_there σ (Of o a) h) in attribute_small o a s.0 s.1

  pub equation_small : (e : Equation) → SoundEquation σ e → Writable (set_line e)
  equation_small e h =
      let s = is_some (attribute_at σ e.occurrence e.attribute) (defined_there σ e.occurrence e.attribute ((defines_decides σ e.occurrence e.attribute).1 h.target)) in
      (attribute_small e.occurrence e.attribute s.0 s.1, omega arith, h.few_arguments, All-weaker (Taken σ) SmallArgument argument_small e.arguments h.arguments_taken)

  instruction_small : (x : Instruction) → There σ x → SmallInstruction x
  instruction_small (Evaluate o a) h = attribute_small o a h.0 h.1
  instruction_small (Visit k j) h = visit_small k j h.1 h.2
  instruction_small (Return j) h = (visit_small 0 j h.0 h.1).1

  pub plan_small : (is : List Instruction) → 0 < length is → AllByRecursion (There σ) is → Writable (plan_line is)
  plan_small is some h = (some, All-weaker (There σ) SmallInstruction instruction_small is h)
