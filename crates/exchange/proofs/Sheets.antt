-- What is known of an accepted sheet.
use Rattle.std.proofs.Common.{◌≡◌, ℕ, zero, suc, ◌<◌, ◌≤◌, Bool, true, false, ltb, ◌⊎◌, List, [], ◌∷◌, length, get_or, Some, None, Option, refl, ap, ◌∙◌, inl, inr, arith, ltb-false, ltb-true}
use Rattle.std.specs.List.{slice_get}
use Rattle.std.proofs.ByRecursion.{All-get_or}
use Rattle.std.proofs.lemmas.List.{get_or_past}
use Rattle.grammar.specs.Model.{Symbol, Equation, Rule, Grammar}
use Rattle.grammar.specs.Tests.{and_then}
use Rattle.grammar.specs.Scopes.{symbol_at, attribute_at, Defined, defined_flow}
use Rattle.grammar.specs.declared.terms.Attribute.{Attribute}
use Rattle.grammar.specs.declared.terms.Flow.{Flow}
use Rattle.sheet.specs.Answers.{grammar_of}
use Rattle.sheet.specs.Kept.{empty}
use Rattle.sheet.specs.Meaning.{Sound, SoundSymbol, SoundRule, SoundEquation, SheetOf, scope_of_rule}
use Rattle.sheet.specs.Writing.{write}
use Rattle.sheet.specs.declared.kept.Sheet.{Sheet}
use Rattle.sheet.proofs.Keeping.{empty_or_sheet}
use Rattle.tour.specs.Rules.{rule, symbol, occurs, no_rule, no_symbol, no_attribute}

-- a sheet with some rule was accepted
pub sound_sheet : (s : Sheet) (r : ℕ) → r < length (grammar_of s).rules → Sound (grammar_of s)
sound_sheet s r h = by (empty_or_sheet (grammar_of s) s.accepted)
  where
    by : (grammar_of s ≡ empty) ⊎ SheetOf (write (grammar_of s)) (grammar_of s) → Sound (grammar_of s)
    by (inl e) = let z : length (grammar_of s).rules ≡ 0 = ap (λ g. length g.rules) e in absurd (omega arith)
    by (inr k) = k.sound

pub rule_sound : (g : Grammar) (r : ℕ) → Sound g → r < length g.rules → SoundRule g.symbols (rule g r)
rule_sound g r s h = All-get_or (SoundRule g.symbols) g.rules r no_rule h s.rules_sound

pub equation_sound : (g : Grammar) (r i : ℕ) (e : Equation) → Sound g → r < length g.rules → i < length (rule g r).equations → SoundEquation (scope_of_rule g.symbols (rule g r)) (get_or (rule g r).equations i e)
equation_sound g r i e s h l = All-get_or (SoundEquation (scope_of_rule g.symbols (rule g r))) (rule g r).equations i e l (rule_sound g r s h).equations_sound

pub few_attributes : (g : Grammar) (x : ℕ) → Sound g → length (symbol g x).attributes ≤ 16
few_attributes g x s = by (ltb x (length g.symbols)) refl
  where
    by : (b : Bool) → ltb x (length g.symbols) ≡ b → length (symbol g x).attributes ≤ 16
    by true h = (All-get_or SoundSymbol g.symbols x no_symbol (ltb-true x (length g.symbols) h) s.symbols_sound).few_attributes
    by false h = let z : length (symbol g x).attributes ≡ 0 = ap (λ y. length y.attributes) (get_or_past g.symbols x no_symbol (ltb-false x (length g.symbols) h)) in omega arith

-- attribute a of occurrence o is there, and of that flow
pub record Standing (g : Grammar) (ρ : Rule) (o a : ℕ) (f : Flow) : Type 0 where
  pub occurrence : o ≤ length ρ.right
  pub attribute : a < length (symbol g (occurs ρ o)).attributes
  pub flows : (get_or (symbol g (occurs ρ o)).attributes a no_attribute).flow ≡ f

pub nth_within : {X : Type 0} (xs : List X) (i : ℕ) (x : X) → slice_get xs i ≡ Some x → i < length xs
nth_within [] i x e = let z : ◌≡◌ {A = ℕ} 0 1 = cc in absurd (omega arith)
nth_within (y ∷ ys) zero x e = omega arith
nth_within (y ∷ ys) (suc i) x e = let h = nth_within ys i x e in omega arith

pub nth_is : {X : Type 0} (xs : List X) (i : ℕ) (x d : X) → slice_get xs i ≡ Some x → get_or xs i d ≡ x
nth_is [] i x d e = let z : ◌≡◌ {A = ℕ} 0 1 = cc in absurd (omega arith)
nth_is (y ∷ ys) zero x d e = cc
nth_is (y ∷ ys) (suc i) x d e = nth_is ys i x d e

then_some : {X Y : Type 0} (m : Option X) (f : X → Option Y) (y : Y) → and_then m f ≡ Some y → (x : X) × (m ≡ Some x) × (f x ≡ Some y)
then_some None f y e = let z : ◌≡◌ {A = ℕ} 0 1 = cc in absurd (omega arith)
then_some (Some x) f y e = (x, refl, e)

pub standing : (g : Grammar) (ρ : Rule) (o a j : ℕ) (f : Flow) → attribute_at (scope_of_rule g.symbols ρ) o a ≡ Some (record { flow = f; visit = j }) → Standing g ρ o a f
standing g ρ o a j f e =
    let y : Attribute = record { flow = f; visit = j } in
    let t = then_some (symbol_at (scope_of_rule g.symbols ρ) o) (λ s. slice_get s.attributes a) y e in
    let u = then_some (slice_get (ρ.left ∷ ρ.right) o) (λ x. slice_get g.symbols x) t.0 t.1 in
    let w : o < length (ρ.left ∷ ρ.right) = nth_within (ρ.left ∷ ρ.right) o u.0 u.1 in
    let x : occurs ρ o ≡ u.0 = nth_is (ρ.left ∷ ρ.right) o u.0 0 u.1 in
    let s : symbol g (occurs ρ o) ≡ t.0 = ap (symbol g) x ∙ nth_is g.symbols u.0 t.0 no_symbol u.2 in
    record {
      occurrence = omega arith;
      attribute = let v : a < length t.0.attributes = nth_within t.0.attributes a y t.2 in rw s v;
      flows = ap (λ (z : Symbol). (get_or z.attributes a no_attribute).flow) s ∙ ap (λ (z : Attribute). z.flow) (nth_is t.0.attributes a y no_attribute t.2);
    }

pub defined_standing : (g : Grammar) (ρ : Rule) (o a : ℕ) → Defined (scope_of_rule g.symbols ρ) o a → Standing g ρ o a (defined_flow o)
defined_standing g ρ zero a d = standing g ρ zero a d.0 (defined_flow zero) d.1
defined_standing g ρ (suc k) a d = standing g ρ (suc k) a d.0 (defined_flow (suc k)) d.1
