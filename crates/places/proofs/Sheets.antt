-- A sheet that holds a rule was accepted.
use Rattle.std.proofs.Common.{◌≡◌, ℕ, zero, suc, ◌<◌, ◌≤◌, ◌⊎◌, List, [], ◌∷◌, length, get_or, sym, refl, ap, subst, inl, inr, arith}
use Rattle.grammar.specs.Model.{Grammar}
use Rattle.sheet.specs.Answers.{grammar_of}
use Rattle.sheet.specs.Kept.{empty}
use Rattle.sheet.specs.Meaning.{SoundSymbol, SoundRule, Sound, SheetOf}
use Rattle.sheet.specs.Writing.{write}
use Rattle.sheet.specs.declared.kept.Sheet.{Sheet}
use Rattle.sheet.proofs.Keeping.{empty_or_sheet}
use Rattle.std.proofs.ByRecursion.{All-get_or}
use Rattle.tour.specs.Rules.{rule, symbol, no_rule, no_symbol}
use Rattle.places.specs.Places.{arity, attributes}

-- a number is below the length of a list, or shows what is taken past its end
pub get_d_either : {X : Type 0} (xs : List X) (i : ℕ) (d : X) → (i < length xs) ⊎ (get_or xs i d ≡ d)
get_d_either [] i d = inr refl
get_d_either (x ∷ xs) zero d = inl (omega arith)
get_d_either (x ∷ xs) (suc i) d = elim (get_d_either xs i d) [ inl h ↦ inl (omega arith) | inr e ↦ inr e ]

pub sheet_sound : (s : Sheet) (r : ℕ) → r < length (grammar_of s).rules → Sound (grammar_of s)
sheet_sound s r h = by (empty_or_sheet (grammar_of s) s.accepted)
  where
    by : (grammar_of s ≡ empty) ⊎ SheetOf (write (grammar_of s)) (grammar_of s) → Sound (grammar_of s)
    by (inl e) = absurd (let z : length (grammar_of s).rules ≡ 0 = ap (λ g. length g.rules) e in omega arith)
    by (inr o) = o.sound

-- a rule by its number
pub sound_rule : (g : Grammar) → Sound g → (r : ℕ) → r < length g.rules → SoundRule g.symbols (rule g r)
sound_rule g s r h = All-get_or (SoundRule g.symbols) g.rules r no_rule h s.rules_sound

-- no rule has more than four children, and no symbol more than sixteen attributes
pub sound_arity : (g : Grammar) → Sound g → (r : ℕ) → arity g r ≤ 4
sound_arity g s r = by (get_d_either g.rules r no_rule)
  where
    by : (r < length g.rules) ⊎ (rule g r ≡ no_rule) → arity g r ≤ 4
    by (inl h) = (sound_rule g s r h).few_right
    by (inr e) = subst (λ ρ. length ρ.right ≤ 4) (sym e) (omega arith)

pub sound_attributes : (g : Grammar) → Sound g → (r : ℕ) → attributes g r ≤ 16
sound_attributes g s r = by (get_d_either g.symbols (rule g r).left no_symbol)
  where
    by : ((rule g r).left < length g.symbols) ⊎ (symbol g (rule g r).left ≡ no_symbol) → attributes g r ≤ 16
    by (inl h) = (All-get_or SoundSymbol g.symbols (rule g r).left no_symbol h s.symbols_sound).few_attributes
    by (inr e) = subst (λ x. length x.attributes ≤ 16) (sym e) (omega arith)
