-- What a sheet shows of a rule.
use Rattle.std.proofs.Common.{◌≡◌, ℕ, zero, suc, ◌/◌, ◌^◌, ◌<◌, ◌≤◌, eqb, List, [], ◌∷◌, length, get_or, Some, None, Decides, Option, refl, ap, ◌∙◌, div-lt_iff_lt-mul, arith, pow_pos, pow_mono, eq-eqb, eqb-true}
use native.Mathlib.Nat.{div-eq_of_lt}
use Rattle.std.specs.List.{slice_get}
use Rattle.grammar.specs.Model.{Symbol, Rule, Grammar}
use Rattle.grammar.specs.Scopes.{Scope, attributes_at, attributes_in}
use Rattle.tour.specs.Rules.{rule, no_rule, no_symbol}
use Rattle.places.specs.Places.{attributes}
use Rattle.places.specs.Shape.{SoundNode, SoundPlace}
use Rattle.places.specs.declared.node.Node.{Node}

-- an element that stands in a list at a number, and none past its end
nth_found : {X : Type 0} (xs : List X) (k : ℕ) (x d : X) → Some x ≡ slice_get xs k → (get_or xs k d ≡ x) × (k < length xs)
nth_found [] k x d e = absurd (let z : ◌≡◌ {A = ℕ} 0 1 = cc in omega arith)
nth_found (y ∷ xs) zero x d e = (cc, omega arith)
nth_found (y ∷ xs) (suc k) x d e = let h = nth_found xs k x d e in (h.0, omega (arith, h.1))

nth_missing : {X : Type 0} (xs : List X) (k : ℕ) (d : X) → None ≡ slice_get xs k → (get_or xs k d ≡ d) × (length xs ≤ k)
nth_missing [] k d e = (refl, omega arith)
nth_missing (y ∷ xs) zero d e = absurd (let z : ◌≡◌ {A = ℕ} 0 1 = cc in omega arith)
nth_missing (y ∷ xs) (suc k) d e = let h = nth_missing xs k d e in (h.0, omega (arith, h.1))

pub rule_found : (g : Grammar) (n k : ℕ) (ρ : Rule) → n ≡ k → Some ρ ≡ slice_get g.rules n → (rule g k ≡ ρ) × (k < length g.rules)
rule_found g n k ρ e h = nth_found g.rules k ρ no_rule (h ∙ ap (slice_get g.rules) e)

pub rule_missing : (g : Grammar) (n k : ℕ) → n ≡ k → None ≡ slice_get g.rules n → (rule g k ≡ no_rule) × (length g.rules ≤ k)
rule_missing g n k e h = nth_missing g.rules k no_rule (h ∙ ap (slice_get g.rules) e)

-- how many attributes the symbol with a number has
symbol_attributes : (symbols : List Symbol) (x : ℕ) → attributes_in (slice_get symbols x) ≡ length (get_or symbols x no_symbol).attributes
symbol_attributes [] x = refl
symbol_attributes (s ∷ symbols) zero = refl
symbol_attributes (s ∷ symbols) (suc x) = symbol_attributes symbols x

pub rule_attributes : (g : Grammar) (σ : Scope) (k : ℕ) → σ.symbols ≡ g.symbols → get_or σ.occurrences 0 0 ≡ (rule g k).left → 1 ≤ length σ.occurrences → attributes_at σ 0 ≡ attributes g k
rule_attributes g σ k e l some = by σ.occurrences l some
  where
    by : (os : List ℕ) → get_or os 0 0 ≡ (rule g k).left → 1 ≤ length os → attributes_at (record { symbols = σ.symbols; occurrences = os }) 0 ≡ attributes g k
    by [] l some = absurd (omega arith)
    by (o ∷ os) l some = symbol_attributes σ.symbols o ∙ (λ i. length (get_or (e i) (l i) no_symbol).attributes)

-- digits past the n-th are all 0 just below the n-th power
pub shift_tells : (n m : ℕ) → Decides (eqb (m / 2 ^ n) 0) (m < 2 ^ n)
shift_tells n m = (
  (λ e. let h : m / 2 ^ n < 1 = omega (arith, eqb-true (m / 2 ^ n) 0 e) in omega (arith, (div-lt_iff_lt-mul (pow_pos n)).0 h)),
  λ h. eq-eqb (m / 2 ^ n) 0 (div-eq_of_lt h),
)

pub wide_fits : (n m : ℕ) → 16 ≤ n → m < 2 ^ 16 → m < 2 ^ n
wide_fits n m h l = omega (arith, pow_mono h)

-- a place whose node, if there is one, is sound
pub sound_place : (g : Grammar) (ps : List (Option Node)) (p : ℕ) (o : Option Node) → ((n : Node) → o ≡ Some n → SoundNode g ps p n) → SoundPlace g ps p o
sound_place g ps p None h = tt
sound_place g ps p (Some n) h = h n refl

-- past the table no place is used
pub used_below : {X : Type 0} (ps : List (Option X)) (p : ℕ) (n : X) → get_or ps p None ≡ Some n → p < length ps
used_below [] p n e = absurd (let z : ◌≡◌ {A = ℕ} 0 1 = cc in omega arith)
used_below (o ∷ ps) zero n e = omega arith
used_below (o ∷ ps) (suc p) n e = omega (arith, used_below ps p n e)
