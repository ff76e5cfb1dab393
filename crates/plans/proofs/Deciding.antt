-- Tests that decide: an implication, an order.
use Rattle.std.proofs.Common.{◌≡◌, ℕ, ◌≤◌, Bool, true, false, not, ◌||◌, leb, Decides, refl, arith}
use Rattle.std.proofs.lemmas.Bool.{leb-true, le-leb}

-- what follows from an equation that never holds
pub never : {X : Type 0} → ◌≡◌ {A = ℕ} 0 1 → X
never e = absurd (omega arith)

pub decides_leb : (a b : ℕ) → Decides (leb a b) (a ≤ b)
decides_leb a b = (leb-true a b, le-leb a b)

pub decides_implies : {P Q : Type 0} (x y : Bool) → Decides x P → Decides y Q → Decides (not x || y) (P → Q)
decides_implies true y p q = (λ h _. q.0 h, λ f. q.1 (f (p.0 refl)))
decides_implies false y p q = (λ _ h. never (let z = p.1 h in cc), λ _. refl)

pub shown : {P : Type 0} → P → Decides true P
shown p = (λ _. p, λ _. refl)

pub refuted : {P : Type 0} → (P → ⊥) → Decides false P
refuted h = (λ e. never (cc), λ p. absurd (h p))
