-- The attributes that a rule defines, each evaluated once.
use Rattle.std.proofs.Common.{◌≡◌, ℕ, List, subst}
use Rattle.grammar.specs.Scopes.{Scope, Defined}
use Rattle.grammar.specs.declared.terms.Instruction.{Instruction}
use Rattle.grammar.specs.declared.terms.Instruction.TheVariants.{Evaluate}
use Rattle.plans.proofs.Standing.{Once}

-- each attribute of occurrence o that the rule defines is evaluated once
abbrev pub OnceAt : Scope → List Instruction → ℕ → Type 0
OnceAt σ plan o = (a : ℕ) → Defined σ o a → Once plan (Evaluate o a)

-- an instruction evaluates only what the rule defines
abbrev pub EvaluatesDefined : Scope → Instruction → Type 0
EvaluatesDefined σ x = (o a : ℕ) → x ≡ Evaluate o a → Defined σ o a

pub defined_like : (σ : Scope) (x : Instruction) (o a : ℕ) → x ≡ Evaluate o a → Defined σ o a → EvaluatesDefined σ x
defined_like σ x o a is d p b e = let u : o ≡ p = cc in let v : a ≡ b = cc in subst (λ y. Defined σ y b) u (subst (Defined σ o) v d)
