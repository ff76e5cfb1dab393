-- What an accepted sheet says of its rules, with the front part of a plan in place of a number of its instruction.
use Rattle.std.proofs.Common.{◌≡◌, ℕ, suc, ◌<◌, ◌≤◌, List, [], ◌∷◌, ◌++◌, length}
use Rattle.grammar.specs.Model.{Rule, Grammar}
use Rattle.grammar.specs.declared.terms.Flow.{Flow}
use Rattle.grammar.specs.declared.terms.Flow.TheVariants.{Inherited, Synthesized}
use Rattle.grammar.specs.declared.terms.Instruction.{Instruction}
use Rattle.grammar.specs.declared.terms.Instruction.TheVariants.{Evaluate, Visit, Return}
use Rattle.tour.specs.Runs.{In}
use Rattle.tour.specs.Rules.{symbol, rule, occurs, Has, Takes}

-- how many returns stand in a part of a plan
abbrev pub returns : List Instruction → ℕ
returns [] = 0
returns (Evaluate o a ∷ is) = returns is
returns (Visit k j ∷ is) = returns is
returns (Return j ∷ is) = suc (returns is)

-- what a rule defines: the synthesized attributes of the left occurrence and the inherited ones of the others
pub data Defines (σ : Grammar) (ρ : Rule) : ℕ → ℕ → Type 0 where
  own : {a j : ℕ} → Has σ ρ.left a Synthesized j → Defines σ ρ 0 a
  given : {k a j : ℕ} → k < length ρ.right → Has σ (occurs ρ (suc k)) a Inherited j → Defines σ ρ (suc k) a

-- what the grammar asks of a rule, as far as plans need it
pub record Grammatical (σ : Grammar) (ρ : Rule) : Type 0 where
  pub visit_low : (x a j : ℕ) (k : Flow) → Has σ x a k j → 1 ≤ j
  pub visit_high : (x a j : ℕ) (k : Flow) → Has σ x a k j → j ≤ (symbol σ x).visits
  pub argument_own : (o a b : ℕ) → Takes ρ o a 0 b → (i : ℕ) × Has σ ρ.left b Inherited i
  pub argument_right : (o a k b : ℕ) → Takes ρ o a (suc k) b → (k < length ρ.right) × ((i : ℕ) × Has σ (occurs ρ (suc k)) b Synthesized i)
  pub visits_there : (k j : ℕ) → In (Visit k j) ρ.plan → (1 ≤ k) × (k ≤ length ρ.right) × (1 ≤ j) × (j ≤ (symbol σ (occurs ρ k)).visits)

-- i stands in the plan behind this front part
abbrev pub Stands : Rule → List Instruction → Instruction → Type 0
Stands ρ pre i = (post : List Instruction) × (ρ.plan ≡ pre ++ i ∷ post)

pub record Planned (σ : Grammar) (ρ : Rule) : Type 0 where
  -- the returns are numbered in order, and one is last
  pub returns_in_order : (pre : List Instruction) (j : ℕ) → Stands ρ pre (Return j) → j ≡ suc (returns pre)
  pub returns_all : returns ρ.plan ≡ (symbol σ ρ.left).visits
  pub return_last : (pre : List Instruction) × (j : ℕ) × (ρ.plan ≡ pre ++ Return j ∷ [])
  -- each defined attribute is evaluated once, and no other is
  pub evaluates_all : (o a : ℕ) → Defines σ ρ o a → In (Evaluate o a) ρ.plan
  pub evaluates_only : (o a : ℕ) → In (Evaluate o a) ρ.plan → Defines σ ρ o a
  pub evaluates_once_lem : (pre : List Instruction) (o a : ℕ) → Stands ρ pre (Evaluate o a) → In (Evaluate o a) pre → ⊥
  -- of each right occurrence all visits stand once each, in order
  pub visits_all : (k j : ℕ) → 1 ≤ k → k ≤ length ρ.right → 1 ≤ j → j ≤ (symbol σ (occurs ρ k)).visits → In (Visit k j) ρ.plan
  pub visits_once : (pre : List Instruction) (k j : ℕ) → Stands ρ pre (Visit k j) → In (Visit k j) pre → ⊥
  pub visits_in_order : (pre : List Instruction) (k j i : ℕ) → Stands ρ pre (Visit k j) → 1 ≤ i → i < j → In (Visit k i) pre
  -- a visit stands after the evaluation of every inherited attribute of that visit
  pub visit_after_inherited : (pre : List Instruction) (k j a : ℕ) → Stands ρ pre (Visit k j) → Has σ (occurs ρ k) a Inherited j → In (Evaluate k a) pre
  -- a return stands after the evaluation of every synthesized attribute of that visit
  pub return_after_synthesized : (pre : List Instruction) (j a : ℕ) → Stands ρ pre (Return j) → Has σ ρ.left a Synthesized j → In (Evaluate 0 a) pre
  -- an evaluation stands after the visits of its arguments, and no earlier than their segments
  pub after_visit : (pre : List Instruction) (o a k b j : ℕ) → Stands ρ pre (Evaluate o a) → Takes ρ o a (suc k) b → Has σ (occurs ρ (suc k)) b Synthesized j → In (Visit (suc k) j) pre
  pub not_before_segment : (pre : List Instruction) (o a b i : ℕ) → Stands ρ pre (Evaluate o a) → Takes ρ o a 0 b → Has σ ρ.left b Inherited i → i ≤ suc (returns pre)

-- its rules, and symbol 0 has one visit and no inherited attribute
pub record Accepted (σ : Grammar) : Type 0 where
  pub rules : (r : ℕ) → r < length σ.rules → Grammatical σ (rule σ r) × Planned σ (rule σ r)
  pub start_visits : (symbol σ 0).visits ≡ 1
  pub start_free : (a i : ℕ) → Has σ 0 a Inherited i → ⊥
