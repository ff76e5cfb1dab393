-- A line has no fault just where what it says may come next.
use Rattle.std.proofs.Common.{◌≡◌, ℕ, ◌+◌, ◌<◌, ◌≤◌, Bool, true, false, not, ◌&&◌, eqb, ltb, leb, List, [], ◌∷◌, length, is_some, Some, None, Decides, Option, refl, ap, ◌∙◌, arith}
use Rattle.std.specs.Option.{option_map}
use Rattle.std.specs.List.{AllByRecursion}
use Rattle.std.proofs.lemmas.Bool.Decides.{Decides-and, Decides-not, Decides-eqb, Decides-ltb, Decides-like}
use Rattle.grammar.specs.Tests.{every}
use Rattle.grammar.specs.Model.{Symbol, Equation}
use Rattle.grammar.specs.Scopes.{Scope, attribute_at, same_flow, defines, argument_there, argument_taken, instruction_there}
use Rattle.grammar.specs.declared.terms.Flow.{Flow}
use Rattle.grammar.specs.declared.terms.Flow.TheVariants.{Inherited, Synthesized}
use Rattle.grammar.specs.declared.terms.Attribute.{Attribute}
use Rattle.grammar.specs.declared.terms.Instruction.{Instruction}
use Rattle.grammar.specs.declared.refusal.Refusal.{Refusal}
use Rattle.grammar.specs.declared.refusal.Refusal.TheVariants.{Range, Absent, Start, Target, BadArgument, Plan}
use Rattle.plans.specs.PlanRules.{Planned}
use Rattle.plans.specs.PlanTests.{first_broken}
use Rattle.lines.specs.Faults.{between1, synthesizes, starts, failing, symbol_fault, rule_fault, has_target, set_fault, right_visit, complete, plan_fault}
use Rattle.sheet.specs.Meaning.{StartSymbol, Taken, There}
use Rattle.plans.proofs.Deciding.{decides_leb}
use Rattle.sheet.proofs.Deciding.{decides_every, defined_there, taken_there, decides_taken, every_from, all_there, all_right, all_is, TargetAt, decides_target, Complete, decides_complete}
use Rattle.sheet.proofs.Broken.{planned_from, planned_passes}

failing_none : (t : Bool) (r : Refusal) (later : Option Refusal) → failing t r later ≡ None → (t ≡ true) × (later ≡ None)
failing_none true r later e = (refl, e)
failing_none false r later e = absurd (grind arith)

failing_passes : (t : Bool) (r : Refusal) (later : Option Refusal) → t ≡ true → later ≡ None → failing t r later ≡ None
failing_passes t r later h e = ap (λ b. failing b r later) h ∙ e

decides_between : (high n : ℕ) → Decides (between1 high n) ((1 ≤ n) × (n ≤ high))
decides_between high n = Decides-and (leb 1 n) (leb n high) (decides_leb 1 n) (decides_leb n high)

-- symbols
abbrev pub Starts : List Symbol → Symbol → Type 0
Starts [] s = StartSymbol s
Starts (t ∷ ss) s = Unit {0}

decides_synthesizes : (x : Attribute) → Decides (synthesizes x) (x.flow ≡ Synthesized)
decides_synthesizes x = by x.flow
  where
    by : (f : Flow) → Decides (same_flow f Synthesized) (f ≡ Synthesized)
    by Inherited = ((λ h. absurd (grind arith)), (λ h. absurd (grind arith)))
    by Synthesized = ((λ h. refl), (λ h. refl))

decides_starts : (ss : List Symbol) (s : Symbol) → Decides (starts ss s.visits s.attributes) (Starts ss s)
decides_starts [] s =
    Decides-like _ (λ p. record { one_visit = p.0; synthesized = p.1 }) (λ p. (p.one_visit, p.synthesized))
    (Decides-and (eqb s.visits 1) (every synthesizes s.attributes) (Decides-eqb s.visits 1) (decides_every synthesizes (λ x. x.flow ≡ Synthesized) decides_synthesizes s.attributes))
decides_starts (t ∷ ss) s = ((λ h. tt), (λ h. refl))

-- the symbol s may come behind the symbols ss
pub record NextSymbol (ss : List Symbol) (s : Symbol) : Type 0 where
  pub room : length ss < 32
  pub some_visit : 1 ≤ s.visits
  pub few_visits : s.visits ≤ 4
  pub visits_there : AllByRecursion (λ x. (1 ≤ x.visit) × (x.visit ≤ s.visits)) s.attributes
  pub begins : Starts ss s

module _ (ss : List Symbol) (s : Symbol) where
  some_room : Decides (between1 4 s.visits && ltb (length ss) 32) (((1 ≤ s.visits) × (s.visits ≤ 4)) × (length ss < 32))
  some_room = Decides-and (between1 4 s.visits) (ltb (length ss) 32) (decides_between 4 s.visits) (Decides-ltb (length ss) 32)

  all_visits : Decides (every (λ x. between1 s.visits x.visit) s.attributes) (AllByRecursion (λ x. (1 ≤ x.visit) × (x.visit ≤ s.visits)) s.attributes)
  all_visits = decides_every (λ x. between1 s.visits x.visit) (λ x. (1 ≤ x.visit) × (x.visit ≤ s.visits)) (λ x. decides_between s.visits x.visit) s.attributes

  pub symbol_next : symbol_fault ss s.visits s.attributes ≡ None → NextSymbol ss s
  symbol_next e =
      let f = failing_none (between1 4 s.visits && ltb (length ss) 32) Range _ e in
      let g = failing_none (every (λ x. between1 s.visits x.visit) s.attributes) Absent _ f.1 in
      let h = failing_none (starts ss s.visits s.attributes) Start None g.1 in
      let a = some_room.0 f.0 in
      record { room = a.1; some_visit = a.0.0; few_visits = a.0.1; visits_there = all_visits.0 g.0; begins = (decides_starts ss s).0 h.0 }

  pub symbol_passes : NextSymbol ss s → symbol_fault ss s.visits s.attributes ≡ None
  symbol_passes n =
      failing_passes _ Range _ (some_room.1 ((n.some_visit, n.few_visits), n.room))
      (failing_passes _ Absent _ (all_visits.1 n.visits_there) (failing_passes _ Start None ((decides_starts ss s).1 n.begins) refl))

-- rules: n symbols and m rules are there
pub record NextRule (n m l : ℕ) (rs : List ℕ) : Type 0 where
  pub room : m < 64
  pub left_there : l < n
  pub right_there : AllByRecursion (λ x. x < n) rs

module _ (n m l : ℕ) (rs : List ℕ) where
  all_below : Decides (every (λ x. ltb x n) (l ∷ rs)) (AllByRecursion (λ x. x < n) (l ∷ rs))
  all_below = decides_every (λ x. ltb x n) (λ x. x < n) (λ x. Decides-ltb x n) (l ∷ rs)

  pub rule_next : rule_fault n m l rs ≡ None → NextRule n m l rs
  rule_next e =
      let f = failing_none (ltb m 64) Range _ e in
      let g = failing_none (every (λ x. ltb x n) (l ∷ rs)) Absent None f.1 in
      let a = all_below.0 g.0 in
      record { room = (Decides-ltb m 64).0 f.0; left_there = a.0; right_there = a.1 }

  pub rule_passes : NextRule n m l rs → rule_fault n m l rs ≡ None
  rule_passes r = failing_passes _ Range _ ((Decides-ltb m 64).1 r.room) (failing_passes _ Absent None (all_below.1 (r.left_there, r.right_there)) refl)

-- the equation e may come behind the equations es, of which there are n in all rules so far
pub record NextEquation (σ : Scope) (es : List Equation) (n : ℕ) (e : Equation) : Type 0 where
  pub small_function : e.function ≤ 255
  pub room : n < 512
  pub target : defines σ e.occurrence e.attribute ≡ true
  pub fresh : TargetAt es e.occurrence e.attribute → ⊥
  pub arguments_taken : AllByRecursion (Taken σ) e.arguments

module _ (σ : Scope) (es : List Equation) (n : ℕ) (e : Equation) where
  set_room : Decides (leb e.function 255 && ltb n 512) ((e.function ≤ 255) × (n < 512))
  set_room = Decides-and (leb e.function 255) (ltb n 512) (decides_leb e.function 255) (Decides-ltb n 512)

  set_target : Decides (defines σ e.occurrence e.attribute && not (has_target es e.occurrence e.attribute)) ((defines σ e.occurrence e.attribute ≡ true) × (TargetAt es e.occurrence e.attribute → ⊥))
  set_target = Decides-and _ _ ((λ h. h), (λ h. h)) (Decides-not _ (decides_target es e.occurrence e.attribute))

  set_taken : Decides (every (argument_taken σ) e.arguments) (AllByRecursion (Taken σ) e.arguments)
  set_taken = decides_every (argument_taken σ) (Taken σ) (decides_taken σ) e.arguments

  set_there : Decides (is_some (attribute_at σ e.occurrence e.attribute) && every (argument_there σ) e.arguments) ((is_some (attribute_at σ e.occurrence e.attribute) ≡ true) × (every (argument_there σ) e.arguments ≡ true))
  set_there = Decides-and _ _ ((λ h. h), (λ h. h)) ((λ h. h), (λ h. h))

  pub set_next : failing (leb e.function 255 && ltb n 512) Range (set_fault σ es e) ≡ None → NextEquation σ es n e
  set_next k =
      let f = failing_none (leb e.function 255 && ltb n 512) Range (set_fault σ es e) k in
      let g = failing_none (is_some (attribute_at σ e.occurrence e.attribute) && every (argument_there σ) e.arguments) Absent _ f.1 in
      let h = failing_none (defines σ e.occurrence e.attribute && not (has_target es e.occurrence e.attribute)) Target _ g.1 in
      let i = failing_none (every (argument_taken σ) e.arguments) BadArgument None h.1 in
      let a = set_room.0 f.0 in
      let b = set_target.0 h.0 in
      record { small_function = a.0; room = a.1; target = b.0; fresh = b.1; arguments_taken = set_taken.0 i.0 }

  pub set_passes : NextEquation σ es n e → failing (leb e.function 255 && ltb n 512) Range (set_fault σ es e) ≡ None
  set_passes k =
      failing_passes _ Range _ (set_room.1 (k.small_function, k.room))
      (failing_passes _ Absent _ (set_there.1 (defined_there σ e.occurrence e.attribute k.target, every_from (argument_there σ) (Taken σ) (taken_there σ) e.arguments k.arguments_taken))
      (failing_passes _ Target _ (set_target.1 (k.target, k.fresh))
      (failing_passes _ BadArgument None (set_taken.1 k.arguments_taken) refl)))

-- the plan is may come behind the equations es of its rule, and n instructions in all rules so far
pub record NextPlan (σ : Scope) (es : List Equation) (n : ℕ) (is : List Instruction) : Type 0 where
  pub room : n + length is ≤ 1024
  pub instructions_there : AllByRecursion (There σ) is
  pub all_defined : Complete σ es
  pub planned : Planned σ es is

mapped_none : {X Y : Type 0} (f : X → Y) (o : Option X) → option_map f o ≡ None → o ≡ None
mapped_none f None e = refl
mapped_none f (Some x) e = absurd (grind arith)

module _ (σ : Scope) (es : List Equation) (n : ℕ) (is : List Instruction) where
  pub plan_next : failing (leb (n + length is) 1024) Range (plan_fault σ es is) ≡ None → NextPlan σ es n is
  plan_next k =
      let f = failing_none (leb (n + length is) 1024) Range (plan_fault σ es is) k in
      let g = failing_none (every right_visit is) Range _ f.1 in
      let h = failing_none (every (instruction_there σ) is) Absent _ g.1 in
      let i = failing_none (complete σ es) Target _ h.1 in
      record {
        room = (decides_leb (n + length is) 1024).0 f.0;
        instructions_there = all_there σ is g.0 h.0;
        all_defined = (decides_complete σ es).0 i.0;
        planned = planned_from σ es is (mapped_none Plan (first_broken σ es is) i.1);
      }

  pub plan_passes : NextPlan σ es n is → failing (leb (n + length is) 1024) Range (plan_fault σ es is) ≡ None
  plan_passes k =
      failing_passes _ Range _ ((decides_leb (n + length is) 1024).1 k.room)
      (failing_passes _ Range _ (all_right σ is k.instructions_there)
      (failing_passes _ Absent _ (all_is σ is k.instructions_there)
      (failing_passes _ Target _ ((decides_complete σ es).1 k.all_defined) (ap (option_map Plan) (planned_passes σ es is k.planned)))))
