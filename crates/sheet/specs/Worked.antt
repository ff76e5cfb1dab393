-- The worked sheet, and two that break a plan rule.
use Rattle.std.specs.Prelude.{◌≡◌, ℕ, List, [], ◌∷◌, ◌++◌, codes}
use Rattle.std.specs.List.{flat_map}
use Rattle.grammar.specs.Model.{Grammar}
use Rattle.grammar.specs.Refusals.{refusal_number, layer_of, rule_number}
use Rattle.grammar.specs.declared.terms.Flow.TheVariants.{Inherited, Synthesized}
use Rattle.grammar.specs.declared.terms.Argument.TheVariants.{Datum, Of}
use Rattle.grammar.specs.declared.terms.Instruction.TheVariants.{Evaluate, Visit, Return}
use Rattle.grammar.specs.declared.refusal.Layer.TheVariants.{OfPlan}
use Rattle.grammar.specs.declared.refusal.PlanRule.{PlanRule}
use Rattle.grammar.specs.declared.refusal.PlanRule.TheVariants.{ReturnsInOrder, ArgumentsFirst}
use Rattle.grammar.specs.declared.refusal.Refusal.TheVariants.{Plan}
use Rattle.reader.specs.Judgement.{judge, fault_at}
use Rattle.reader.specs.Judgement.Outcome.{sheet}

-- lines, each with the byte that ends it
abbrev pub text : List (List ℕ) → List ℕ
text ls = flat_map (λ l. l ++ 10 ∷ []) ls

-- a start above a tree of items: lines 1 to 14
abbrev pub blocks : List (List ℕ)
blocks =
    codes "symbol=1 S1"
    ∷ codes "symbol=2 S1 I2 I2 S2"
    ∷ codes "rule=0 1"
    ∷ codes "set=0.0 1 1.3"
    ∷ codes "set=1.1 0"
    ∷ codes "set=1.2 6"
    ∷ codes "plan=v1.1 e1.1 e1.2 v1.2 e0.0 r1"
    ∷ codes "rule=1 1 1"
    ∷ codes "set=0.0 4 1.0 2.0"
    ∷ codes "set=0.3 1 2.3"
    ∷ codes "set=1.1 1 0.1"
    ∷ codes "set=1.2 4 2.0 0.2"
    ∷ codes "set=2.1 1 1.3"
    ∷ codes "set=2.2 1 0.2"
    ∷ []

-- an item: lines 16 to 18
abbrev pub item : List (List ℕ)
item = codes "rule=1" ∷ codes "set=0.0 1 d" ∷ codes "set=0.3 3 0.1 d" ∷ []

abbrev pub day_text : List ℕ
day_text = text (blocks ++ codes "plan=v1.1 v2.1 e0.0 r1 e1.1 e1.2 v1.2 e2.1 e2.2 v2.2 e0.3 r2" ∷ (item ++ codes "plan=e0.0 r1 e0.3 r2" ∷ []))

-- the second item's start is evaluated before the first item's end is known
abbrev pub early_text : List ℕ
early_text = text (blocks ++ codes "plan=v1.1 v2.1 e0.0 r1 e1.1 e1.2 e2.1 v1.2 e2.2 v2.2 e0.3 r2" ∷ (item ++ codes "plan=e0.0 r1 e0.3 r2" ∷ []))

-- an item does not return from its first visit
abbrev pub unreturned_text : List ℕ
unreturned_text = text (blocks ++ codes "plan=v1.1 v2.1 e0.0 r1 e1.1 e1.2 v1.2 e2.1 e2.2 v2.2 e0.3 r2" ∷ (item ++ codes "plan=e0.0 e0.3 r2" ∷ []))

abbrev pub day : Grammar
day = record {
  symbols =
      record { visits = 1; attributes = record { flow = Synthesized; visit = 1 } ∷ [] }
      ∷ record { visits = 2; attributes = record { flow = Synthesized; visit = 1 } ∷ record { flow = Inherited; visit = 2 } ∷ record { flow = Inherited; visit = 2 } ∷ record { flow = Synthesized; visit = 2 } ∷ [] }
      ∷ [];
  rules =
      record {
        left = 0;
        right = 1 ∷ [];
        equations =
            record { occurrence = 0; attribute = 0; function = 1; arguments = Of 1 3 ∷ [] }
            ∷ record { occurrence = 1; attribute = 1; function = 0; arguments = [] }
            ∷ record { occurrence = 1; attribute = 2; function = 6; arguments = [] }
            ∷ [];
        plan = Visit 1 1 ∷ Evaluate 1 1 ∷ Evaluate 1 2 ∷ Visit 1 2 ∷ Evaluate 0 0 ∷ Return 1 ∷ [];
      }
      ∷ record {
        left = 1;
        right = 1 ∷ 1 ∷ [];
        equations =
            record { occurrence = 0; attribute = 0; function = 4; arguments = Of 1 0 ∷ Of 2 0 ∷ [] }
            ∷ record { occurrence = 0; attribute = 3; function = 1; arguments = Of 2 3 ∷ [] }
            ∷ record { occurrence = 1; attribute = 1; function = 1; arguments = Of 0 1 ∷ [] }
            ∷ record { occurrence = 1; attribute = 2; function = 4; arguments = Of 2 0 ∷ Of 0 2 ∷ [] }
            ∷ record { occurrence = 2; attribute = 1; function = 1; arguments = Of 1 3 ∷ [] }
            ∷ record { occurrence = 2; attribute = 2; function = 1; arguments = Of 0 2 ∷ [] }
            ∷ [];
        plan = Visit 1 1 ∷ Visit 2 1 ∷ Evaluate 0 0 ∷ Return 1 ∷ Evaluate 1 1 ∷ Evaluate 1 2 ∷ Visit 1 2 ∷ Evaluate 2 1 ∷ Evaluate 2 2 ∷ Visit 2 2 ∷ Evaluate 0 3 ∷ Return 2 ∷ [];
      }
      ∷ record {
        left = 1;
        right = [];
        equations =
            record { occurrence = 0; attribute = 0; function = 1; arguments = Datum ∷ [] }
            ∷ record { occurrence = 0; attribute = 3; function = 3; arguments = Of 0 1 ∷ Datum ∷ [] }
            ∷ [];
        plan = Evaluate 0 0 ∷ Return 1 ∷ Evaluate 0 3 ∷ Return 2 ∷ [];
      }
      ∷ [];
}

pub record WorkedSheets : Type 0 where
  pub accepted : judge day_text ≡ sheet day
  pub early : judge early_text ≡ fault_at 15 (Plan ArgumentsFirst)
  pub unreturned : judge unreturned_text ≡ fault_at 19 (Plan ReturnsInOrder)
  pub plan_layer : (p : PlanRule) → layer_of (Plan p) ≡ OfPlan
  pub plan_number : (p : PlanRule) → refusal_number (Plan p) ≡ 8
  pub early_rule : rule_number ArgumentsFirst ≡ 6
  pub unreturned_rule : rule_number ReturnsInOrder ≡ 1
