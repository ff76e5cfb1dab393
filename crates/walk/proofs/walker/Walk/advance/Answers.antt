use Rattle.std.proofs.Common.{Some, sym, ap, ◌∙◌, arith}
use Rattle.sheet.specs.Answers.{grammar_of}
use Rattle.walk.specs.Stands.{stand_of}
use Rattle.walk.proofs.Advancing.{next_small, VisitHere, visit_here, EvaluateHere, evaluate_here, moved_evaluate, met_evaluate, moved_visit, met_visit}
use Rattle.walk.proofs.Looking.{occurrence_at}
use Rattle.walk.proofs.walker.Walk.advance.Goals as goal
use Rattle.walk.proofs.walker.Walk.advance.Goals.{In-InPlan-Evaluate, In-InPlan-Visit, at-returns-in-InPlan-Evaluate, at-enter-requires, at-returns-in-InPlan-Visit}

pub overflow_add-self : goal.overflow_add-self
overflow_add-self c = omega (arith, next_small _ _ _ c.requires)

pub overflow_add-self-in-Entering-Return : goal.overflow_add-self-in-Entering-Return
overflow_add-self-in-Entering-Return c = omega (arith, next_small _ _ _ c.requires)

pub overflow_add-self-in-Entering-default : goal.overflow_add-self-in-Entering-default
overflow_add-self-in-Entering-default c = omega (arith, next_small _ _ _ c.requires)

pub overflow_add-self-in-Returning-Visit : goal.overflow_add-self-in-Returning-Visit
overflow_add-self-in-Returning-Visit c = omega (arith, next_small _ _ _ c.requires)

-- what the instruction names
evaluates : (c : In-InPlan-Evaluate) → EvaluateHere (grammar_of c.args.sheet.now) c.args.places.now (stand_of c.args.self.now) c.in-InPlan-Evaluate.occurrence c.in-InPlan-Evaluate.attribute
evaluates c = evaluate_here _ _ _ _ _ c.requires (sym c.instruction_at.ensures ∙ c.in_ok-instruction.was ∙ ap Some c.in-InPlan-Evaluate.is-1)

visits : (c : In-InPlan-Visit) → VisitHere (grammar_of c.args.sheet.now) c.args.places.now (stand_of c.args.self.now) c.in-InPlan-Visit.occurrence c.in-InPlan-Visit.visit
visits c = visit_here _ _ _ _ _ c.requires (sym c.instruction_at.ensures ∙ c.in_ok-instruction.was ∙ ap Some c.in-InPlan-Visit.is-1)

pub returns-in-InPlan-Evaluate : goal.returns-in-InPlan-Evaluate
returns-in-InPlan-Evaluate c =
    let g = grammar_of c.args.sheet.now in
    let s = stand_of c.args.self.now in
    let h = evaluates (at-returns-in-InPlan-Evaluate c).In-InPlan-Evaluate in
    record {
      stand = moved_evaluate g c.args.places.now s _ _ c.in-InPlan-Evaluate.is-0 h.stands;
      met = met_evaluate g c.args.places.now s _ _ _ c.in-InPlan-Evaluate.is-0 h.stands (c.occurrence_place.ensures.place ∙ occurrence_at g c.args.places.now s.place c.in_ok-node.node (sym c.node_at.ensures ∙ c.in_ok-node.was) _ h.there);
    }

pub enter-requires : goal.enter-requires
enter-requires c = record { room = omega (arith, c.requires.few_frames, c.requires.enough_room); first = (visits (at-enter-requires c).In-InPlan-Visit).first }

pub returns-in-InPlan-Visit : goal.returns-in-InPlan-Visit
returns-in-InPlan-Visit c =
    let g = grammar_of c.args.sheet.now in
    let s = stand_of c.args.self.now in
    let h = visits (at-returns-in-InPlan-Visit c).In-InPlan-Visit in
    record {
      stand = c.enter.ensures ∙ moved_visit g c.args.places.now s _ _ _ c.in-InPlan-Visit.is-0 h.stands (c.occurrence_place-child.ensures.place ∙ occurrence_at g c.args.places.now s.place c.in_ok-node.node (sym c.node_at.ensures ∙ c.in_ok-node.was) _ h.there);
      met = met_visit g c.args.places.now s _ _ c.in-InPlan-Visit.is-0 h.stands;
    }
