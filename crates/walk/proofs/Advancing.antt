-- What the code of a move has to show.
use Rattle.std.proofs.Common.{◌≡◌, ℕ, ◌+◌, ◌<◌, ◌≤◌, List, length, Some, None, Option, sym, ap, ◌∙◌, add-one, arith}
use Rattle.std.specs.List.{slice_get}
use Rattle.grammar.specs.Model.{Grammar}
use Rattle.grammar.specs.declared.terms.Instruction.TheVariants.{Evaluate, Visit}
use Rattle.places.specs.Places.{table}
use Rattle.places.specs.declared.node.Node.{Node}
use Rattle.tour.specs.Trees.{at_of}
use Rattle.tour.specs.Walks.{plan_at}
use Rattle.walk.specs.Moves.{inside, moved_by, moved_at, moved, met_by, met_at, meets}
use Rattle.walk.specs.Stands.{Stand}
use Rattle.walk.specs.Walking.{Walking}
use Rattle.walk.specs.declared.walker.Mode.TheVariants.{InPlan}
use Rattle.walk.proofs.Bounds.{short_plan}
use Rattle.walk.proofs.Naming.{in_nth, visit_names, evaluate_names, few_kids}

pub next_small : (g : Grammar) (ps : List (Option Node)) (s : Stand) → Walking g ps s → s.next < 1024
next_small g ps s w = omega (arith, w.next_there, short_plan g w.sound (table g ps s.place).rule)

-- the instruction where the walk stands, and what it names
pub record VisitHere (g : Grammar) (ps : List (Option Node)) (s : Stand) (k j : ℕ) : Type 0 where
  pub stands : slice_get (plan_at g (table g ps) s.place) s.next ≡ Some (Visit k j)
  pub there : k ≤ length (table g ps s.place).kids
  pub few : k ≤ 4
  pub first : 1 ≤ j

pub visit_here : (g : Grammar) (ps : List (Option Node)) (s : Stand) (k j : ℕ) → Walking g ps s → slice_get (plan_at g (table g ps) s.place) s.next ≡ Some (Visit k j) → VisitHere g ps s k j
visit_here g ps s k j w e =
    let v = visit_names g ps s.place s.next k j w.sound w.places_sound w.place_used e in
    record { stands = e; there = v.1; few = omega (arith, v.1, few_kids g ps s.place w.sound w.place_used); first = v.2 }

pub record EvaluateHere (g : Grammar) (ps : List (Option Node)) (s : Stand) (o a : ℕ) : Type 0 where
  pub stands : slice_get (plan_at g (table g ps) s.place) s.next ≡ Some (Evaluate o a)
  pub there : o ≤ length (table g ps s.place).kids
  pub few : o ≤ 4

pub evaluate_here : (g : Grammar) (ps : List (Option Node)) (s : Stand) (o a : ℕ) → Walking g ps s → slice_get (plan_at g (table g ps) s.place) s.next ≡ Some (Evaluate o a) → EvaluateHere g ps s o a
evaluate_here g ps s o a w e =
    let v = evaluate_names g ps s.place o a w.sound w.places_sound w.place_used (in_nth (plan_at g (table g ps) s.place) s.next (Evaluate o a) e) in
    record { stands = e; there = v.0; few = omega (arith, v.0, few_kids g ps s.place w.sound w.place_used) }

module _ (g : Grammar) (ps : List (Option Node)) (s : Stand) where
  pub moved_evaluate : (o a : ℕ) → s.mode ≡ InPlan → slice_get (plan_at g (table g ps) s.place) s.next ≡ Some (Evaluate o a) → record { mode = s.mode; place = s.place; next = s.next + 1; frames = s.frames; room = s.room } ≡ moved g (table g ps) s
  moved_evaluate o a m e =
      (λ i. record { mode = m i; place = s.place; next = add-one s.next i; frames = s.frames; room = s.room })
      ∙ sym (ap (λ x. moved_at (table g ps) x s) e ∙ ap (λ x. moved_by (table g ps) x (Evaluate o a) s) m)

  pub met_evaluate : (o a q : ℕ) → s.mode ≡ InPlan → slice_get (plan_at g (table g ps) s.place) s.next ≡ Some (Evaluate o a) → q ≡ at_of s.place (table g ps s.place).kids o → Some (record { rule_place = s.place; occurrence = o; attribute = a; place = q }) ≡ meets g (table g ps) s
  met_evaluate o a q m e h =
      (λ i. Some (record { rule_place = s.place; occurrence = o; attribute = a; place = h i }))
      ∙ sym (ap (λ x. met_at (table g ps) x s) e ∙ ap (λ x. met_by (table g ps) x (Evaluate o a) s.place) m)

  pub moved_visit : (k j q : ℕ) → s.mode ≡ InPlan → slice_get (plan_at g (table g ps) s.place) s.next ≡ Some (Visit k j) → q ≡ at_of s.place (table g ps s.place).kids k → inside q j s ≡ moved g (table g ps) s
  moved_visit k j q m e h = ap (λ x. inside x j s) h ∙ sym (ap (λ x. moved_at (table g ps) x s) e ∙ ap (λ x. moved_by (table g ps) x (Visit k j) s) m)

  pub met_visit : (k j : ℕ) → s.mode ≡ InPlan → slice_get (plan_at g (table g ps) s.place) s.next ≡ Some (Visit k j) → None ≡ meets g (table g ps) s
  met_visit k j m e = sym (ap (λ x. met_at (table g ps) x s) e ∙ ap (λ x. met_by (table g ps) x (Visit k j) s.place) m)
