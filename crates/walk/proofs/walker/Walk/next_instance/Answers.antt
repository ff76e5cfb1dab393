use Rattle.std.proofs.Common.{sym, refl, ◌∙◌, subst}
use Rattle.sheet.specs.Answers.{grammar_of}
use Rattle.walk.specs.Stands.{stand_of}
use Rattle.walk.specs.Walking.{Moves}
use Rattle.walk.proofs.Going.{advanced, end_ahead, reaches}
use Rattle.walk.proofs.walker.Walk.next_instance.Goals as goal
use Rattle.walk.proofs.walker.Walk.next_instance.Goals.{After-advance, at-returns-in-Some, at-loop-self-smaller, at-loop-self-preserved}

pub loop-self-init : goal.loop-self-init
loop-self-init c = (c.requires, refl)

pub advance-requires : goal.advance-requires
advance-requires c = c.loop-self.invariant.0

-- each turn is a move
turn : (c : After-advance) → Moves (grammar_of c.args.sheet.now) c.args.places.now (stand_of c.loop-self.self) c.advance.result (stand_of c.advance.new.self)
turn c = advanced _ _ _ _ _ c.loop-self.invariant.0 (sym c.is_done.ensures ∙ c.loop-self-test.true) c.advance.ensures.stand c.advance.ensures.met

pub returns-in-Some : goal.returns-in-Some
returns-in-Some c =
    reaches _ _ _ (stand_of c.loop-self.self) _ _ c.loop-self.invariant.1
    (subst (λ o. Moves (grammar_of c.args.sheet.now) c.args.places.now (stand_of c.loop-self.self) o (stand_of c.advance.new.self)) c.in-Some.is
    (turn (at-returns-in-Some c).After-advance))

pub loop-self-smaller : goal.loop-self-smaller
loop-self-smaller c = (turn (at-loop-self-smaller c).After-advance).falls

pub loop-self-preserved : goal.loop-self-preserved
loop-self-preserved c =
    let v = subst (λ o. Moves (grammar_of c.args.sheet.now) c.args.places.now (stand_of c.loop-self.self) o (stand_of c.advance.new.self)) c.in_default.is
    (turn (at-loop-self-preserved c).After-advance) in
    (v.walking, c.loop-self.invariant.1 ∙ v.lists)

pub returns : goal.returns
returns c =
    let z = end_ahead (grammar_of c.args.sheet.now) c.args.places.now (stand_of c.loop-self.self) (sym c.is_done.ensures ∙ c.loop-self-test.false) in
    record { walking = c.loop-self.invariant.0; lists = c.loop-self.invariant.1 ∙ z; rests = z }
