use Rattle.std.proofs.Common.{[], ◌++◌, length, sym, refl, ap, ◌∙◌, subst, append-nil, arith}
use Rattle.walk.specs.Walking.{Unowed}
use Rattle.walk.proofs.Going.{passes_unowed}
use Rattle.walk.proofs.walker.Walk.next_owed.Goals as goal

pub loop-found-init : goal.loop-found-init
loop-found-init c = (c.requires, ([], (λ x m. absurd m), refl))

pub next_instance-requires : goal.next_instance-requires
next_instance-requires c = c.loop-found.invariant.0

pub returns-then-is_due : goal.returns-then-is_due
returns-then-is_due c =
    let r = c.in-Some.ensures in
    let i = c.loop-found.invariant.1 in
    record {
      walking = r.walking;
      meeting = r.meeting;
      between = i.0;
      unowed = i.1;
      due = sym c.is_due.ensures ∙ c.if-is_due.true;
      lists = i.2 ∙ ap (λ z. i.0 ++ z) r.lists;
    }

pub loop-found-smaller : goal.loop-found-smaller
loop-found-smaller c = omega (arith, ap length c.in-Some.ensures.lists)

pub loop-found-preserved : goal.loop-found-preserved
loop-found-preserved c =
    let r = c.in-Some.ensures in
    (r.walking, passes_unowed _ _ _ _ _ c.loop-found.invariant.1 r.lists (sym c.is_due.ensures ∙ c.if-is_due.false))

pub returns : goal.returns
returns c =
    let r = c.in_default.ensures in
    let i = c.loop-found.invariant.1 in
    record { walking = r.walking; unowed = subst (Unowed c.args.places.now) (sym (i.2 ∙ ap (λ z. i.0 ++ z) r.lists ∙ append-nil i.0)) i.1; rests = r.rests }
