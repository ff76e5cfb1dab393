use Rattle.std.proofs.Common.{ℕ, get_or, None, Option, subst, arith, rules}
use borrow.Author.Tests.{tests}
use Rattle.std.proofs.lemmas.Iterator.{YieldsList-from_slice, cases_from_all}
use Rattle.std.proofs.lemmas.Iterator.Consumers.{YieldsList-from_enumerate}
use Rattle.sheet.specs.Answers.{grammar_of}
use Rattle.places.specs.Shape.{SoundPlace}
use Rattle.places.specs.declared.node.Node.{Node}
use Rattle.places.proofs.Checking.{all_numbered}
use Rattle.places.proofs.Looks.{used_below, sound_place}
use Rattle.places.proofs.shape.places_are_sound.Goals as goal

pub returns-then-contains : goal.returns-then-contains
returns-then-contains c =
    let There : ℕ → Option Node → Type 0 = SoundPlace (grammar_of c.args.sheet.now) c.args.places.now in
    let d = all_numbered There c.args.places.now None c.all.result
    (cases_from_all _ _ _ (λ x. There x.0 x.1) (λ x. There x.0 x.1 → ⊥) c.all.ensures.ran (YieldsList-from_enumerate (YieldsList-from_slice c.args.places.now cc) cc) (λ x q k. search (rules, tests)) (λ x q k. search (rules, tests))) in (
      (λ e. record { some_place = grind (arith, c.if-contains.ensures.cases); few_places = grind (arith, c.if-contains.ensures.cases); nodes = λ p n h. subst (There p) h (d.0 e p (used_below c.args.places.now p n h)) }),
      λ s. d.1 (λ p l. sound_place (grammar_of c.args.sheet.now) c.args.places.now p (get_or c.args.places.now p None) (s.nodes p)),
    )
