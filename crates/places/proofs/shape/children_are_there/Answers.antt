use Rattle.std.proofs.Common.{ℕ, get_or, rules}
use borrow.Author.Tests.{tests}
use Rattle.std.proofs.lemmas.Iterator.{YieldsList-from_slice, cases_from_all}
use Rattle.std.proofs.lemmas.Iterator.Consumers.{YieldsList-from_enumerate}
use Rattle.sheet.specs.Answers.{grammar_of}
use Rattle.places.specs.Places.{at}
use Rattle.places.specs.Shape.{ChildThere}
use Rattle.places.proofs.Checking.{all_numbered}
use Rattle.places.proofs.shape.children_are_there.Goals as goal

pub returns : goal.returns
returns c =
    let There : ℕ → ℕ → Type 0 = λ k x. ChildThere (grammar_of c.args.sheet.now) c.args.p k x (at c.args.places.now (get_or c.args.node.children k 0)) in
    all_numbered There c.args.right.now 0 c.all.result
    (cases_from_all _ _ _ (λ x. There x.0 x.1) (λ x. There x.0 x.1 → ⊥) c.all.ensures.ran (YieldsList-from_enumerate (YieldsList-from_slice c.args.right.now cc) cc) (λ x q k. search (rules, tests)) (λ x q k. search (rules, tests)))
