use Rattle.std.proofs.Common.{◌≡◌, ℕ, Bool, Some, Option, not, ◌||◌, length, sym, ap, refl, ◌∙◌, rules}
use Rattle.std.proofs.lemmas.Iterator.{YieldsList-from_slice}
use Rattle.std.proofs.lemmas.Iterator.Consumers.{YieldsList-from_enumerate}
use Rattle.std.proofs.lemmas.Iterator.Search.{all_from_yields_List}
use Rattle.std.proofs.Math.Seq.{take-length}
use borrow.Author.Tests.{tests}
use Rattle.grammar.specs.Tests.{every_below}
use Rattle.grammar.specs.declared.terms.Attribute.{Attribute}
use Rattle.grammar.specs.declared.terms.Instruction.TheVariants.{Evaluate}
use Rattle.plans.specs.PlanTests.{attribute_is, stands, stands_before}
use Rattle.plans.proofs.Chains.{all_places}
use Rattle.plans.proofs.Group.evaluated_before.Goals as goal

pub returns : goal.returns
returns c =
    let behind : (a : ℕ) → stands (Evaluate c.args.occurrence a) c.args.before.now ≡ stands_before c.args.before.now (length c.args.before.now) (Evaluate c.args.occurrence a) = λ a. ap (stands (Evaluate c.args.occurrence a)) (sym (take-length c.args.before.now)) in
    let test : ℕ → Option Attribute → Bool = λ a x. not (attribute_is c.args.flow c.args.visit x) || stands_before c.args.before.now (length c.args.before.now) (Evaluate c.args.occurrence a) in
    all_from_yields_List (λ p. test p.0 (Some p.1)) _ _ _ c.all.ensures.ran (YieldsList-from_enumerate (YieldsList-from_slice c.attributes.result.now (cc)) (cc)) (λ x b q k. search (rules, tests, behind))
    ∙ all_places test c.attributes.result.now (λ _. refl)
    ∙ (λ i. every_below (λ a. test a (c.attributes.ensures.each a i)) (c.attributes.ensures.count i))
