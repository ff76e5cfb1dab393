use Rattle.std.proofs.Common.{◌≡◌, arith, rules, length-drop, length-take}
use borrow.Author.Tests.{tests}
use Rattle.std.proofs.lemmas.Iterator.{IsFirst-from_position, YieldsList-from_slice}
use Rattle.words.proofs.Parts.{cut_at_lem, cut_none}
use Rattle.words.proofs.cut.Goals as goal

pub returns-in_err-at : goal.returns-in_err-at
returns-in_err-at c =
    let f = IsFirst-from_position _ _ _ (λ x. x ≡ c.args.c) (λ x. x ≡ c.args.c → ⊥) c.in_err-at.ensures.ran (YieldsList-from_slice c.args.s.now cc) (λ x q k. search (rules, tests)) (λ x q k. search (rules, tests)) in
    let n = cut_none c.args.c c.args.s.now (λ k l e. f k 0 (omega arith) l e) in search rules

pub returns : goal.returns
returns c =
    let f = IsFirst-from_position _ _ _ (λ x. x ≡ c.args.c) (λ x. x ≡ c.args.c → ⊥) c.in_ok-at.ensures.ran (YieldsList-from_slice c.args.s.now cc) (λ x q k. search (rules, tests)) (λ x q k. search (rules, tests)) in
    (cut_at_lem c.args.s.now c.in_ok-at.at c.args.c f.0 (f.1 0) (λ k l e. f.2 k 0 (omega arith) l e), let l = f.0 in simp (length-take, length-drop) (omega arith))
