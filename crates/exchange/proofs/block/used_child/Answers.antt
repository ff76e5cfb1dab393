use Rattle.std.proofs.Common.{◌≡◌, ℕ, ◌<◌, true, false, List, map, length, get_or, Some, None, Option, MatchOption, sym, ap, ◌∙◌, subst, arith, rules}
use borrow.Author.Tests.{tests}
use Rattle.std.specs.List.{AllWithin, HoldsAt, range_with_len}
use Rattle.std.proofs.lemmas.Iterator.{YieldsList-from_range, YieldsList-from_map, first_from_find}
use Rattle.sheet.specs.Answers.{grammar_of}
use Rattle.places.specs.Places.{at, used, firsts, cell_of, table}
use Rattle.places.specs.declared.node.Node.{Node}
use Rattle.exchange.specs.Freeing.{UsedChild}
use Rattle.exchange.proofs.Targets.{firsts_each}
use Rattle.exchange.proofs.block.used_child.Goals as goal

-- the first used one of a row of children is one of them
first_used : (ps : List (Option Node)) (kids : List ℕ) (o : Option ℕ)
    → MatchOption o (AllWithin (λ x. used ps x ≡ false) kids 0 (length kids)) (λ x. (used ps x ≡ true) × (i : ℕ) × (i < length kids) × HoldsAt (λ y. y ≡ x) kids i × AllWithin (λ y. used ps y ≡ false) kids 0 i) → UsedChild ps kids o
first_used ps kids None h = λ k l. h k 0 (omega arith) l
first_used ps kids (Some x) (u, i, l, e, b) = (u, (i, l, sym (e 0)))

pub returns : goal.returns
returns c =
    let ps = c.args.places.now in
    let g = grammar_of c.args.sheet.now in
    let node = c.in_ok-node.node in
    let there : at ps c.args.p ≡ Some node = sym c.node_at.ensures ∙ c.in_ok-node.was in
    let kids = map (λ k. get_or node.children k 0) (range_with_len 0 c.arity_of.result) in
    let same : kids ≡ (table g ps c.args.p).kids =
    firsts_each c.arity_of.result 0 node.children ∙ ap (λ n. firsts n node.children) c.arity_of.ensures.value ∙ sym (ap (λ o. (cell_of g o).kids) there) in
    subst (λ row. UsedChild ps row c.find.result) same (first_used ps kids c.find.result
    (first_from_find _ _ c.find.result (λ x. used ps x ≡ true) (λ x. used ps x ≡ false) c.find.ensures.ran
    (YieldsList-from_map _ (λ k. get_or node.children k 0) (YieldsList-from_range 0 c.arity_of.result c.arity_of.result c.map.ensures.source (omega arith)) c.map.ensures.closure (λ x r q k. search (rules, tests)))
    (λ x q k. search (rules, tests)) (λ x q k. search (rules, tests))))
