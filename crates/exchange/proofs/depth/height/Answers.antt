use Rattle.std.proofs.Common.{length, sym, subst, arith, rules}
use borrow.Author.Tests.{tests}
use Rattle.std.proofs.lemmas.Iterator.{YieldsList-from_range, YieldsList-from_map}
use Rattle.std.proofs.lemmas.Iterator.Consumers.{max_from_yields_List}
use Rattle.exchange.specs.Heights.{depth_in}
use Rattle.exchange.proofs.Deepest.{Largest, height_from, largest_found}
use Rattle.exchange.proofs.depth.height.Goals as goal

pub returns : goal.returns
returns c =
    let ps = c.args.places.now in
    let deep = depth_in ps c.args.block in
    let most = max_from_yields_List _ c.max.result c.max.ensures.ran (YieldsList-from_map _ deep (YieldsList-from_range 0 (length ps) (length ps) c.map.ensures.source (omega arith)) c.map.ensures.closure (λ x r q k. search (rules, tests))) in
    height_from ps c.args.block (length ps) c.unwrap_or.result c.requires.there c.requires.top (omega arith) (subst (Largest deep (length ps)) (sym c.unwrap_or.ensures) (largest_found deep (length ps) c.max.result most))
