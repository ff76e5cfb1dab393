use Rattle.std.proofs.Common.{◌≡◌, ◌-◌, ◌<◌, [], ◌∷◌, ◌++◌, length, set, None, sym, ap, ◌∙◌, subst, ap₂, arith, lt-ltb, if◌then◌else◌, Ok, Err, is_ok}
use Rattle.std.proofs.lemmas.List.{length-take-le}
use Rattle.sheet.specs.Answers.{grammar_of}
use Rattle.places.specs.Stack.{stacked}
use Rattle.exchange.proofs.Blocks.{Freeing, last, freeing_starts, went_down, let_go, all_free, one_less}
use Rattle.exchange.proofs.Targets.{used_within}
use Rattle.exchange.proofs.block.free_block.Goals as goal

pub unwrap-requires : goal.unwrap-requires
unwrap-requires c =
    let l = ap length c.over-path.ensures.cells in
    let r = c.requires.room in
    let none = c.over-path.ensures.empty in
    ap is_ok c.push.ensures.room ∙ ap (λ b. is_ok (if b then Ok tt else Err c.args.block)) (lt-ltb _ _ (omega arith))

pub loop-p-init : goal.loop-p-init
loop-p-init c =
    let cells = c.over-path.ensures.cells in
    let none = c.over-path.ensures.empty in
    let st : stacked c.push.new.self.cells.now c.push.new.self.len ≡ c.args.block ∷ [] = (rw c.unwrap.ensures at c.push.ensures.stack) ∙ ap (λ n. stacked c.over-path.result.cells.now n ++ c.args.block ∷ []) none in
    ((let l = ap length cells in let k = c.push.ensures.cells in let r = c.requires.room in omega arith), subst (Freeing c.args.places.now c.args.places.now c.args.block) (sym st) (freeing_starts (grammar_of c.args.sheet.now) c.args.places.now c.requires.sound c.args.block c.requires.there c.requires.top))

module _ (c : goal.After-push-in-Some-used_child) where
  down : (length (stacked c.loop-p.path.cells.now (c.loop-p.path.len - 1) ++ c.in-Some.p ∷ []) < 64) × Freeing c.args.places.now c.loop-p.places c.args.block ((stacked c.loop-p.path.cells.now (c.loop-p.path.len - 1) ++ c.in-Some.p ∷ []) ++ c.in-Some-used_child.child ∷ [])
  down =
      let f = subst (Freeing c.args.places.now c.loop-p.places c.args.block) c.in-Some.ensures c.loop-p.invariant.1 in
      went_down (grammar_of c.args.sheet.now) c.args.places.now c.requires.sound c.args.block c.loop-p.places (stacked c.loop-p.path.cells.now (c.loop-p.path.len - 1)) c.in-Some.p c.in-Some-used_child.child f c.in-Some-used_child.ensures

  few : c.loop-p.path.len < 64
  few =
      let a = down.0 in
      let b = ap length c.in-Some.ensures in
      let d = length-take-le c.loop-p.path.len c.loop-p.path.cells.now c.loop-p.path.ok in
      omega arith

pub unwrap-requires-in-Some-used_child : goal.unwrap-requires-in-Some-used_child
unwrap-requires-in-Some-used_child c =
    let a = few c in
    let b = c.loop-p.invariant.0 in
    ap is_ok c.push-in-Some-used_child.ensures.room ∙ ap (λ b. is_ok (if b then Ok tt else Err c.in-Some-used_child.child)) (lt-ltb _ _ (omega arith))

pub loop-p-smaller-in-Some-used_child : goal.loop-p-smaller-in-Some-used_child
loop-p-smaller-in-Some-used_child c = let a = few c.before in let b = rw c.unwrap-in-Some-used_child.ensures at c.push-in-Some-used_child.ensures.len in omega arith

pub loop-p-preserved-in-Some-used_child : goal.loop-p-preserved-in-Some-used_child
loop-p-preserved-in-Some-used_child c =
    let st = (rw c.unwrap-in-Some-used_child.ensures at c.push-in-Some-used_child.ensures.stack) ∙ ap (λ z. z ++ c.in-Some-used_child.child ∷ []) c.in-Some.ensures in
    ((let a = c.push-in-Some-used_child.ensures.cells in let b = c.loop-p.invariant.0 in omega arith), subst (Freeing c.args.places.now c.loop-p.places c.args.block) (sym st) (down c.before).1)

pub bounds-places-from : goal.bounds-places-from
bounds-places-from c =
    let f = subst (Freeing c.args.places.now c.loop-p.places c.args.block) c.in-Some.ensures c.loop-p.invariant.1 in
    let l = last c.args.places.now c.loop-p.places c.args.block (stacked c.loop-p.path.cells.now (c.loop-p.path.len - 1)) c.in-Some.p f in
    let w = used_within c.loop-p.places c.in-Some.p l.there in
    omega arith

pub loop-p-smaller : goal.loop-p-smaller
loop-p-smaller c =
    let f = subst (Freeing c.args.places.now c.loop-p.places c.args.block) c.in-Some.ensures c.loop-p.invariant.1 in
    let l = last c.args.places.now c.loop-p.places c.args.block (stacked c.loop-p.path.cells.now (c.loop-p.path.len - 1)) c.in-Some.p f in
    let w = one_less c.loop-p.places c.in-Some.p l.there in
    let e = c.from.ensures in
    let n = c.pop.ensures.len in
    rw e (omega arith)

pub loop-p-preserved : goal.loop-p-preserved
loop-p-preserved c =
    let f = subst (Freeing c.args.places.now c.loop-p.places c.args.block) c.in-Some.ensures c.loop-p.invariant.1 in
    let go = let_go (grammar_of c.args.sheet.now) c.args.places.now c.requires.sound c.args.block c.loop-p.places (stacked c.loop-p.path.cells.now (c.loop-p.path.len - 1)) c.in-Some.p f c.in-None.ensures in
    let st : stacked c.pop.new.self.cells.now c.pop.new.self.len ≡ stacked c.loop-p.path.cells.now (c.loop-p.path.len - 1) = ap₂ (λ cells n. stacked cells n) c.pop.ensures.cells c.pop.ensures.len in
    ((let a = ap length c.pop.ensures.cells in let b = c.loop-p.invariant.0 in omega arith), subst (Freeing c.args.places.now (set c.loop-p.places c.from.result None) c.args.block) (sym st) (subst (λ p. Freeing c.args.places.now (set c.loop-p.places p None) c.args.block (stacked c.loop-p.path.cells.now (c.loop-p.path.len - 1))) (sym c.from.ensures) go))

pub returns : goal.returns
returns c = all_free (grammar_of c.args.sheet.now) c.args.places.now c.requires.sound c.args.block c.loop-p.places (subst (Freeing c.args.places.now c.loop-p.places c.args.block) (ap (stacked c.loop-p.path.cells.now) c.in_default.ensures) c.loop-p.invariant.1)
