-- A table of places in shape has the shape that the theory of tours speaks of, and a walk can start in it.
use Rattle.tour.proofs.Accepted.{sound_accepted}
use Rattle.std.proofs.Common.{◌≡◌, ℕ, zero, suc, ◌<◌, ◌≤◌, true, List, [], ◌∷◌, length, get_or, is_some, Some, None, Option, sym, refl, ap, ◌∙◌, inl, inr, arith, length-append}
use Rattle.grammar.specs.Model.{Grammar}
use Rattle.grammar.specs.declared.terms.Instruction.TheVariants.{Return}
use Rattle.places.specs.Places.{at, used, arity, parent_at, parent_in, link_of, cell_of, table}
use Rattle.places.specs.Shape.{climbs, ChildOf, ChildThere, RootNode, RootThere, SoundPlaces, InShape}
use Rattle.places.specs.declared.node.Node.{Node}
use Rattle.places.specs.declared.node.Parent.{Parent}
use Rattle.tour.specs.Nodes.Link.{under}
use Rattle.tour.specs.Rules.{rule}
use Rattle.tour.specs.Shapes.{Climbs, Shape, grow, tree_from}
use Rattle.tour.proofs.Ruled.{Accepted}
use Rattle.tour.proofs.Deep.{deep_tour}
use Rattle.tour.proofs.Shapes.{shape_planted, day_rooted}
use Rattle.tour.proofs.Walks.{walk_begins}
use Rattle.walk.specs.Moves.{starting}
use Rattle.sheet.specs.Meaning.{Sound}
use Rattle.walk.specs.Walking.{Started}
use Rattle.walk.proofs.Looking.{child_at, kids_count}
use Rattle.walk.proofs.Naming.{node_of, child_used, rule_used, kids_right}

child_of : (g : Grammar) (p k x : ℕ) (o : Option Node) → ChildThere g p k x o → (m : Node) × (o ≡ Some m) × ChildOf g p k x m
child_of g p k x None h = absurd h
child_of g p k x (Some m) h = (m, refl, h)

root_of_lem : (g : Grammar) (o : Option Node) → RootThere g o → (m : Node) × (o ≡ Some m) × RootNode g m
root_of_lem g None h = absurd h
root_of_lem g (Some m) h = (m, refl, h)

module _ (g : Grammar) (ps : List (Option Node)) where
  link_is : (o : Option Node) → (cell_of g o).link ≡ link_of (parent_in o)
  link_is None = refl
  link_is (Some n) = refl

  climbs_up : (n p : ℕ) → climbs ps n p ≡ true → Climbs (table g ps) n p
  climbs_up zero p h = let z : ◌≡◌ {A = ℕ} 0 1 = cc in absurd (omega arith)
  climbs_up (suc n) p h = by (parent_at ps p) refl (climbs_up n)
    where
      by : (u : Option Parent) → parent_at ps p ≡ u → ((q : ℕ) → climbs ps n q ≡ true → Climbs (table g ps) n q) → Climbs (table g ps) (suc n) p
      by None e more = inl (link_is (at ps p) ∙ ap link_of e)
      by (Some u) e more = inr (u.place, u.position, link_is (at ps p) ∙ ap link_of e, more u.place (ap (λ o. elim o [ None ↦ true | Some v ↦ climbs ps n v.place ]) (sym e) ∙ h))

  child_at_place : (p k : ℕ) → SoundPlaces g ps → used ps p ≡ true → k < length (table g ps p).kids → (n : Node) × (m : Node) × (at ps p ≡ Some n) × (at ps (get_or (table g ps p).kids k 0) ≡ Some m) × ChildOf g p k (get_or (rule g n.rule).right k 0) m
  child_at_place p k so u h =
      let n = node_of (at ps p) u in
      let l : k < arity g n.0.rule = omega (arith, kids_count g ps p n.0 n.1) in
      let c = child_of g p k (get_or (rule g n.0.rule).right k 0) (at ps (get_or n.0.children k 0)) ((so.nodes p n.0 n.1).children_there k l) in
      (n.0, c.0, n.1, ap (at ps) (child_at g ps p n.0 n.1 k l) ∙ c.1, c.2)

  -- a child hangs below its parent, and has the symbol that the rule has there
  pub kid_link : (p k : ℕ) → SoundPlaces g ps → used ps p ≡ true → k < length (table g ps p).kids → (table g ps (get_or (table g ps p).kids k 0)).link ≡ under p (suc k)
  kid_link p k so u h = let c = child_at_place p k so u h in ap (λ o. (cell_of g o).link) c.3 ∙ ap link_of c.4.hangs

  pub kid_symbol : (p k : ℕ) → SoundPlaces g ps → used ps p ≡ true → k < length (table g ps p).kids → (rule g (table g ps (get_or (table g ps p).kids k 0)).rule).left ≡ get_or (rule g (table g ps p).rule).right k 0
  kid_symbol p k so u h =
      let c = child_at_place p k so u h in
      ap (λ o. (rule g (cell_of g o).rule).left) c.3 ∙ c.4.symbol_is ∙ ap (λ o. get_or (rule g (cell_of g o).rule).right k 0) (sym c.2)

  pub shape_of : (root : ℕ) → InShape g ps root → Shape g (table g ps) (used ps) root
  shape_of root sh =
      let so = sh.places_sound in
      let r = root_of_lem g (at ps root) sh.root_there in
      record {
        root_used = ap is_some r.1;
        root_top = ap (λ o. (cell_of g o).link) r.1 ∙ ap link_of r.2.free_standing;
        root_start = ap (λ o. (rule g (cell_of g o).rule).left) r.1 ∙ r.2.start;
        rules = λ p u. rule_used g ps p so u;
        kids = λ p u. kids_right g ps p u;
        kid_used = λ p k u h. child_used g ps p k so u h;
        kid_link = λ p k u h. kid_link p k so u h;
        kid_symbol = λ p k u h. kid_symbol p k so u h;
        climbs = λ p u. let n = node_of (at ps p) u in climbs_up 64 p (so.nodes p n.0 n.1).ends;
      }

  some_plan : (r : ℕ) → Accepted g → r < length g.rules → 0 < length (rule g r).plan
  some_plan r ac l =
      let w = (ac.rules r l).1.return_last in
      omega (arith, ap length w.2, length-append w.0 (Return w.1 ∷ []))

  -- a walk that starts at the root has the whole tour ahead
  pub starts : (root n : ℕ) → 64 ≤ n → Sound g → InShape g ps root → Started g ps root (starting root n)
  starts root n h wa sh =
      let T = table g ps in
      let s = shape_of root sh in
      let p = day_rooted g T (used ps) root s in
      let l = s.rules root s.root_used in
      let some = some_plan (T root).rule (sound_accepted g wa) l in
      record {
        walking = record {
          sound = wa;
          places_sound = sh.places_sound;
          place_used = s.root_used;
          next_there = some;
          mode_fits = tt;
          frames_visit = tt;
          few_frames = omega arith;
          enough_room = h;
          framed = ((grow T 63 root, p.shown.2, p.shown.4, p.agrees.2, p.depth.0, l, some), tt);
        };
        whole = walk_begins g T 63 root ∙ deep_tour g T (tree_from T 63 root) 64 (shape_planted g T (used ps) root wa s) p.depth;
      }
