-- Each used place of a table in shape stands in the tree at one top.
use Rattle.std.proofs.Common.{◌≡◌, ℕ, zero, suc, true, List, Some, None, Option, sym, ap, ◌∙◌, subst, arith}
use Rattle.grammar.specs.Model.{Grammar}
use Rattle.tour.specs.Runs.{In}
use Rattle.tour.specs.Trees.{places_in}
use Rattle.tour.proofs.Shapes.{Under}
use Rattle.places.specs.Places.{used, parent_at, table}
use Rattle.places.specs.Shape.{top_from, SoundPlaces, InTree}
use Rattle.places.specs.Trees.{Top, tree_at, ShownTree, TreesLaw}
use Rattle.places.specs.declared.node.Node.{Node}
use Rattle.places.specs.declared.node.Parent.{Parent}
use Rattle.places.proofs.Ascents.{top_end, top_parent, top_free, top_keeps, depth_end}
use Rattle.places.proofs.Growing.{tree_grown, tree_below, below_tree}
use Rattle.places.proofs.Tables.{used_node, node_used, parent_of_node, under_parent, no_parent, climb_under, parent_at_lem, ends_used, ranked, ranked_depth, root_node, shape_table}

module _ (g : Grammar) (ps : List (Option Node)) (sp : SoundPlaces g ps) where
  -- a place below another one has its top
  under_top : (m x t : ℕ) → used ps x ≡ true → Under (table g ps) m x t → top_from ps 64 x ≡ top_from ps 64 t
  under_top zero x t u e = ap (top_from ps 64) e
  under_top (suc m) x t u (v, k, e, r) =
      top_parent ps 63 x (record { place = v; position = k }) (under_parent g ps x v k e) (ends_used g ps sp x u)
      ∙ under_top m v t ((ranked g ps sp).link_used x v k u e) r

  top_parentless : (t : ℕ) → Top ps t → parent_at ps t ≡ None
  top_parentless t h = parent_of_node g ps t h.node h.there ∙ h.free_standing

  pub top_itself : (t : ℕ) → Top ps t → top_from ps 64 t ≡ t
  top_itself t h = top_end ps 63 t (top_parentless t h)

  -- climbing from a used place ends at a top
  pub top_at : (p : ℕ) → used ps p ≡ true → Top ps (top_from ps 64 p)
  top_at p u =
      let n = used_node ps (top_from ps 64 p) (top_keeps ps (λ q. used ps q ≡ true) up 64 p u) in
      record { node = n.0; there = n.1; free_standing = sym (parent_of_node g ps (top_from ps 64 p) n.0 n.1) ∙ top_free ps 64 p (ends_used g ps sp p u) }
    where
      up : (q : ℕ) (v : Parent) → used ps q ≡ true → parent_at ps q ≡ Some v → used ps v.place ≡ true
      up q v w e =
          let n = used_node ps q w in
          let m = parent_at_lem g ps sp q n.0 v n.1 (sym (parent_of_node g ps q n.0 n.1) ∙ e) in
          node_used ps v.place m.0 m.1

  -- its places are just those from which climbing ends at t
  tree_places : (t p : ℕ) → Top ps t → In p (places_in (tree_at g ps t)) → InTree ps t p
  tree_places t p h m =
      let b = tree_below g (table g ps) (used ps) (ranked g ps sp) t p (node_used ps t h.node h.there) m in
      let n = used_node ps p b.1.used' in
      record { node = n.0; there = n.1; below_root = under_top b.0 p t b.1.used' b.1.way ∙ top_itself t h }

  places_tree : (t p : ℕ) → InTree ps t p → In p (places_in (tree_at g ps t))
  places_tree t p i =
      let u = node_used ps p i.node i.there in
      let c = climb_under g ps 64 p (ends_used g ps sp p u) in
      below_tree g (table g ps) (used ps) (ranked g ps sp) t p c.0 (omega (arith, c.1)) u (subst (λ z. Under (table g ps) c.0 p z) i.below_root c.2)

  pub tree_shown : (t : ℕ) → Top ps t → ShownTree g ps t
  tree_shown t h =
      let free = top_parentless t h in
      let r = tree_grown g (table g ps) (used ps) (ranked g ps sp) t (node_used ps t h.node h.there) (no_parent g ps t free) (ranked_depth g ps sp t ∙ depth_end ps 63 t free) in
      record { shown = r.shown; agrees = r.agrees; apart = r.apart; within = r.within; places_are = λ p. (tree_places t p h, places_tree t p) }

  pub one_top : (p t u : ℕ) → Top ps t → Top ps u → In p (places_in (tree_at g ps t)) → In p (places_in (tree_at g ps u)) → t ≡ u
  one_top p t u ht hu mt mu = sym (tree_places t p ht mt).below_root ∙ (tree_places u p hu mu).below_root

pub trees_law : TreesLaw
trees_law g ps root sh =
    let s = shape_table g ps root sh in
    let n = root_node g ps root sh.root_there in
    let sp = sh.places_sound in
    record {
      trees = tree_shown g ps sp;
      root_top = record { node = n.0; there = n.1; free_standing = n.2 };
      root_start = s.root_start;
      held_tops = λ t. ((λ h. (record { node = h.node; there = h.there; free_standing = h.free_standing }, h.other)), λ h. record { node = h.0.node; there = h.0.there; free_standing = h.0.free_standing; other = h.1 });
      some_top = λ p m e. top_at g ps sp p (node_used ps p m e);
      one_top = one_top g ps sp;
    }
