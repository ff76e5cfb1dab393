-- Places whose nodes differ in nothing but their marks.
use Rattle.std.proofs.Common.{◌≡◌, ℕ, zero, suc, ◌-◌, ◌<◌, ◌≤◌, Bool, true, List, length, get_or, is_some, Some, None, Option, sym, refl, ap, ◌∙◌, subst, arith}
use Rattle.grammar.specs.Model.{Grammar}
use Rattle.places.specs.Places.{at, used, parent_at, parent_in, arity, table, cell_of, firsts, link_of}
use Rattle.places.specs.Shape.{climbs, ChildThere, ParentThere, HangsBelow, SoundNode, SoundPlaces}
use Rattle.places.specs.declared.node.Node.{Node}
use Rattle.places.specs.declared.node.Parent.{Parent}
use Rattle.tour.specs.Rules.{rule}
use Rattle.walk.specs.Marked.{LikeNode, Like, Remarked}

like_used : (n m : Option Node) → Like n m → is_some m ≡ is_some n
like_used None None h = refl
like_used None (Some m) h = absurd h
like_used (Some n) None h = absurd h
like_used (Some n) (Some m) h = refl

like_cell : (g : Grammar) (n m : Option Node) → Like n m → cell_of g m ≡ cell_of g n
like_cell g None None h = refl
like_cell g None (Some m) h = absurd h
like_cell g (Some n) None h = absurd h
like_cell g (Some n) (Some m) h = λ i. record { rule = h.same_rule i; code = h.same_datum i; link = link_of (h.same_parent i); kids = firsts (arity g (h.same_rule i)) (h.same_children i) }

like_parent : (n m : Option Node) → Like n m → parent_in m ≡ parent_in n
like_parent None None h = refl
like_parent None (Some m) h = absurd h
like_parent (Some n) None h = absurd h
like_parent (Some n) (Some m) h = h.same_parent

like_child : (g : Grammar) (p k x : ℕ) (n m : Option Node) → Like n m → ChildThere g p k x n → ChildThere g p k x m
like_child g p k x None m h c = absurd c
like_child g p k x (Some n) None h c = absurd h
like_child g p k x (Some n) (Some m) h c = record { hangs = h.same_parent ∙ c.hangs; symbol_is = ap (λ r. (rule g r).left) h.same_rule ∙ c.symbol_is }

like_above : (g : Grammar) (p k : ℕ) (n m : Option Node) → Like n m → ParentThere g p k n → ParentThere g p k m
like_above g p k None m h c = absurd c
like_above g p k (Some n) None h c = absurd h
like_above g p k (Some n) (Some m) h c = record {
  first = c.first;
  last = subst (λ r. k ≤ arity g r) (sym h.same_rule) c.last;
  points = ap (λ l. get_or l (k - 1) 0) h.same_children ∙ c.points;
}

like_node : (o p : Option Node) (m : Node) → Like o p → p ≡ Some m → (n : Node) × (o ≡ Some n) × LikeNode n m
like_node None None m h e = let z : ◌≡◌ {A = ℕ} 0 1 = cc in absurd (omega arith)
like_node None (Some k) m h e = absurd h
like_node (Some n) None m h e = absurd h
like_node (Some n) (Some k) m h e = let i : k ≡ m = cc in (n, refl, subst (LikeNode n) i h)

-- climbing goes on at the parent
abbrev onward : (ℕ → Bool) → Option Parent → Bool
onward f None = true
onward f (Some u) = f u.place

module _ (g : Grammar) (ps qs : List (Option Node)) (r : Remarked g ps qs) where
  pub same_used : (p : ℕ) → used qs p ≡ used ps p
  same_used p = like_used (at ps p) (at qs p) (r.alike p)

  pub same_cells : (p : ℕ) → table g qs p ≡ table g ps p
  same_cells p = like_cell g (at ps p) (at qs p) (r.alike p)

  climbs_same : (n p : ℕ) → climbs qs n p ≡ climbs ps n p
  climbs_same zero p = refl
  climbs_same (suc n) p = ap (onward (climbs qs n)) (like_parent (at ps p) (at qs p) (r.alike p)) ∙ by (parent_at ps p) (climbs_same n)
    where
      by : (o : Option Parent) → ((q : ℕ) → climbs qs n q ≡ climbs ps n q) → onward (climbs qs n) o ≡ onward (climbs ps n) o
      by None f = refl
      by (Some u) f = f u.place

  hangs_too : (p : ℕ) (u : Option Parent) → HangsBelow g ps p u → HangsBelow g qs p u
  hangs_too p None h = tt
  hangs_too p (Some u) h = like_above g p u.position (at ps u.place) (at qs u.place) (r.alike u.place) h

  sound_too : (p : ℕ) (n m : Node) → LikeNode n m → SoundNode g ps p n → at qs p ≡ Some m → SoundNode g qs p m
  sound_too p n m l s e = record {
    rule_there = subst (λ x. x < length g.rules) (sym l.same_rule) s.rule_there;
    row = ap length l.same_children ∙ s.row;
    children_there = λ k h.
        let c = s.children_there k (subst (λ x. k < arity g x) l.same_rule h) in
        let d = like_child g p k (get_or (rule g n.rule).right k 0) (at ps (get_or n.children k 0)) (at qs (get_or n.children k 0)) (r.alike (get_or n.children k 0)) c in
        subst (λ x. ChildThere g p k (get_or (rule g x).right k 0) (at qs (get_or m.children k 0))) (sym l.same_rule)
        (subst (λ x. ChildThere g p k (get_or (rule g n.rule).right k 0) (at qs (get_or x k 0))) (sym l.same_children) d);
    parent_there = subst (HangsBelow g qs p) (sym l.same_parent) (hangs_too p n.parent s.parent_there);
    ends = climbs_same 64 p ∙ s.ends;
    marks_there = r.marks_there p m e;
  }

  pub places_too : SoundPlaces g ps → SoundPlaces g qs
  places_too so = record {
    some_place = omega (arith, so.some_place, r.same_length);
    few_places = omega (arith, so.few_places, r.same_length);
    nodes = λ p m e. let n = like_node (at ps p) (at qs p) m (r.alike p) e in sound_too p n.0 m n.2 (so.nodes p n.0 n.1) e;
  }
