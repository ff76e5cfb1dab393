-- From a table of places to what the theory of tours asks of it.
use Rattle.std.proofs.Common.{◌≡◌, ℕ, zero, suc, ◌-◌, ◌<◌, true, List, [], ◌∷◌, length, get_or, drop, is_some, Some, None, Option, sym, refl, ap, ◌∙◌, subst, inl, inr, arith}
use mathlib.Core.Bool.{false≢true}
use Rattle.grammar.specs.Model.{Grammar}
use Rattle.tour.specs.Nodes.Link.{top, under}
use Rattle.tour.specs.Rules.{rule}
use Rattle.tour.specs.Shapes.{Climbs, Shape}
use Rattle.tour.proofs.Shapes.{Under, not_top}
use Rattle.places.specs.Places.{at, used, parent_in, parent_at, arity, firsts, link_of, cell_of, table}
use Rattle.places.specs.Shape.{climbs, top_from, depth_from, ChildOf, ChildThere, ParentOf, ParentThere, HangsBelow, SoundNode, RootThere, SoundPlaces, InShape}
use Rattle.places.specs.declared.node.Node.{Node}
use Rattle.places.specs.declared.node.Parent.{Parent}
use Rattle.places.proofs.Ascents.{climbs_parent, top_end, top_up, depth_most, depth_parent, by_parent}
use Rattle.places.proofs.Growing.{Ranked}

-- the first numbers of a row
pub length_firsts : (n : ℕ) (cs : List ℕ) → length (firsts n cs) ≡ n
length_firsts zero cs = refl
length_firsts (suc n) cs = ap suc (length_firsts n (drop 1 cs))

get_d_drop : (cs : List ℕ) (k : ℕ) → get_or (drop 1 cs) k 0 ≡ get_or cs (suc k) 0
get_d_drop [] k = refl
get_d_drop (c ∷ cs) k = refl

pub get_d_firsts : (n k : ℕ) (cs : List ℕ) → k < n → get_or (firsts n cs) k 0 ≡ get_or cs k 0
get_d_firsts zero k cs h = absurd (omega arith)
get_d_firsts (suc n) zero cs h = refl
get_d_firsts (suc n) (suc k) cs h = get_d_firsts n k (drop 1 cs) (omega arith) ∙ get_d_drop cs k

-- a place is used just where it holds a node
pub used_node : (ps : List (Option Node)) (p : ℕ) → used ps p ≡ true → (n : Node) × (at ps p ≡ Some n)
used_node ps p u = by (at ps p) u
  where
    by : (o : Option Node) → is_some o ≡ true → (n : Node) × (o ≡ Some n)
    by None h = absurd (false≢true h)
    by (Some n) h = (n, refl)

pub node_used : (ps : List (Option Node)) (p : ℕ) (n : Node) → at ps p ≡ Some n → used ps p ≡ true
node_used ps p n e = ap is_some e

child_there : (g : Grammar) (p k x : ℕ) (o : Option Node) → ChildThere g p k x o → (m : Node) × (o ≡ Some m) × ChildOf g p k x m
child_there g p k x None h = absurd h
child_there g p k x (Some m) h = (m, refl, h)

parent_there : (g : Grammar) (p i : ℕ) (o : Option Node) → ParentThere g p i o → (m : Node) × (o ≡ Some m) × ParentOf g p i m
parent_there g p i None h = absurd h
parent_there g p i (Some m) h = (m, refl, h)

module _ (g : Grammar) (ps : List (Option Node)) where
  -- a node and its parent, as the table shows them
  pub parent_of_node : (p : ℕ) (n : Node) → at ps p ≡ Some n → parent_at ps p ≡ n.parent
  parent_of_node p n e = ap parent_in e

  pub link_parent : (p : ℕ) → (table g ps p).link ≡ link_of (parent_at ps p)
  link_parent p = by (at ps p)
    where
      by : (o : Option Node) → (cell_of g o).link ≡ link_of (parent_in o)
      by None = refl
      by (Some n) = refl

  pub under_parent : (p u k : ℕ) → (table g ps p).link ≡ under u k → parent_at ps p ≡ Some (record { place = u; position = k })
  under_parent p u k e = by (parent_at ps p) (sym (link_parent p) ∙ e)
    where
      by : (o : Option Parent) → link_of o ≡ under u k → o ≡ Some (record { place = u; position = k })
      by None h = absurd (not_top (link_of None) u k refl h)
      by (Some v) h =
          let a : v.place ≡ u = cc in
          let b : v.position ≡ k = cc in
          λ i. Some (record { place = a i; position = b i })

  pub parent_under : (p : ℕ) (u : Parent) → parent_at ps p ≡ Some u → (table g ps p).link ≡ under u.place u.position
  parent_under p u e = link_parent p ∙ ap link_of e

  pub no_parent : (p : ℕ) → parent_at ps p ≡ None → (table g ps p).link ≡ top
  no_parent p e = link_parent p ∙ ap link_of e

  pub climbs_table : (n p : ℕ) → climbs ps n p ≡ true → Climbs (table g ps) n p
  climbs_table zero p h = absurd (false≢true h)
  climbs_table (suc n) p h =
      by_parent ps p (λ e. inl (no_parent p e))
      (λ u e. inr (u.place, u.position, parent_under p u e, climbs_table n u.place (climbs_parent ps n p u e h)))

  -- the way that climbing takes
  pub climb_under : (n p : ℕ) → climbs ps n p ≡ true → (m : ℕ) × (m < n) × Under (table g ps) m p (top_from ps n p)
  climb_under zero p h = absurd (false≢true h)
  climb_under (suc n) p h =
      by_parent ps p (λ e. (0, omega arith, sym (top_end ps n p e)))
      (λ u e. let r = climb_under n u.place (climbs_parent ps n p u e h) in
      (suc r.0, omega (arith, r.1), (u.place, u.position, parent_under p u e, subst (λ t. Under (table g ps) r.0 u.place t) (sym (top_up ps n p u e)) r.2)))

  module _ (sp : SoundPlaces g ps) where
    sound : (p : ℕ) (n : Node) → at ps p ≡ Some n → SoundNode g ps p n
    sound p n e = sp.nodes p n e

    -- a child of a used place
    pub child_at : (p k : ℕ) (n : Node) → at ps p ≡ Some n → k < arity g n.rule → (m : Node) × (at ps (get_or n.children k 0) ≡ Some m) × ChildOf g p k (get_or (rule g n.rule).right k 0) m
    child_at p k n e h = child_there g p k (get_or (rule g n.rule).right k 0) (at ps (get_or n.children k 0)) ((sound p n e).children_there k h)

    -- the parent of a used place
    pub parent_at_lem : (p : ℕ) (n : Node) (u : Parent) → at ps p ≡ Some n → n.parent ≡ Some u → (m : Node) × (at ps u.place ≡ Some m) × ParentOf g p u.position m
    parent_at_lem p n u e h = parent_there g p u.position (at ps u.place) (subst (HangsBelow g ps p) h (sound p n e).parent_there)

    pub ends_used : (p : ℕ) → used ps p ≡ true → climbs ps 64 p ≡ true
    ends_used p u = let n = used_node ps p u in (sound p n.0 n.1).ends

    -- what holds of each node with what is known of it holds at each used place
    on_node : (Q : Option Node → Type 0) (p : ℕ) → ((n : Node) → at ps p ≡ Some n → Q (Some n)) → used ps p ≡ true → Q (at ps p)
    on_node Q p f u = let n = used_node ps p u in subst Q (sym n.1) (f n.0 n.1)

    -- child number k of a used place
    kid_at : (Q : ℕ → Type 0) (p k : ℕ) (n : Node) → at ps p ≡ Some n → k < length (firsts (arity g n.rule) n.children) → ((m : Node) → at ps (get_or n.children k 0) ≡ Some m → ChildOf g p k (get_or (rule g n.rule).right k 0) m → Q (get_or n.children k 0)) → Q (get_or (firsts (arity g n.rule) n.children) k 0)
    kid_at Q p k n e h f =
        let l : k < arity g n.rule = omega (arith, length_firsts (arity g n.rule) n.children) in
        let c = child_at p k n e l in
        subst Q (sym (get_d_firsts (arity g n.rule) k n.children l)) (f c.0 c.1 c.2)

    pub ranked : Ranked g (table g ps) (used ps)
    ranked = record {
      rules = λ p. on_node (λ o. (cell_of g o).rule < length g.rules) p (λ n e. (sound p n e).rule_there);
      kids = λ p. on_node (λ o. length (cell_of g o).kids ≡ arity g (cell_of g o).rule) p (λ n e. length_firsts (arity g n.rule) n.children);
      kid_used = λ p k. on_node (λ o. k < length (cell_of g o).kids → used ps (get_or (cell_of g o).kids k 0) ≡ true) p
          (λ n e h. kid_at (λ q. used ps q ≡ true) p k n e h (λ m f c. node_used ps (get_or n.children k 0) m f));
      kid_link = λ p k. on_node (λ o. k < length (cell_of g o).kids → (table g ps (get_or (cell_of g o).kids k 0)).link ≡ under p (suc k)) p
          (λ n e h. kid_at (λ q. (table g ps q).link ≡ under p (suc k)) p k n e h (λ m f c. parent_under (get_or n.children k 0) (record { place = p; position = suc k }) (parent_of_node (get_or n.children k 0) m f ∙ c.hangs)));
      kid_symbol = λ p k. on_node (λ o. k < length (cell_of g o).kids → (rule g (table g ps (get_or (cell_of g o).kids k 0)).rule).left ≡ get_or (rule g (cell_of g o).rule).right k 0) p
          (λ n e h. kid_at (λ q. (rule g (table g ps q).rule).left ≡ get_or (rule g n.rule).right k 0) p k n e h (λ m f c. ap (λ o. (rule g (cell_of g o).rule).left) f ∙ c.symbol_is));
      link_used = λ p u k w e. let q = hung p u k w e in node_used ps u q.0 q.1;
      link_kid = λ p u k w e. kid_of p u k (hung p u k w e);
      depth = λ p. depth_from ps 64 p;
      kid_depth = λ p u k w e. depth_parent ps 63 p (record { place = u; position = k }) (under_parent p u k e) (ends_used p w);
      few_deep = λ p w. depth_most ps 64 p;
    }
      where
        hung : (p u k : ℕ) → used ps p ≡ true → (table g ps p).link ≡ under u k → (m : Node) × (at ps u ≡ Some m) × ParentOf g p k m
        hung p u k w e =
            let n = used_node ps p w in
            parent_at_lem p n.0 (record { place = u; position = k }) n.1 (sym (parent_of_node p n.0 n.1) ∙ under_parent p u k e)

        kid_of : (p u k : ℕ) → (m : Node) × (at ps u ≡ Some m) × ParentOf g p k m → (j : ℕ) × (j < length (table g ps u).kids) × (get_or (table g ps u).kids j 0 ≡ p)
        kid_of p u k (m, e, c) =
            let l : k - 1 < arity g m.rule = omega (arith, c.first, c.last) in
            subst (λ o. (j : ℕ) × (j < length (cell_of g o).kids) × (get_or (cell_of g o).kids j 0 ≡ p)) (sym e)
            (k - 1, omega (arith, length_firsts (arity g m.rule) m.children), get_d_firsts (arity g m.rule) (k - 1) m.children l ∙ c.points)

    pub ranked_depth : (p : ℕ) → ranked.depth p ≡ depth_from ps 64 p
    unfolding ranked
    ranked_depth p = refl

  pub root_node : (root : ℕ) → RootThere g (at ps root) → (n : Node) × (at ps root ≡ Some n) × (n.parent ≡ None) × ((rule g n.rule).left ≡ 0)
  root_node root = by (at ps root)
    where
      by : (o : Option Node) → RootThere g o → (n : Node) × (o ≡ Some n) × (n.parent ≡ None) × ((rule g n.rule).left ≡ 0)
      by None h = absurd h
      by (Some n) h = (n, refl, h.free_standing, h.start)

  -- a table in shape has the shape that tours ask for
  pub shape_table : (root : ℕ) → InShape g ps root → Shape g (table g ps) (used ps) root
  shape_table root sh =
      let r = ranked sh.places_sound in
      let n = root_node root sh.root_there in
      record {
        root_used = node_used ps root n.0 n.1;
        root_top = no_parent root (parent_of_node root n.0 n.1 ∙ n.2);
        root_start = ap (λ o. (rule g (cell_of g o).rule).left) n.1 ∙ n.3;
        rules = r.rules;
        kids = r.kids;
        kid_used = r.kid_used;
        kid_link = r.kid_link;
        kid_symbol = r.kid_symbol;
        climbs = λ p u. climbs_table 64 p (ends_used sh.places_sound p u);
      }
