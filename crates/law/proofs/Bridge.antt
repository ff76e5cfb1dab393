-- What the tables of a rundown that shows a book say of the book's tree.
use Rattle.std.proofs.Common.{◌≡◌, ℕ, ◌-◌, ◌<◌, true, ◌↔◌, List, map, length, Option, sym, ap, ◌∙◌, subst, arith}
use Rattle.std.specs.List.{flat_map as joined-rows}
use Rattle.grammar.specs.Model.{Grammar}
use Rattle.sheet.specs.Meaning.{Sound}
use Rattle.tour.specs.Runs.{In, named, read}
use Rattle.tour.specs.Rules.{rule}
use Rattle.tour.specs.Fresh.{fresh}
use Rattle.tour.specs.Trees.{Instance, same_instance, places_in, instances}
use Rattle.tour.specs.Touring.{tour, Touring}
use Rattle.tour.specs.Results.{sources, apply, result, engine}
use Rattle.tour.specs.Shapes.{Shape}
use Rattle.tour.specs.Roots.{Rooted}
use Rattle.tour.specs.Steady.{Live}
use Rattle.tour.specs.Shapes.{Linked}
use Rattle.tour.proofs.Engines.{engine_law}
use Rattle.tour.proofs.Lists.{in_left}
use Rattle.tour.proofs.Places.{instance_place}
use Rattle.tour.proofs.Shapes.{day_rooted}
use Rattle.places.specs.Places.{used, arity, table, owed_at}
use Rattle.places.specs.Shape.{SoundPlaces}
use Rattle.places.specs.declared.node.Node.{Node}
use Rattle.places.proofs.Tables.{used_node, node_used, parent_of_node, under_parent, parent_at_lem, shape_table}
use Rattle.exchange.specs.Takers.{takers_of}
use Rattle.exchange.proofs.Sheets.{few_attributes}
use Rattle.exchange.proofs.Targets.{used_within, kids_at, kids_length}
use Rattle.law.specs.Handed.{Archive, Rundown, meaning}
use Rattle.law.specs.Conditions.{tree_of}
use Rattle.law.specs.Book.{Entry, Book, cells_of}
use Rattle.law.specs.Law.{system_of}
use Rattle.law.proofs.Right.{Right}
use Rattle.law.proofs.BridgeCells.{AlikeAt, cells_agree, parent_there, sources_same, apply_same, takers_same}
use Rattle.law.proofs.BridgeFresh.{fresh_same}
use Rattle.law.proofs.BridgeTakers.{taker_names, takers_are}

-- a used place that hangs below another is the child there
pub linked_table : (g : Grammar) (ps : List (Option Node)) → SoundPlaces g ps → Linked (table g ps) (used ps)
linked_table g ps so p u k w e =
    let n = used_node ps p w in
    let h = parent_at_lem g ps so p n.0 (record { place = u; position = k }) n.1 (sym (parent_of_node g ps p n.0 n.1) ∙ under_parent g ps p u k e) in
    let c = h.2 in
    let l : k - 1 < arity g h.0.rule = omega (arith, c.first, c.last) in (
      k - 1,
      omega (arith, c.first),
      record {
        parent_used = node_used ps u h.0 h.1;
        there = omega (arith, kids_length g ps u h.0 h.1, l);
        is = kids_at g ps u h.0 h.1 (k - 1) l ∙ c.points;
      },
    )

module _ (g : Grammar) (so : Sound g) where
  module _ {V : Type 0} (m : Archive V) (r : Rundown V) (k : Book) (ri : Right g m r k) where
    -- the table has the shape that tours ask for
    pub right_shape : Shape g (table g r.places) (used r.places) r.root
    right_shape = shape_table g r.places r.root ri.shape

    day : Rooted g (table g r.places) 0 k.tree
    day = subst (λ t. Rooted g (table g r.places) 0 t) ri.shows.tree_shown (day_rooted g (table g r.places) (used r.places) r.root right_shape)

    -- the table's cells are the tree's
    pub tree_cells : (p : ℕ) → In p (places_in k.tree) → cells_of k.tree p ≡ table g r.places p
    tree_cells = cells_agree (table g r.places) k.tree day.shown day.apart

    -- and so are those above them
    pub tree_alike : (p : ℕ) → In p (places_in k.tree) → AlikeAt (table g r.places) (cells_of k.tree) p
    tree_alike p h = record {
      here = tree_cells p h;
      parent = λ u i e. tree_cells u (parent_there (table g r.places) k.tree day.shown p u i h e);
    }

    instance_alike : (x : Instance) → In x (instances g k.tree) → AlikeAt (table g r.places) (cells_of k.tree) x.0
    instance_alike x h = tree_alike x.0 (instance_place g x k.tree h)

    -- an instance of the tree has the same sources by the tree and by the table
    pub tree_sources : (x : Instance) → In x (instances g k.tree) → sources (meaning m) g (cells_of k.tree) x ≡ sources (meaning m) g (table g r.places) x
    tree_sources x h = sources_same g (table g r.places) (cells_of k.tree) (meaning m) x (instance_alike x h)

    -- and the same function of them
    pub tree_apply : (x : Instance) → In x (instances g k.tree) → (vs : List V) → apply (meaning m) g (cells_of k.tree) x vs ≡ apply (meaning m) g (table g r.places) x vs
    tree_apply x h vs = apply_same g (table g r.places) (cells_of k.tree) (meaning m) x vs (instance_alike x h)

    -- so its equation gives the same
    pub tree_result : (x : Instance) → In x (instances g k.tree) → (v : Instance → V) → result (meaning m) g (cells_of k.tree) x v ≡ result (meaning m) g (table g r.places) x v
    tree_result x h v =
        ap (λ s. apply (meaning m) g (cells_of k.tree) x (map (read v) s)) (tree_sources x h)
        ∙ tree_apply x h (map (read v) (sources (meaning m) g (table g r.places) x))

    -- an instance of the tree is taken by the same instances by the tree and by the table
    pub tree_takers : (y x : Instance) → In y (instances g k.tree) → takers_of g (cells_of k.tree) y x ≡ takers_of g (table g r.places) y x
    tree_takers y x h = takers_same g (table g r.places) (cells_of k.tree) y x (instance_alike y h)

    -- the tour of the tree
    pub tree_touring : Touring g (λ x. named (sources (meaning m) g (table g r.places) x)) k.tree
    tree_touring =
        subst (λ t. Touring g (λ x. named (sources (meaning m) g (table g r.places) x)) t) ri.shows.tree_shown
        ((engine_law V).touring (meaning m) g so (table g r.places) (used r.places) r.root right_shape)

    -- an instance of the tree has an equation
    pub tree_live : (x : Instance) → In x (instances g k.tree) → Live g (table g r.places) (used r.places) x
    tree_live x h =
        (engine_law V).live g so (table g r.places) (used r.places) r.root right_shape x
        (subst (λ t. In x (tour g t)) (sym ri.shows.tree_shown) ((tree_touring.all x).1 h))

    -- it is one of the first sixteen attributes of a place in the table
    pub live_small : (x : Instance) → Live g (table g r.places) (used r.places) x → (x.1 < 16) × (x.0 < length r.places)
    live_small x li =
        let few = few_attributes g (rule g (table g r.places x.0).rule).left so in
        (omega (arith, li.attribute), used_within r.places x.0 li.place)

    -- a fresh evaluation of the tree by itself is that of the tree in the table
    pub tree_fresh : (scope : List Instance) → fresh same_instance (system_of g m k.tree) ≡ fresh same_instance (engine (meaning m) g (table g r.places) (tree_of g r) scope)
    tree_fresh scope =
        fresh_same same_instance (engine (meaning m) g (table g r.places) (tree_of g r) scope) (system_of g m k.tree) (ap (tour g) (sym ri.shows.tree_shown))
        (λ i h. tree_sources i (in_tree i h))
        (λ i h. tree_apply i (in_tree i h))
      where
        in_tree : (i : Instance) → In i (tour g (tree_of g r)) → In i (instances g k.tree)
        in_tree i h = (tree_touring.all i).0 (subst (λ t. In i (tour g t)) ri.shows.tree_shown h)

    -- of the instances with an equation, just those whose equation names an instance of the tree take it
    pub tree_takers_are : (y x : Instance) → In y (instances g k.tree) → Live g (table g r.places) (used r.places) x → (takers_of g (table g r.places) y x ≡ true) ↔ In y (named (sources (meaning m) g (table g r.places) x))
    tree_takers_are y x h li = takers_are (meaning m) g so (table g r.places) (used r.places) r.root right_shape (linked_table g r.places ri.shape.places_sound) y x (tree_live y h).place li

    -- and no instance without an equation takes it
    pub tree_takes : (y x : Instance) → In y (instances g k.tree) → takers_of g (table g r.places) y x ≡ true → Live g (table g r.places) (used r.places) x
    tree_takes y x h e = (taker_names (meaning m) g so (table g r.places) (used r.places) r.root right_shape (linked_table g r.places ri.shape.places_sound) y x (tree_live y h).place e).live

    -- marks of the tree are what is owed
    pub tree_marks : (x : Instance) → In x (instances g k.tree) → owed_at r.places x ≡ k.owed x
    tree_marks x h = ri.marks x (in_left x (instances g k.tree) (joined-rows (λ (e : Entry). instances g e.block) k.held) h)
