-- A step on the tables is a step of the engine over them, and keeps what every call keeps.
use Rattle.std.proofs.Common.{◌≡◌, ℕ, ◌+◌, ◌*◌, ◌<◌, ◌≤◌, Bool, true, false, cond, not, ◌&&◌, ◌||◌, ltb, ◌⊎◌, ◌↔◌, List, [], ◌∷◌, map, length, get_or, set, Some, sym, refl, ap, ◌∙◌, subst, ap₂, inl, inr, arith, length-set, get_or-set_other, get_or-set_same}
use Rattle.std.proofs.lemmas.Bool.{lt-ltb, le-ltb, cases_lt, cases_Bool, and_parts, and_from, or_cases, or_left, or_right, not-true, both_ways}
use Rattle.grammar.specs.Model.{Grammar}
use Rattle.sheet.specs.Meaning.{Sound}
use Rattle.tour.specs.Runs.{In, System, State, args, Step, Run}
use Rattle.tour.specs.Trees.{Instance, same_instance, instances}
use Rattle.tour.specs.Touring.{tour}
use Rattle.tour.specs.Nodes.{Table, attributes_of}
use Rattle.tour.specs.Results.{engine}
use Rattle.tour.specs.Shapes.{tree_from}
use Rattle.tour.specs.Steady.{Live, Steady}
use Rattle.tour.specs.Engine.{live_below, Engine}
use Rattle.tour.proofs.Engines.{engine_law}
use Rattle.tour.proofs.Incremental.{same_instance_lem}
use Rattle.tour.proofs.Lists.{in_right}
use Rattle.places.specs.Marks.{owes}
use Rattle.places.specs.Places.{at, used, marks_in, attributes, cell_of, table, owed_at, value_at, state_of}
use Rattle.places.specs.Shape.{InShape}
use Rattle.places.specs.declared.node.Node.{Node}
use Rattle.places.proofs.Digits.{owes_high}
use Rattle.exchange.specs.Takers.{takers_of}
use Rattle.exchange.proofs.Targets.{used_within}
use Rattle.law.specs.Handed.{Archive, Rundown, meaning}
use Rattle.law.specs.Conditions.{tree_of}
use Rattle.law.specs.Calls.{Stepped, RunOf, result_at}
use Rattle.law.specs.Book.{Book, all_instances, evaluated_once, evaluated_all}
use Rattle.law.specs.Law.{ShowsBook}
use Rattle.law.proofs.Right.{Right}
use Rattle.law.proofs.Bridge.{right_shape, tree_takers, tree_takers_are, tree_takes, tree_touring, tree_live, live_small}
use Rattle.law.proofs.SteppingMarks.{remarked_table, remarked_uses, remarked_free, remarked_shape}

-- the value of an instance that has been written
pub value_written : {V : Type 0} (d : V) (vs : List V) (v : V) (x : Instance) → x.1 < 16 → 16 * x.0 + x.1 < length vs → value_at d (set vs (16 * x.0 + x.1) v) x ≡ v
value_written d vs v x h l =
    ap (λ b. cond b (get_or (set vs (16 * x.0 + x.1) v) (16 * x.0 + x.1) d) d) (lt-ltb x.1 16 h)
    ∙ get_or-set_same vs (16 * x.0 + x.1) v d l

-- and that of any other
pub value_kept : {V : Type 0} (d : V) (vs : List V) (v : V) (x y : Instance) → x.1 < 16 → (y ≡ x → ⊥) → value_at d (set vs (16 * x.0 + x.1) v) y ≡ value_at d vs y
value_kept d vs v x y h n = by (cases_lt y.1 16)
  where
    apart : y.1 < 16 → 16 * y.0 + y.1 ≡ 16 * x.0 + x.1 → ⊥
    apart l e = let p : y.0 ≡ x.0 = omega arith in let a : y.1 ≡ x.1 = omega arith in n (λ i. (p i, a i))

    by : (y.1 < 16) ⊎ (16 ≤ y.1) → value_at d (set vs (16 * x.0 + x.1) v) y ≡ value_at d vs y
    by (inl l) = ap (λ z. cond (ltb y.1 16) z d) (get_or-set_other vs (16 * x.0 + x.1) (16 * y.0 + y.1) v d (apart l))
    by (inr l) =
        let e = le-ltb y.1 16 l in
        ap (λ b. cond b (get_or (set vs (16 * x.0 + x.1) v) (16 * y.0 + y.1) d) d) e
        ∙ sym (ap (λ b. cond b (get_or vs (16 * y.0 + y.1) d) d) e)

module _ (g : Grammar) {V : Type 0} (m : Archive V) where
  -- the engine over the tables of a rundown, and its state
  abbrev pub engine_of : Rundown V → System Instance V
  engine_of r = engine (meaning m) g (table g r.places) (tree_of g r) (live_below g (table g r.places) (used r.places) (length r.places))

  abbrev pub state_in : Rundown V → State Instance V
  state_in r = state_of (m.leaf 0) r.places r.values

  module _ (so : Sound g) where
    -- the instances that have an equation, and no others, are those that marks speak of
    pub scope_is : (r : Rundown V) (x : Instance) → In x (live_below g (table g r.places) (used r.places) (length r.places)) ↔ Live g (table g r.places) (used r.places) x
    scope_is r x = (engine_law V).listed g (table g r.places) (used r.places) (length r.places) (λ p u. used_within r.places p u) x

    -- the law of the engine holds over the tables
    pub engine_there : (r : Rundown V) (k : Book) → Right g m r k → Engine (meaning m) g (table g r.places) (used r.places) r.root (live_below g (table g r.places) (used r.places) (length r.places))
    engine_there r k ri =
        (engine_law V).engines (meaning m) g so (table g r.places) (used r.places) r.root (right_shape g so m r k ri)
        (live_below g (table g r.places) (used r.places) (length r.places)) (scope_is r)

    module _ (r r' : Rundown V) (k : Book) (ri : Right g m r k) (x : Instance) (c : Bool) (st : Stepped g m r x c r') where
      in_tour : In x (tour g (tree_of g r))
      in_tour = subst (λ z. In x z) (sym st.place) (in_right x st.front (x ∷ st.back) (inl refl))

      -- the instance evaluated stands in the tree
      pub stepped_in : In x (instances g k.tree)
      stepped_in = ((tree_touring g so m r k ri).all x).0 (subst (λ t. In x (tour g t)) ri.shows.tree_shown in_tour)

      small : (x.1 < 16) × (x.0 < length r.places)
      small = live_small g so m r k ri x (tree_live g so m r k ri x stepped_in)

      entry : 16 * x.0 + x.1 < length r.values
      entry = omega (arith, small, ri.long)

      new_value : value_at (m.leaf 0) r'.values x ≡ result_at g m r x
      new_value = ap (λ vs. value_at (m.leaf 0) vs x) st.values_are ∙ value_written (m.leaf 0) r.values (result_at g m r x) x small.0 entry

      abbrev owed_then : Instance → Bool
      owed_then y = (owed_at r.places y && not (same_instance y x)) || (c && takers_of g (table g r.places) x y)

      owed_then_lem : (y : Instance) → owed_at r'.places y ≡ owed_then y
      owed_then_lem y = st.marks_are.marks y.0 y.1

      still : (y : Instance) → not (same_instance y x) ≡ true → y ≡ x → ⊥
      still y h e = both_ways (same_instance y x) (not-true (same_instance y x) h) ((same_instance_lem y x).1 e)

      other : (y : Instance) → (y ≡ x → ⊥) → not (same_instance y x) ≡ true
      other y n = by (same_instance y x) refl
        where
          by : (b : Bool) → same_instance y x ≡ b → not b ≡ true
          by true e = absurd (n ((same_instance_lem y x).0 e))
          by false e = refl

      marks_then : (y : Instance) → Live g (table g r.places) (used r.places) y → (owed_at r'.places y ≡ true) ↔ (((y ≡ x → ⊥) × (owed_at r.places y ≡ true)) ⊎ ((c ≡ true) × In x (args (engine_of r) y)))
      marks_then y li = ((λ h. there (or_cases (owed_at r.places y && not (same_instance y x)) (c && takers_of g (table g r.places) x y) (sym (owed_then_lem y) ∙ h))), λ h. owed_then_lem y ∙ back h)
        where
          there : ((owed_at r.places y && not (same_instance y x)) ≡ true) ⊎ ((c && takers_of g (table g r.places) x y) ≡ true) → ((y ≡ x → ⊥) × (owed_at r.places y ≡ true)) ⊎ ((c ≡ true) × In x (args (engine_of r) y))
          there (inl h) = let q = and_parts (owed_at r.places y) (not (same_instance y x)) h in inl (still y q.1, q.0)
          there (inr h) = let q = and_parts c (takers_of g (table g r.places) x y) h in inr (q.0, (tree_takers_are g so m r k ri x y stepped_in li).0 q.1)

          back : ((y ≡ x → ⊥) × (owed_at r.places y ≡ true)) ⊎ ((c ≡ true) × In x (args (engine_of r) y)) → owed_then y ≡ true
          back (inl (n, o)) = or_left (owed_at r.places y && not (same_instance y x)) (c && takers_of g (table g r.places) x y) (and_from (owed_at r.places y) (not (same_instance y x)) o (other y n))
          back (inr (e, h)) = or_right (owed_at r.places y && not (same_instance y x)) (c && takers_of g (table g r.places) x y) (and_from c (takers_of g (table g r.places) x y) e ((tree_takers_are g so m r k ri x y stepped_in li).1 h))

      -- a step on the tables is a step of the engine
      pub step_there : Step (engine_of r) (state_in r) x c (state_in r')
      step_there = record {
        front = st.front;
        back = st.back;
        place = st.place;
        first = st.none_before;
        due = st.due;
        new = new_value;
        kept = λ y n. ap (λ vs. value_at (m.leaf 0) vs y) st.values_are ∙ value_kept (m.leaf 0) r.values (result_at g m r x) x y small.0 n;
        same = λ n. new_value ∙ st.unchanged.0 (idle c n);
        differs = λ e h. both_ways c (not-true c (st.unchanged.1 (sym new_value ∙ h))) e;
        marks = λ y h. marks_then y ((scope_is r y).0 h);
      }
        where
          idle : (b : Bool) → (b ≡ true → ⊥) → not b ≡ true
          idle true n = absurd (n refl)
          idle false n = refl

      abbrev then_owed : Instance → Bool → Bool
      then_owed y owed = (owed && not (same_instance y x)) || (c && takers_of g (table g r.places) x y)

      none_past : (p a : ℕ) (n : Node) → at r.places p ≡ Some n → attributes g n.rule ≤ a → then_owed (p, a) (owed_at r.places (p, a)) ≡ false
      none_past p a n e l =
          let s = (ri.shape.places_sound.nodes p n e).marks_there in
          let z : owed_at r.places (p, a) ≡ false = ap (λ o. owes (marks_in o) a) e ∙ owes_high (attributes g n.rule) n.marks a s l in
          ap (λ b. (b && not (same_instance (p, a) x)) || (c && takers_of g (table g r.places) x (p, a))) z ∙ by (cases_Bool (c && takers_of g (table g r.places) x (p, a)))
        where
          there : attributes g n.rule ≡ length (attributes_of g (table g r.places) p)
          there = ap (λ o. attributes g (cell_of g o).rule) (sym e)

          by : ((c && takers_of g (table g r.places) x (p, a)) ≡ true) ⊎ ((c && takers_of g (table g r.places) x (p, a)) ≡ false) → (c && takers_of g (table g r.places) x (p, a)) ≡ false
          by (inl h) =
              let li = tree_takes g so m r k ri x (p, a) stepped_in (and_parts c (takers_of g (table g r.places) x (p, a)) h).1 in
              absurd (omega (arith, li.attribute, there, l))
          by (inr h) = h

      cells_kept : table g r'.places ≡ table g r.places
      cells_kept = remarked_table g r.places r'.places st.marks_are

      uses_kept : used r'.places ≡ used r.places
      uses_kept = remarked_uses g r.places r'.places st.marks_are

      -- the engine is the same after the step
      pub engine_kept : engine_of r' ≡ engine_of r
      engine_kept i = engine (meaning m) g (cells_kept i) (tree_from (cells_kept i) 63 (st.root_kept i)) (live_below g (cells_kept i) (uses_kept i) (st.marks_are.long i))

      shape_kept : InShape g r'.places r'.root
      shape_kept = subst (λ p. InShape g r'.places p) (sym st.root_kept) (remarked_shape g r.places r'.places st.marks_are r.root ri.shape none_past)

      shows_kept : ShowsBook g m r' (evaluated_once g k (x, c))
      shows_kept = record {
        tree_shown = ap₂ (λ t p. tree_from t 63 p) cells_kept st.root_kept ∙ ri.shows.tree_shown;
        blocks_shown = λ e h. let b = ri.shows.blocks_shown e h in (b.0 ∙ sym st.tag_kept, ap (λ t. tree_from t 63 e.ticket.root) cells_kept ∙ b.1);
        in_table = λ p h. subst (λ n. p < n) (sym st.marks_are.long) (ri.shows.in_table p h);
        free_places = λ p. let a = remarked_free g r.places r'.places st.marks_are p in let b = ri.shows.free_places p in ((λ h. b.0 (a.0 h)), λ n. a.1 (b.1 n));
        no_place_twice = ri.shows.no_place_twice;
      }

      marks_kept : (y : Instance) → In y (all_instances g k) → owed_at r'.places y ≡ (evaluated_once g k (x, c)).owed y
      marks_kept y h =
          owed_then_lem y
          ∙ ap₂ (λ o t. (o && not (same_instance y x)) || (c && t)) (ri.marks y h) (sym (tree_takers g so m r k ri x y stepped_in))

      steady_kept : Steady (meaning m) g (table g r'.places) (used r'.places) (state_in r')
      steady_kept =
          let s = (engine_there r k ri).runs (state_in r) (state_in r') (x ∷ []) (state_in r', c, step_there, refl) ri.steady in
          subst (λ (z : Table × (ℕ → Bool)). Steady (meaning m) g z.0 z.1 (state_in r')) (let a = sym cells_kept in let b = sym uses_kept in λ i. (a i, b i)) s

      -- a step keeps what every call keeps
      pub step_right : Right g m r' (evaluated_once g k (x, c))
      step_right = record {
        shape = shape_kept;
        long = let a = st.marks_are.long in let b : length r'.values ≡ length r.values = ap length st.values_are ∙ length-set r.values (16 * x.0 + x.1) (result_at g m r x) in omega (arith, ri.long, a, b);
        shows = shows_kept;
        marks = marks_kept;
        steady = steady_kept;
      }

    -- a run keeps what every call keeps
    pub run_right : (es : List (Instance × Bool)) (r r' : Rundown V) (k : Book) → Right g m r k → RunOf g m r es r' → Right g m r' (evaluated_all g k es)
    run_right [] r r' k ri e = subst (λ z. Right g m z k) (sym e) ri
    run_right (e ∷ es) r r' k ri (s, st, rest) = run_right es s r' (evaluated_once g k e) (step_right r s k ri e.0 e.1 st) rest

    -- and is a run of the engine
    pub run_there : (es : List (Instance × Bool)) (r r' : Rundown V) (k : Book) → Right g m r k → RunOf g m r es r' → Run (engine_of r) (state_in r) (map (λ e. e.0) es) (state_in r')
    run_there [] r r' k ri e = ap state_in (sym e)
    run_there (e ∷ es) r r' k ri (s, st, rest) = (
      state_in s,
      e.1,
      step_there r s k ri e.0 e.1 st,
      subst (λ z. Run z (state_in s) (map (λ e. e.0) es) (state_in r')) (engine_kept r s k ri e.0 e.1 st) (run_there es s r' (evaluated_once g k e) (step_right r s k ri e.0 e.1 st) rest),
    )
