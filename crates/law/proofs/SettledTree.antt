-- A step as the tree alone sees it: what stands elsewhere is left out.
use Rattle.std.proofs.Common.{◌≡◌, Bool, true, false, cond, ◌&&◌, ◌⊎◌, List, [], ◌∷◌, ◌++◌, map, sym, refl, ap, ◌∙◌, subst, inl, inr}
use Rattle.std.proofs.lemmas.Bool.{and_parts, cond-true}
use Rattle.grammar.specs.Model.{Grammar}
use Rattle.sheet.specs.Meaning.{Sound}
use Rattle.tour.specs.Runs.{In, State, args, named, Ordered, Step, Run}
use Rattle.tour.specs.Runs.{result as result-in}
use Rattle.tour.specs.Trees.{Instance, Forest, same_instance, instances}
use Rattle.tour.specs.Touring.{tour}
use Rattle.tour.specs.Results.{result, sources}
use Rattle.tour.proofs.Incremental.{same_instance_lem}
use Rattle.tour.proofs.Lists.{in_left, in_split}
use Rattle.tour.proofs.Sources.{result_local}
use Rattle.places.specs.Places.{table, owed_at, value_at}
use Rattle.law.specs.Handed.{Archive, Rundown, meaning}
use Rattle.law.specs.Calls.{Stepped, RunOf}
use Rattle.law.specs.Book.{Book, is_instance, evaluated_once}
use Rattle.law.specs.Law.{system_of}
use Rattle.law.proofs.Right.{Right}
use Rattle.law.proofs.Planting.{some_in as among}
use Rattle.law.proofs.Bridge.{tree_sources, tree_result, tree_touring, tree_live}
use Rattle.law.proofs.BridgeTakers.{some_in}
use Rattle.law.proofs.Stepping.{engine_of, state_in, scope_is, stepped_in, step_there, step_right}

-- an instance of trees, by the test
pub instance_in_lem : (g : Grammar) (f : Forest) (x : Instance) → is_instance g f x ≡ true → In x (instances g f)
instance_in_lem g f x e =
    let r = some_in (same_instance x) (instances g f) e in
    subst (λ z. In z (instances g f)) (sym ((same_instance_lem x r.0).0 r.2)) r.1

pub in_instance : (g : Grammar) (f : Forest) (x : Instance) → In x (instances g f) → is_instance g f x ≡ true
in_instance g f x h = among x (instances g f) h

module _ (g : Grammar) {V : Type 0} (m : Archive V) where
  -- the values and marks of a tree's instances; all others have the leaf of 0, and are not owed
  abbrev pub seen : Forest → Rundown V → State Instance V
  seen f r = record {
    value = λ x. cond (is_instance g f x) (value_at (m.leaf 0) r.values x) (m.leaf 0);
    owed = λ x. is_instance g f x && owed_at r.places x;
  }

  pub seen_value : (f : Forest) (r : Rundown V) (x : Instance) → In x (instances g f) → (seen f r).value x ≡ value_at (m.leaf 0) r.values x
  seen_value f r x h = cond-true (is_instance g f x) (value_at (m.leaf 0) r.values x) (m.leaf 0) (in_instance g f x h)

  pub seen_owed : (f : Forest) (r : Rundown V) (x : Instance) → In x (instances g f) → (seen f r).owed x ≡ owed_at r.places x
  seen_owed f r x h = ap (λ b. b && owed_at r.places x) (in_instance g f x h)

  -- where the tree's values and marks are the same, so is what it sees
  pub seen_same : (f : Forest) (r r' : Rundown V) → ((x : Instance) → In x (instances g f) → value_at (m.leaf 0) r'.values x ≡ value_at (m.leaf 0) r.values x) → ((x : Instance) → In x (instances g f) → owed_at r'.places x ≡ owed_at r.places x) → seen f r ≡ seen f r'
  seen_same f r r' vs os = let a = values in let b = marks in λ i. record { value = λ x. a x i; owed = λ x. b x i }
    where
      values : (x : Instance) → (seen f r).value x ≡ (seen f r').value x
      values x = by (is_instance g f x) refl
        where
          by : (b : Bool) → is_instance g f x ≡ b → cond b (value_at (m.leaf 0) r.values x) (m.leaf 0) ≡ cond b (value_at (m.leaf 0) r'.values x) (m.leaf 0)
          by true e = sym (vs x (instance_in_lem g f x e))
          by false e = refl

      marks : (x : Instance) → (seen f r).owed x ≡ (seen f r').owed x
      marks x = by (is_instance g f x) refl
        where
          by : (b : Bool) → is_instance g f x ≡ b → (b && owed_at r.places x) ≡ (b && owed_at r'.places x)
          by true e = sym (os x (instance_in_lem g f x e))
          by false e = refl

  module _ (so : Sound g) where
    module _ (r : Rundown V) (k : Book) (ri : Right g m r k) where
      -- the arguments that an instance of the tree takes by the tree and by the table
      tree_args : (x : Instance) → In x (instances g k.tree) → args (system_of g m k.tree) x ≡ named (sources (meaning m) g (table g r.places) x)
      tree_args x h = ap named (tree_sources g so m r k ri x h)

      -- the arguments of an instance of the tree stand in the tree
      pub argument_in : (x a : Instance) → In x (instances g k.tree) → In a (args (system_of g m k.tree) x) → In a (instances g k.tree)
      argument_in x a h n =
          let t = tree_touring g so m r k ri in
          let s = in_split x (tour g k.tree) ((t.all x).1 h) in
          let front = t.before s.0 s.1 x a s.2 (subst (λ z. In a z) (tree_args x h) n) in
          (t.all a).0 (subst (λ z. In a z) (sym s.2) (in_left a s.0 (x ∷ s.1) front))

      -- the tree by itself has its tour in order
      pub tree_ordered : Ordered (system_of g m k.tree)
      tree_ordered =
          let t = tree_touring g so m r k ri in
          record {
            covers = λ i h. (t.all i).0 h;
            once = t.once;
            before = λ xs ys i a e n.
                let h : In i (tour g k.tree) = subst (λ z. In i z) (sym e) (in_here i xs ys) in
                t.before xs ys i a e (subst (λ z. In a z) (tree_args i ((t.all i).0 h)) n);
          }
        where
          in_here : (i : Instance) (xs ys : List Instance) → In i (xs ++ i ∷ ys)
          in_here i [] ys = inl refl
          in_here i (x ∷ xs) ys = inr (in_here i xs ys)

      -- what an equation of the tree gives on what the tree sees
      seen_result : (x : Instance) → In x (instances g k.tree) → result-in (system_of g m k.tree) x (seen k.tree r).value ≡ result (meaning m) g (table g r.places) x (value_at (m.leaf 0) r.values)
      seen_result x h =
          result_local (system_of g m k.tree) x (seen k.tree r).value (value_at (m.leaf 0) r.values) (λ a n. seen_value k.tree r a (argument_in x a h n))
          ∙ tree_result g so m r k ri x h (value_at (m.leaf 0) r.values)

    -- a step on the tables is a step of the tree by itself
    pub seen_step : (r r' : Rundown V) (k : Book) → Right g m r k → (x : Instance) (c : Bool) → Stepped g m r x c r' → Step (system_of g m k.tree) (seen k.tree r) x c (seen k.tree r')
    seen_step r r' k ri x c st = record {
      front = w.front;
      back = w.back;
      place = ap (tour g) (sym ri.shows.tree_shown) ∙ w.place;
      first = λ y n o. w.first y n (and_parts (is_instance g f y) (owed_at r.places y) o).1;
      due = seen_owed f r x h ∙ w.due;
      new = seen_value f r' x h ∙ w.new ∙ sym (seen_result r k ri x h);
      kept = λ y n. ap (λ v. cond (is_instance g f y) v (m.leaf 0)) (w.kept y n);
      same = λ n. ap (λ v. cond (is_instance g f x) v (m.leaf 0)) (w.same n);
      differs = λ e q. w.differs e (sym (seen_value f r' x h) ∙ q ∙ seen_value f r x h);
      marks = λ y n. (there y n, back y n);
    }
      where
        f : Forest
        f = k.tree

        w : Step (engine_of g m r) (state_in g m r) x c (state_in g m r')
        w = step_there g m so r r' k ri x c st

        h : In x (instances g k.tree)
        h = stepped_in g m so r r' k ri x c st

        scoped : (y : Instance) → In y (instances g k.tree) → In y (engine_of g m r).scope
        scoped y n = (scope_is g m so r y).1 (tree_live g so m r k ri y n)

        there : (y : Instance) → In y (instances g k.tree) → (seen k.tree r').owed y ≡ true → ((y ≡ x → ⊥) × ((seen k.tree r).owed y ≡ true)) ⊎ ((c ≡ true) × In x (args (system_of g m k.tree) y))
        there y n o = elim ((w.marks y (scoped y n)).0 (sym (seen_owed k.tree r' y n) ∙ o)) [
          | inl q ↦ inl (q.0, seen_owed k.tree r y n ∙ q.1)
          | inr q ↦ inr (q.0, subst (λ z. In x z) (sym (tree_args r k ri y n)) q.1)
        ]

        back : (y : Instance) → In y (instances g k.tree) → ((y ≡ x → ⊥) × ((seen k.tree r).owed y ≡ true)) ⊎ ((c ≡ true) × In x (args (system_of g m k.tree) y)) → (seen k.tree r').owed y ≡ true
        back y n (inl q) = seen_owed k.tree r' y n ∙ (w.marks y (scoped y n)).1 (inl (q.0, sym (seen_owed k.tree r y n) ∙ q.1))
        back y n (inr q) = seen_owed k.tree r' y n ∙ (w.marks y (scoped y n)).1 (inr (q.0, subst (λ z. In x z) (tree_args r k ri y n) q.1))

    -- and a run on the tables is a run of the tree by itself
    pub seen_run : (es : List (Instance × Bool)) (r r' : Rundown V) (k : Book) → Right g m r k → RunOf g m r es r' → Run (system_of g m k.tree) (seen k.tree r) (map (λ e. e.0) es) (seen k.tree r')
    seen_run [] r r' k ri e = ap (seen k.tree) (sym e)
    seen_run (e ∷ es) r r' k ri (s, st, rest) = (
      seen k.tree s,
      e.1,
      seen_step r s k ri e.0 e.1 st,
      seen_run es s r' (evaluated_once g k e) (step_right g m so r s k ri e.0 e.1 st) rest,
    )
