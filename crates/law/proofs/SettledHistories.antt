-- Between drops, calls that end in a settled tree have evaluated exactly what was due in it, each once.
use Rattle.std.proofs.Common.{◌≡◌, ℕ, Bool, true, false, not, ◌&&◌, ◌||◌, ◌⊎◌, List, [], ◌∷◌, ◌++◌, map, length, Some, None, Ok, Err, sym, refl, ap, ◌∙◌, subst, inl, inr, arith, length-append}
use Rattle.std.proofs.lemmas.List.{length-map}
use Rattle.grammar.specs.Model.{Grammar}
use Rattle.sheet.specs.Meaning.{Sound}
use Rattle.tour.specs.Runs.{In, Apart, System, State, Run, Idle}
use Rattle.tour.specs.Incremental.{Settling}
use Rattle.tour.specs.Trees.{Instance, Forest, same_instance, instances, places_in}
use Rattle.tour.specs.Touring.{tour}
use Rattle.tour.proofs.Incremental.{incremental}
use Rattle.tour.proofs.Places.{apart_parts, instance_place}
use Rattle.places.specs.Places.{owed_at, value_at}
use Rattle.blocks.specs.Taken.{taken}
use Rattle.law.specs.Handed.{Archive, Rundown, Ticket, Piece}
use Rattle.law.specs.Calls.{Planted, Discarded}
use Rattle.law.specs.Book.{Entry, Book, all_places, is_instance, planted, discarded, evaluated_once, evaluated_all, BookSettled, TreeAtPlaces}
use Rattle.law.specs.Histories.{Event, Happens, Enters, History, Keeps, NoDrop, evaluated_by, evaluated_in, counted, counted_in}
use Rattle.law.specs.Histories.Event.{plant, drop, discard, step, settle, read}
use Rattle.law.specs.Law.{system_of, ArgumentMoved, ExactlyEvaluated}
use Rattle.law.proofs.Right.{Right}
use Rattle.law.proofs.Planting.{in_joined, some_out, held_places, value_same}
use Rattle.law.proofs.Bridge.{tree_touring, tree_marks}
use Rattle.law.proofs.SteppingCalls.{ExchangesKeep, call_right, history_right}
use Rattle.law.proofs.SettledTree.{seen, seen_value, seen_owed, seen_same, argument_in, tree_ordered, seen_step, seen_run}

-- what stands in a held block does not stand in the tree
pub held_apart : (k : Book) → Apart (all_places k) → (t : Ticket) (f : Forest) → In (record { ticket = t; block = f }) k.held → (p : ℕ) → In p (places_in k.tree) → In p (places_in f) → ⊥
held_apart k once t f h p a b =
    (apart_parts (places_in k.tree) (held_places k) once).2 p a
    (in_joined (λ (e : Entry). places_in e.block) (record { ticket = t; block = f }) k.held p h b)

no_instance : (g : Grammar) (f : Forest) (x : Instance) → (In x.0 (places_in f) → ⊥) → is_instance g f x ≡ false
no_instance g f x n = some_out x (instances g f) (λ h. n (instance_place g x f h))

or_none : (b : Bool) → (b || false) ≡ b
or_none true = refl
or_none false = refl

and_all : (b : Bool) → (b && not false) ≡ b
and_all true = refl
and_all false = refl

run_append : {I V : Type 0} (S : System I V) (s t u : State I V) (is js : List I) → Run S s is t → Run S t js u → Run S s (is ++ js) u
run_append S s t u [] js e r = subst (λ z. Run S z js u) (sym e) r
run_append S s t u (i ∷ is) js (v, c, st, rest) r = (v, c, st, run_append S v t u is js rest r)

no_drop : {V : Type 0} (e : Event V) (es : List (Event V)) → NoDrop (e ∷ es) → NoDrop (e ∷ []) × NoDrop es
no_drop (plant b cells ps answer) es n = (tt, n)
no_drop (drop t p (Ok given)) es n = absurd n
no_drop (drop t p (Err e)) es n = (tt, n)
no_drop (discard t cells answer) es n = (tt, n)
no_drop (step cells answer) es n = (tt, n)
no_drop (settle budget cells evaluated answer) es n = (tt, n)
no_drop (read q answer) es n = (tt, n)

evaluated_tree : (g : Grammar) (k : Book) (es : List (Instance × Bool)) → (evaluated_all g k es).tree ≡ k.tree
evaluated_tree g k [] = refl
evaluated_tree g k (e ∷ es) = evaluated_tree g (evaluated_once g k e) es

module _ (g : Grammar) (so : Sound g) {V : Type 0} (m : Archive V) where
  -- planting leaves the tree's values and marks
  plant_seen : (r s : Rundown V) (k : Book) (b : List Piece) (t : Ticket) (f : Forest) → Right g m r k → Right g m s (planted g k t f) → Planted g m b r t s → TreeAtPlaces g b (taken r.places (length b)) f → seen g m k.tree r ≡ seen g m k.tree s
  plant_seen r s k b t f ri rs p at = seen_same g m k.tree r s values marks
    where
      apart : (q : ℕ) → In q (places_in k.tree) → In q (places_in f) → ⊥
      apart q a c = held_apart (planted g k t f) rs.shows.no_place_twice t f (inl refl) q a c

      values : (x : Instance) → In x (instances g k.tree) → value_at (m.leaf 0) s.values x ≡ value_at (m.leaf 0) r.values x
      values x h =
          value_same g m so p.symbol p.tree r.values s.values p.new_tree.agrees p.new_values x
          (λ n. apart x.0 (instance_place g x k.tree h) (subst (λ ps. In x.0 ps) (p.new_tree.in_places ∙ sym at.in_places) n))

      marks : (x : Instance) → In x (instances g k.tree) → owed_at s.places x ≡ owed_at r.places x
      marks x h =
          tree_marks g so m s (planted g k t f) rs x h
          ∙ ap (λ z. k.owed x || z) (no_instance g f x (apart x.0 (instance_place g x k.tree h)))
          ∙ or_none (k.owed x)
          ∙ sym (tree_marks g so m r k ri x h)

  -- and so does discarding
  discard_seen : (r s : Rundown V) (k : Book) (t : Ticket) (f : Forest) → Right g m r k → Right g m s (discarded g k t f) → Discarded g m t r s → In (record { ticket = t; block = f }) k.held → seen g m k.tree r ≡ seen g m k.tree s
  discard_seen r s k t f ri rs d held = seen_same g m k.tree r s (λ x h. ap (λ vs. value_at (m.leaf 0) vs x) d.values_kept) marks
    where
      marks : (x : Instance) → In x (instances g k.tree) → owed_at s.places x ≡ owed_at r.places x
      marks x h =
          tree_marks g so m s (discarded g k t f) rs x h
          ∙ ap (λ z. k.owed x && not z) (no_instance g f x (held_apart k ri.shows.no_place_twice t f held x.0 (instance_place g x k.tree h)))
          ∙ and_all (k.owed x)
          ∙ sym (tree_marks g so m r k ri x h)

  -- what a call that is no accepted drop is to the tree: a run of it
  pub record Quiet (r s : Rundown V) (k l : Book) (is : List Instance) : Type 0 where
    pub run : Run (system_of g m k.tree) (seen g m k.tree r) is (seen g m k.tree s)
    pub tree : l.tree ≡ k.tree

  still : (r s : Rundown V) (k l : Book) → s ≡ r → l ≡ k → Quiet r s k l []
  still r s k l a e = record { run = ap (seen g m k.tree) (sym a); tree = ap (λ (z : Book). z.tree) e }

  quiet_call : (e : Event V) (r s : Rundown V) (k l : Book) → Right g m r k → Right g m s l → Happens g m r e s → Enters g k e l → NoDrop (e ∷ []) → Quiet r s k l (evaluated_by e)
  quiet_call (plant b cells ps (Ok t)) r s k l ri rs ((c, p), q) (f, at, e) n = record {
    run = plant_seen r s k b t f ri (subst (λ z. Right g m s z) e rs) p (subst (λ z. TreeAtPlaces g b z f) q at);
    tree = ap (λ (z : Book). z.tree) e;
  }
  quiet_call (plant b cells ps (Err d)) r s k l ri rs ((c, a), q) e n = still r s k l a e
  quiet_call (drop t p (Ok given)) r s k l ri rs h e n = absurd n
  quiet_call (drop t p (Err d)) r s k l ri rs (c, b, a) e n = still r s k l a e
  quiet_call (discard t cells (Ok u)) r s k l ri rs (c, d) (f, h, e) n = record {
    run = discard_seen r s k t f ri (subst (λ z. Right g m s z) e rs) d h;
    tree = ap (λ (z : Book). z.tree) e;
  }
  quiet_call (discard t cells (Err d)) r s k l ri rs (c, b, a) e n = still r s k l a e
  quiet_call (step cells (Ok None)) r s k l ri rs (c, (b, a)) e n = still r s k l a e
  quiet_call (step cells (Ok (Some x))) r s k l ri rs (c, st) e n = record {
    run = (seen g m k.tree s, x.2, seen_step g m so r s k ri (x.0, x.1) x.2 st, refl);
    tree = ap (λ (z : Book). z.tree) e;
  }
  quiet_call (step cells (Err d)) r s k l ri rs (c, a) e n = still r s k l a e
  quiet_call (settle budget cells es (Ok x)) r s k l ri rs (c, w) e n = record {
    run = seen_run g m so es r s k ri w.run;
    tree = ap (λ (z : Book). z.tree) e ∙ evaluated_tree g k es;
  }
  quiet_call (settle budget cells es (Err d)) r s k l ri rs (c, b, a) e n = record {
    run = subst (λ z. Run (system_of g m k.tree) (seen g m k.tree r) (map (λ e. e.0) z) (seen g m k.tree s)) (sym b) (ap (seen g m k.tree) (sym a));
    tree = ap (λ (z : Book). z.tree) e ∙ evaluated_tree g k es;
  }
  quiet_call (read q answer) r s k l ri rs (c, a) e n = still r s k l a e

  -- counts are the numbers of evaluations
  count_one : (e : Event V) (r s : Rundown V) → Happens g m r e s → counted e ≡ length (evaluated_by e)
  count_one (plant b cells ps answer) r s h = refl
  count_one (drop t p answer) r s h = refl
  count_one (discard t cells answer) r s h = refl
  count_one (step cells (Ok None)) r s h = refl
  count_one (step cells (Ok (Some x))) r s h = refl
  count_one (step cells (Err d)) r s h = refl
  count_one (settle budget cells es (Ok x)) r s (c, w) = w.count_is ∙ sym (length-map es (λ (e : Instance × Bool). e.0))
  count_one (settle budget cells es (Err d)) r s (c, b, a) = ap (λ z. length (map (λ (e : Instance × Bool). e.0) z)) (sym b)
  count_one (read q answer) r s h = refl

  pub counts_add_up : (es : List (Event V)) (r r' : Rundown V) → History g m r es r' → counted_in es ≡ length (evaluated_in es)
  counts_add_up [] r r' h = refl
  counts_add_up (e ∷ es) r r' (s, h, hs) = omega (arith, count_one e r s h, counts_add_up es s r' hs, length-append (evaluated_by e) (evaluated_in es))

  module _ (exchanges : ExchangesKeep g m) where
    -- calls without an accepted drop are a run of the tree by itself
    pub quiet_history : (es : List (Event V)) (r r' : Rundown V) (k k' : Book) → Right g m r k → History g m r es r' → Keeps g k es k' → NoDrop es → Quiet r r' k k' (evaluated_in es)
    quiet_history [] r r' k k' ri a e n = still r r' k k' a e
    quiet_history (e ∷ es) r r' k k' ri (s, h, hs) (l, w, ws) n =
        let d = no_drop e es n in
        let rs = call_right g so m exchanges e r s k l ri h w in
        let q = quiet_call e r s k l ri rs h w d.0 in
        let z = quiet_history es s r' l k' rs hs ws d.1 in
        record {
          run = run_append (system_of g m k.tree) (seen g m k.tree r) (seen g m k.tree s) (seen g m k.tree r') (evaluated_by e) (evaluated_in es) q.run
              (subst (λ f. Run (system_of g m f) (seen g m f s) (evaluated_in es) (seen g m f r')) q.tree z.run);
          tree = z.tree ∙ q.tree;
        }

    module _ (es : List (Event V)) (r r' : Rundown V) (k k' : Book) (ri : Right g m r k) (hs : History g m r es r') (ws : Keeps g k es k') (n : NoDrop es) (settled : BookSettled g k') where
      q : Quiet r r' k k' (evaluated_in es)
      q = quiet_history es r r' k k' ri hs ws n

      idle : Idle (seen g m k.tree r') (tour g k.tree)
      idle x h o =
          let a : In x (instances g k.tree) = ((tree_touring g so m r k ri).all x).0 h in
          let b : In x (instances g k'.tree) = subst (λ f. In x (instances g f)) (sym q.tree) a in
          settled x b (sym (tree_marks g so m r' k' (history_right g so m exchanges es r r' k k' ri hs ws) x b) ∙ sym (seen_owed g m k.tree r' x a) ∙ o)

      done : Settling same_instance (system_of g m k.tree) (seen g m k.tree r) (evaluated_in es) (seen g m k.tree r')
      done = (incremental V).settles (system_of g m k.tree) (tree_ordered g m so r k ri) (seen g m k.tree r) (seen g m k.tree r') (evaluated_in es) q.run idle

      was_due : (x : Instance) → In x (evaluated_in es) → In x (instances g k.tree) × ((k.owed x ≡ true) ⊎ ArgumentMoved g m k r r' x)
      was_due x w =
          let d = (done.exactly x).0 w in
          let h : In x (instances g k.tree) = ((tree_touring g so m r k ri).all x).0 d.0 in (
            h,
            elim d.1 [
              | inl o ↦ inl (sym (tree_marks g so m r k ri x h) ∙ sym (seen_owed g m k.tree r x h) ∙ o)
              | inr v ↦ inr (record {
                argument = v.0;
                taken = v.1;
                moved = λ e. let a = argument_in g m so r k ri x v.0 h v.1 in v.2 (seen_value g m k.tree r' v.0 a ∙ e ∙ sym (seen_value g m k.tree r v.0 a));
              })
            ],
          )

      is_due : (x : Instance) → In x (instances g k.tree) × ((k.owed x ≡ true) ⊎ ArgumentMoved g m k r r' x) → In x (evaluated_in es)
      is_due x (h, d) = (done.exactly x).1 (
        ((tree_touring g so m r k ri).all x).1 h,
        elim d [
          | inl o ↦ inl (seen_owed g m k.tree r x h ∙ tree_marks g so m r k ri x h ∙ o)
          | inr v ↦ inr (v.argument, v.taken, λ e. let a = argument_in g m so r k ri x v.argument h v.taken in v.moved (sym (seen_value g m k.tree r' v.argument a) ∙ e ∙ seen_value g m k.tree r v.argument a))
        ],
      )

      -- calls without an accepted drop that end settled have evaluated exactly what was due, each once, and counted it
      pub exactly_evaluated : ExactlyEvaluated g m k r es r'
      exactly_evaluated = record {
        once = done.once;
        exactly = λ x. (was_due x, is_due x);
        counts = counts_add_up es r r' hs;
      }
