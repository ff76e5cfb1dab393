-- An accepted planting keeps the table right, with the new block in the book.
use Rattle.std.proofs.Common.{◌≡◌, ℕ, ◌+◌, ◌*◌, ◌<◌, ◌≤◌, Bool, true, false, cond, ◌||◌, ltb, ◌⊎◌, List, [], ◌∷◌, ◌++◌, length, get_or, is_some, Ok, count_by, sym, refl, ap, ◌∙◌, subst, inl, inr, arith}
use mathlib.Core.Bool.{false≢true}
use Rattle.std.specs.List.{flat_map}
use Rattle.std.proofs.lemmas.Bool.{cases_lt, cases_Bool, le-ltb, cond-false, or_left, or_right, or_from}
use Rattle.grammar.specs.Model.{Grammar}
use Rattle.grammar.specs.Tests.{some}
use Rattle.sheet.specs.Meaning.{Sound}
use Rattle.tour.specs.Nodes.{Cell}
use Rattle.tour.specs.Rules.{rule, symbol, no_attribute}
use Rattle.tour.specs.Runs.{In, Apart}
use Rattle.tour.specs.Shapes.{tree_from}
use Rattle.tour.specs.Steady.{Live, Steady, Untouched}
use Rattle.tour.specs.Trees.{Instance, Forest, Agrees, instances, places_in, same_instance}
use Rattle.tour.proofs.Incremental.{same_instance_lem}
use Rattle.tour.proofs.Lists.{in_left, in_right, in_cases}
use Rattle.tour.proofs.Places.{apart_parts, instance_place}
use Rattle.tour.proofs.Steady.{steadiness}
use Rattle.tour.proofs.Sums.{apart_append}
use Rattle.places.specs.Marks.{owes}
use Rattle.places.specs.Places.{at, used, marks_in, cell_of, table, owed_at, value_at, state_of}
use Rattle.places.specs.Shape.{InShape}
use Rattle.places.specs.Totals.{is_free}
use Rattle.places.proofs.Tables.{ranked}
use Rattle.blocks.specs.Taken.{taken, TakenLaw}
use Rattle.law.specs.Handed.{Archive, Rundown, Ticket, Piece, meaning}
use Rattle.law.specs.Calls.{NewValues, root_of, Plants}
use Rattle.law.specs.Book.{Entry, Book, all_places, all_instances, is_instance, planted, TreeAtPlaces}
use Rattle.law.specs.Law.{ShowsBook}
use Rattle.law.proofs.Right.{Right}
use Rattle.law.proofs.Laying.{tree_at_same}
use Rattle.law.proofs.LayingSound.{some_none, in_either}
use Rattle.law.proofs.LayingTree.{new_owed, instance_small, LaidIn, laid_in}
use Rattle.law.proofs.PlantingSources.{sources_used}
use Rattle.law.proofs.PlantingBlocks.{new_room}

-- what stands in joined lists
pub in_joined : {X A : Type 0} (F : X → List A) (e : X) (es : List X) (a : A) → In e es → In a (F e) → In a (flat_map F es)
in_joined F e [] a m n = absurd m
in_joined F e (d ∷ es) a (inl w) n = in_left a (F d) (flat_map F es) (subst (λ z. In a (F z)) w n)
in_joined F e (d ∷ es) a (inr m) n = in_right a (F d) (flat_map F es) (in_joined F e es a m n)

pub joined_in : {X A : Type 0} (F : X → List A) (es : List X) (a : A) → In a (flat_map F es) → (e : X) × In e es × In a (F e)
joined_in {X} {A} F [] a m = absurd m
joined_in {X} {A} F (d ∷ es) a m = go (in_cases a (F d) (flat_map F es) m) (joined_in F es a)
  where
    go : In a (F d) ⊎ In a (flat_map F es) → (In a (flat_map F es) → (e : X) × In e es × In a (F e)) → (e : X) × In e (d ∷ es) × In a (F e)
    go (inl n) f = (d, inl refl, n)
    go (inr n) f = let w = f n in (w.0, inr w.1, w.2)

-- a list put into the middle of another
module _ {X : Type 0} (xs new ys : List X) where
  pub amid_cases : (x : X) → In x (xs ++ (new ++ ys)) → In x new ⊎ In x (xs ++ ys)
  amid_cases x m = elim (in_cases x xs (new ++ ys) m) [
    | inl a ↦ inr (in_left x xs ys a)
    | inr b ↦ elim (in_cases x new ys b) [ inl c ↦ inl c | inr d ↦ inr (in_right x xs ys d) ]
  ]

  pub amid_old : (x : X) → In x (xs ++ ys) → In x (xs ++ (new ++ ys))
  amid_old x m = elim (in_cases x xs ys m) [ inl a ↦ in_left x xs (new ++ ys) a | inr b ↦ in_right x xs (new ++ ys) (in_right x new ys b) ]

  pub amid_new : (x : X) → In x new → In x (xs ++ (new ++ ys))
  amid_new x m = in_right x xs (new ++ ys) (in_left x new ys m)

  pub amid_apart : Apart (xs ++ ys) → Apart new → ((x : X) → In x new → In x (xs ++ ys) → ⊥) → Apart (xs ++ (new ++ ys))
  amid_apart a b n =
      let p = apart_parts xs ys a in
      apart_append xs (new ++ ys) p.0 (apart_append new ys b p.1 (λ x m k. n x m (in_right x xs ys k)))
      (λ x m k. elim (in_cases x new ys k) [ inl c ↦ n x c (in_left x xs ys m) | inr d ↦ p.2 x m d ])

-- whether an instance is among others
pub some_in : (x : Instance) (xs : List Instance) → In x xs → some (same_instance x) xs ≡ true
some_in x [] m = absurd m
some_in x (y ∷ xs) (inl e) = or_left (same_instance x y) (some (same_instance x) xs) ((same_instance_lem x y).1 e)
some_in x (y ∷ xs) (inr m) = or_right (same_instance x y) (some (same_instance x) xs) (some_in x xs m)

pub some_out : (x : Instance) (xs : List Instance) → (In x xs → ⊥) → some (same_instance x) xs ≡ false
some_out x [] n = refl
some_out x (y ∷ xs) n = or_from (same_instance x y) (some (same_instance x) xs) other (some_out x xs (λ m. n (inr m)))
  where
    other : same_instance x y ≡ false
    other = elim (cases_Bool (same_instance x y)) [ inl e ↦ absurd (n (inl ((same_instance_lem x y).0 e))) | inr e ↦ e ]

-- the places and the instances of the held blocks
abbrev pub held_places : Book → List ℕ
held_places k = flat_map (λ e. places_in e.block) k.held

abbrev pub held_instances : Grammar → Book → List Instance
held_instances g k = flat_map (λ e. instances g e.block) k.held

-- an instance of the book is at a place of the book
pub book_place : (g : Grammar) (k : Book) (x : Instance) → In x (all_instances g k) → In x.0 (all_places k)
book_place g k x m = elim (in_cases x (instances g k.tree) (held_instances g k) m) [
  | inl a ↦ in_left x.0 (places_in k.tree) (held_places k) (instance_place g x k.tree a)
  | inr b ↦ (let w = joined_in (λ (e : Entry). instances g e.block) k.held x b in
      in_right x.0 (places_in k.tree) (held_places k) (in_joined (λ (e : Entry). places_in e.block) w.0 k.held x.0 w.1 (instance_place g x w.0.block w.2)))
]

module _ {V : Type 0} (g : Grammar) (m : Archive V) (so : Sound g) where
  -- entries of other places keep their values
  pub value_same : (x : ℕ) (f : Forest) (vs ws : List V) → Agrees g f (x ∷ []) → NewValues m (instances g f) vs ws → (y : Instance) → (In y.0 (places_in f) → ⊥) → value_at (m.leaf 0) ws y ≡ value_at (m.leaf 0) vs y
  value_same x f vs ws ag nv y n = elim (cases_lt y.1 16) [
    | inl l ↦ ap (λ z. cond (ltb y.1 16) z (m.leaf 0)) (nv.others (16 * y.0 + y.1) (m.leaf 0) (clash l))
    | inr h ↦ cond-false (ltb y.1 16) (get_or ws (16 * y.0 + y.1) (m.leaf 0)) (m.leaf 0) (le-ltb y.1 16 h) ∙ sym (cond-false (ltb y.1 16) (get_or vs (16 * y.0 + y.1) (m.leaf 0)) (m.leaf 0) (le-ltb y.1 16 h))
  ]
    where
      clash : y.1 < 16 → (z : Instance) → In z (instances g f) → 16 * y.0 + y.1 ≡ 16 * z.0 + z.1 → ⊥
      clash l z k e =
          let h = instance_small g so f (x ∷ []) ag z k in
          let s : z.0 ≡ y.0 = omega arith in
          n (subst (λ p. In p (places_in f)) s (instance_place g z f k))

  module _ (r r' : Rundown V) (k : Book) (t : Ticket) (x : ℕ) (f : Forest) (ri : Right g m r k) (ag : Agrees g f (x ∷ []))
      (la : LaidIn g r.places r'.places f) (nv : NewValues m (instances g f) r.values r'.values)
      (tick : t ≡ record { tag = r.tag; root = root_of f }) (tag_kept : r'.tag ≡ r.tag) (root_kept : r'.root ≡ r.root) where
    -- a place of the book was used, so it was not taken, and is as it was
    old_apart : (p : ℕ) → In p (all_places k) → In p (places_in f) → ⊥
    old_apart p o n = (ri.shows.free_places p).0 (la.free_before p n) o

    old_place : (p : ℕ) → In p (all_places k) → at r'.places p ≡ at r.places p
    old_place p o = la.others p (old_apart p o)

    old_tree : (root : ℕ) (h : Forest) → tree_from (table g r.places) 63 root ≡ h → ((p : ℕ) → In p (places_in h) → In p (all_places k)) → tree_from (table g r'.places) 63 root ≡ h
    old_tree root h e inn =
        tree_at_same (table g r.places) (table g r'.places) root (λ p n. ap (cell_of g) (old_place p (inn p (subst (λ z. In p (places_in z)) e n)))) ∙ e

    blocks : (e : Entry) → In e (planted g k t f).held → (e.ticket.tag ≡ r'.tag) × (tree_from (table g r'.places) 63 e.ticket.root ≡ e.block)
    blocks e (inl w) =
        subst (λ (z : Entry). (z.ticket.tag ≡ r'.tag) × (tree_from (table g r'.places) 63 z.ticket.root ≡ z.block)) (sym w)
        (ap (λ (z : Ticket). z.tag) tick ∙ sym tag_kept, ap (λ (z : Ticket). tree_from (table g r'.places) 63 z.root) tick ∙ la.tree_there)
    blocks e (inr n) =
        let b = ri.shows.blocks_shown e n in
        (b.0 ∙ sym tag_kept, old_tree e.ticket.root e.block b.1 (λ p h. in_right p (places_in k.tree) (held_places k) (in_joined (λ (z : Entry). places_in z.block) e k.held p n h)))

    among : (p : ℕ) → In p (all_places (planted g k t f)) → In p (places_in f) ⊎ In p (all_places k)
    among p n = amid_cases (places_in k.tree) (places_in f) (held_places k) p n

    shows_planted : ShowsBook g m r' (planted g k t f)
    shows_planted = record {
      tree_shown = ap (tree_from (table g r'.places) 63) root_kept ∙ old_tree r.root k.tree ri.shows.tree_shown (λ p n. in_left p (places_in k.tree) (held_places k) n);
      blocks_shown = blocks;
      in_table = λ p n. subst (λ l. p < l) (sym la.long) (elim (among p n) [ inl w ↦ la.inside p w | inr w ↦ ri.shows.in_table p w ]);
      free_places = λ p. (
        (λ z n. elim (among p n) [
          | inl w ↦ (let b = la.new_nodes p w in some_none (at r'.places p) b.new z b.there)
          | inr w ↦ (ri.shows.free_places p).0 (sym (old_place p w) ∙ z) w
        ]),
        λ h. la.others p (λ w. h (amid_new (places_in k.tree) (places_in f) (held_places k) p w)) ∙ (ri.shows.free_places p).1 (λ w. h (amid_old (places_in k.tree) (places_in f) (held_places k) p w)),
      );
      no_place_twice = amid_apart (places_in k.tree) (places_in f) (held_places k) ri.shows.no_place_twice la.apart (λ p n o. old_apart p o n);
    }

    marks_planted : (y : Instance) → In y (all_instances g (planted g k t f)) → owed_at r'.places y ≡ (planted g k t f).owed y
    marks_planted y n = elim (amid_cases (instances g k.tree) (instances g f) (held_instances g k) y n) [
      | inl w ↦ la.owed y w ∙ sym (or_right (k.owed y) (is_instance g f y) (some_in y (instances g f) w))
      | inr w ↦
          (let o = book_place g k y w in
          let out = some_out y (instances g f) (λ i. old_apart y.0 o (instance_place g y f i)) in
          ap (λ z. owes (marks_in z) y.1) (old_place y.0 o) ∙ ri.marks y w ∙ sym (ap (λ b. k.owed y || b) out ∙ or_false (k.owed y)))
    ]
      where
        or_false : (b : Bool) → (b || false) ≡ b
        or_false true = refl
        or_false false = refl

    used_out : (p : ℕ) → used r.places p ≡ true → In p (places_in f) → ⊥
    used_out p u n = false≢true (sym (ap is_some (la.free_before p n)) ∙ u)

    untouched : (y : Instance) → Live g (table g r'.places) (used r'.places) y → (In y.0 (places_in f) → ⊥) → Untouched (meaning m) g (table g r.places) (table g r'.places) (used r.places) (state_of (m.leaf 0) r.places r.values) (state_of (m.leaf 0) r'.places r'.values) y
    untouched y li n =
        let e : at r'.places y.0 ≡ at r.places y.0 = la.others y.0 n in
        let c : table g r'.places y.0 ≡ table g r.places y.0 = ap (cell_of g) e in
        let u : used r.places y.0 ≡ true = ap is_some (sym e) ∙ li.place in
        let rk = ranked g r.places ri.shape.places_sound in
        record {
          live = record {
            place = u;
            attribute = subst (λ (z : Cell). y.1 < length (symbol g (rule g z.rule).left).attributes) c li.attribute;
            below = λ w l. li.below (ap (λ (z : Cell). (get_or (symbol g (rule g z.rule).left).attributes y.1 no_attribute).flow) c ∙ w) (ap (λ (z : Cell). z.link) c ∙ l);
          };
          cell = c;
          parent = λ v j l. ap (cell_of g) (la.others v (used_out v (rk.link_used y.0 v j u l)));
          marked = λ h. ap (λ o. owes (marks_in o) y.1) e ∙ h;
          value = value_same x f r.values r'.values ag nv y n;
          arguments = λ a h. value_same x f r.values r'.values ag nv a (used_out a.0 (sources_used (meaning m) g so (table g r.places) (used r.places) rk y a u h));
        }

    steady_planted : Steady (meaning m) g (table g r'.places) (used r'.places) (state_of (m.leaf 0) r'.places r'.values)
    steady_planted =
        (steadiness V).changes (meaning m) g (table g r.places) (table g r'.places) (used r.places) (used r'.places)
        (state_of (m.leaf 0) r.places r.values) (state_of (m.leaf 0) r'.places r'.values) (λ y li. by y li (in_either y.0 (places_in f))) ri.steady
      where
        by : (y : Instance) → Live g (table g r'.places) (used r'.places) y → In y.0 (places_in f) ⊎ (In y.0 (places_in f) → ⊥) → (owed_at r'.places y ≡ true) ⊎ Untouched (meaning m) g (table g r.places) (table g r'.places) (used r.places) (state_of (m.leaf 0) r.places r.values) (state_of (m.leaf 0) r'.places r'.values) y
        by y li (inl n) = inl (new_owed g r'.places y.0 y.1 (la.new_nodes y.0 n) li.attribute)
        by y li (inr n) = inr (untouched y li n)

    -- a tree laid into free places keeps the table right, with the tree held in the book
    pub planted_right : Right g m r' (planted g k t f)
    planted_right = record {
      shape = subst (InShape g r'.places) (sym root_kept) (la.in_shape r.root ri.shape);
      long = omega (arith, ri.long, la.long, nv.size);
      shows = shows_planted;
      marks = marks_planted;
      steady = steady_planted;
    }

  -- an accepted planting enters its tree in the book, at the places that it took
  pub plant_right : TakenLaw → (r r' : Rundown V) (k : Book) (b : List Piece) (cells : ℕ) (t : Ticket) → Right g m r k → Plants g m b cells r (Ok t) r' → (f : Forest) × TreeAtPlaces g b (taken r.places (length b)) f × Right g m r' (planted g k t f)
  plant_right tl r r' k b cells t ri (c, p) =
      let n = p.new_tree in
      let few : length b ≤ count_by is_free r.places = elim (cases_lt (count_by is_free r.places) (length b)) [ inl h ↦ absurd (c.1.1.1.1.1.1.0 h) | inr h ↦ h ] in
      let ro = new_room tl g p.symbol b r.places r'.places p.tree n c.1.1.1.1.1.0 few in
      let la = laid_in g so r.places r'.places p.symbol p.tree ro n.table_is in (
        p.tree,
        record { symbol = p.symbol; agrees = n.agrees; block = n.block; in_places = n.in_places },
        planted_right r r' k t p.symbol p.tree ri n.agrees la p.new_values p.ticket_is p.tag_kept p.root_kept,
      )
