-- An accepted opening makes the tables right, with its tree in the book.
use Rattle.std.proofs.Common.{◌≡◌, ℕ, zero, suc, ◌*◌, ◌<◌, ◌≤◌, cond, List, [], ◌∷◌, map, length, is_some, Some, None, count_by, Option, sym, refl, ap, ◌∙◌, subst, inl, inr, arith}
use mathlib.Core.Bool.{false≢true}
use Rattle.std.proofs.lemmas.List.Sums.{sum_by-cons}
use Rattle.std.proofs.lemmas.Bool.{cases_lt}
use Rattle.grammar.specs.Model.{Grammar}
use Rattle.sheet.specs.Meaning.{Sound}
use Rattle.tour.specs.Nodes.{Shows, above}
use Rattle.tour.specs.Nodes.Link.{top}
use Rattle.tour.specs.Rules.{rule}
use Rattle.tour.specs.Runs.{In}
use Rattle.tour.specs.Shapes.{tree_from}
use Rattle.tour.specs.Trees.{Forest, Agrees, instances, places_in}
use Rattle.tour.specs.Trees.Forest.{none, node}
use Rattle.tour.proofs.Lists.{in_left, in_cases}
use Rattle.tour.proofs.Shapes.{not_top}
use Rattle.tour.proofs.Sums.{apart_append}
use Rattle.places.specs.Places.{at, link_of, cell_of, table}
use Rattle.places.specs.Shape.{RootThere, SoundPlaces}
use Rattle.places.specs.declared.node.Node.{Node}
use Rattle.places.specs.declared.node.Parent.{Parent}
use Rattle.places.specs.Totals.{is_free}
use Rattle.blocks.specs.Taken.{taken, TakenLaw}
use Rattle.law.specs.Handed.{Archive, Rundown, Piece}
use Rattle.law.specs.Conditions.{tree_of}
use Rattle.law.specs.Calls.{no_place, root_of, NewValues, Opens}
use Rattle.law.specs.Book.{Book, all_places, opened, TreeAtPlaces}
use Rattle.law.specs.Law.{ShowsBook, Opening}
use Rattle.law.proofs.Right.{Right}
use Rattle.law.proofs.LayingSound.{some_none, in_either, NewNode}
use Rattle.law.proofs.LayingTree.{new_owed, LaidIn, laid_in}
use Rattle.law.proofs.PlantingBlocks.{new_room}
use Rattle.law.proofs.Planting.{some_in}

-- a table with all places freed
pub blank_length : (ps : List (Option Node)) → length (map no_place ps) ≡ length ps
blank_length [] = refl
blank_length (o ∷ ps) = ap suc (blank_length ps)

pub blank_at : (ps : List (Option Node)) (p : ℕ) → at (map no_place ps) p ≡ None
blank_at [] p = refl
blank_at (o ∷ ps) zero = refl
blank_at (o ∷ ps) (suc p) = blank_at ps p

pub blank_free : (ps : List (Option Node)) → count_by is_free (map no_place ps) ≡ length ps
blank_free [] = refl
blank_free (o ∷ ps) = let h = blank_free ps in let s = sum_by-cons (λ x. cond (is_free x) 1 0) None (map no_place ps) in omega arith

top_none : (o : Option Parent) → link_of o ≡ top → o ≡ None
top_none None e = refl
top_none (Some u) e = absurd (not_top (link_of (Some u)) u.place u.position e refl)

-- the root of a tree that was laid stands in the tree, has no parent, and has the tree's symbol
pub root_in : (g : Grammar) (f : Forest) (x : ℕ) → Agrees g f (x ∷ []) → In (root_of f) (places_in f)
root_in g none x ag = absurd ag
root_in g (node p r c kids rest) x ag = inl refl

pub root_laid : (g : Grammar) (qs : List (Option Node)) (f : Forest) → Agrees g f (0 ∷ []) → Shows (table g qs) f above 0 → NewNode g qs (root_of f) → RootThere g (at qs (root_of f))
root_laid g qs none ag s n = absurd ag
root_laid g qs (node p r c kids rest) ag s n =
    subst (RootThere g) (sym n.there) (record {
      free_standing = top_none n.new.parent (sym (ap (λ o. (cell_of g o).link) n.there) ∙ s.3);
      start = ap (λ z. (rule g z).left) (sym (ap (λ o. (cell_of g o).rule) n.there) ∙ s.0) ∙ ag.1;
    })

module _ {V : Type 0} (g : Grammar) (m : Archive V) (so : Sound g) (ps : List (Option Node)) (vs : List V) (r : Rundown V) (f : Forest)
    (ag : Agrees g f (0 ∷ [])) (some_place : 1 ≤ length ps) (few_places : length ps ≤ 4096) (long : 16 * length ps ≤ length vs)
    (la : LaidIn g (map no_place ps) r.places f) (nv : NewValues m (instances g f) vs r.values) (root_is : r.root ≡ root_of f) where
  blank_sound : SoundPlaces g (map no_place ps)
  blank_sound = record {
    some_place = subst (λ l. 1 ≤ l) (sym (blank_length ps)) some_place;
    few_places = subst (λ l. l ≤ 4096) (sym (blank_length ps)) few_places;
    nodes = λ p n e. absurd (some_none (at (map no_place ps) p) n (blank_at ps p) e);
  }

  others_free : (p : ℕ) → (In p (places_in f) → ⊥) → at r.places p ≡ None
  others_free p n = la.others p n ∙ blank_at ps p

  alone : (p : ℕ) → In p (all_places (opened g f)) → In p (places_in f)
  alone p n = elim (in_cases p (places_in f) [] n) [ inl h ↦ h | inr h ↦ absurd h ]

  tree_opened : tree_of g r ≡ f
  tree_opened = ap (tree_from (table g r.places) 63) root_is ∙ la.tree_there

  shows_opened : ShowsBook g m r (opened g f)
  shows_opened = record {
    tree_shown = tree_opened;
    blocks_shown = λ e n. absurd n;
    in_table = λ p n. subst (λ l. p < l) (sym la.long) (la.inside p (alone p n));
    free_places = λ p. (
      (λ z n. let b = la.new_nodes p (alone p n) in some_none (at r.places p) b.new z b.there),
      λ h. others_free p (λ n. h (in_left p (places_in f) [] n)),
    );
    no_place_twice = apart_append (places_in f) [] la.apart tt (λ p n k. k);
  }

  -- a tree laid into freed places makes the table right, with the tree as the book's
  pub opened_right : Right g m r (opened g f)
  opened_right = record {
    shape = record { places_sound = la.places_sound blank_sound; root_there = subst (λ z. RootThere g (at r.places z)) (sym root_is) (root_laid g r.places f ag la.shown (la.new_nodes (root_of f) (root_in g f 0 ag))) };
    long = omega (arith, long, la.long, nv.size, blank_length ps);
    shows = shows_opened;
    marks = λ y n. elim (in_cases y (instances g f) [] n) [ inl w ↦ la.owed y w ∙ sym (some_in y (instances g f) w) | inr w ↦ absurd w ];
    steady = λ y li n. absurd (elim (in_either y.0 (places_in f)) [
      | inl w ↦ n (new_owed g r.places y.0 y.1 (la.new_nodes y.0 w) li.attribute)
      | inr w ↦ false≢true (sym (ap is_some (others_free y.0 w)) ∙ li.place)
    ]);
  }

module _ {V : Type 0} (g : Grammar) (m : Archive V) (so : Sound g) (tl : TakenLaw) where
  -- an accepted opening makes the tables right, and its tree is the one that they show
  pub open_right : (tag : ℕ) (b : List Piece) (cells : ℕ) (handed r : Rundown V) → Opens g m tag b cells handed None r → (f : Forest) × (TreeAtPlaces g b (taken (map no_place handed.places) (length b)) f) × (tree_of g r ≡ f) × Right g m r (opened g f)
  open_right tag b cells handed r (c, o) =
      let n = o.new_tree in
      let few : length b ≤ count_by is_free (map no_place handed.places) = elim (cases_lt (length handed.places) (length b)) [ inl h ↦ absurd (c.1.1.1.1.1.1.0 h) | inr h ↦ subst (λ z. length b ≤ z) (sym (blank_free handed.places)) h ] in
      let ro = new_room tl g 0 b (map no_place handed.places) r.places o.tree n c.1.1.1.1.1.0 few in
      let la = laid_in g so (map no_place handed.places) r.places 0 o.tree ro n.table_is in
      let some_place : 1 ≤ length handed.places = elim (cases_lt (length handed.places) 1) [ inl h ↦ absurd (c.1.0 (inl (inl h))) | inr h ↦ h ] in
      let few_places : length handed.places ≤ 4096 = elim (cases_lt 4096 (length handed.places)) [ inl h ↦ absurd (c.1.0 (inl (inr h))) | inr h ↦ h ] in
      let long : 16 * length handed.places ≤ length handed.values = elim (cases_lt (length handed.values) (16 * length handed.places)) [ inl h ↦ absurd (c.1.0 (inr h)) | inr h ↦ h ] in (
        o.tree,
        record { symbol = 0; agrees = n.agrees; block = n.block; in_places = n.in_places },
        tree_opened g m so handed.places handed.values r o.tree n.agrees some_place few_places long la o.new_values o.root_is,
        opened_right g m so handed.places handed.values r o.tree n.agrees some_place few_places long la o.new_values o.root_is,
      )

  -- each accepted opening has a book
  pub opening_book : (tag : ℕ) (b : List Piece) (cells : ℕ) (handed r : Rundown V) → Opens g m tag b cells handed None r → (k : Book) × Opening g m tag b cells handed r k × Right g m r k
  opening_book tag b cells handed r h =
      let w = open_right tag b cells handed r h in
      (opened g w.0, record { accepted = h; tree_entered = (w.0, taken (map no_place handed.places) (length b), w.1, refl, sym w.2) }, w.3)

  -- the book of an opening is right
  pub opening_right : (tag : ℕ) (b : List Piece) (cells : ℕ) (handed r : Rundown V) (k : Book) → Opening g m tag b cells handed r k → Right g m r k
  opening_right tag b cells handed r k o =
      let w = open_right tag b cells handed r o.accepted in
      let t = o.tree_entered in
      subst (Right g m r) (sym (t.3 ∙ ap (opened g) (t.4 ∙ w.2))) w.3
