-- Steps, settling and reading are answered as the book says.
use Rattle.std.proofs.Common.{◌≡◌, ℕ, ◌<◌, Bool, true, ◌↔◌, List, is_some, Some, None, Ok, Err, Option, Result, sym, ap, subst, inl, inr, arith}
use Rattle.std.proofs.lemmas.Bool.{false≢true}
use Rattle.grammar.specs.Model.{Grammar}
use Rattle.sheet.specs.Meaning.{Sound}
use Rattle.tour.specs.Runs.{In}
use Rattle.tour.specs.Trees.{Instance, places_in}
use Rattle.places.specs.Places.{at, attributes, cell_of}
use Rattle.places.specs.Shape.{InShape, InTree}
use Rattle.places.specs.declared.node.Node.{Node}
use Rattle.places.proofs.Trees.{trees_law}
use Rattle.law.specs.Handed.{Archive, Rundown}
use Rattle.law.specs.Conditions.{ShortValues, FewCells, UnmetInstance, Settled, Checks, passed, check}
use Rattle.law.specs.Calls.{Question, Reading, HasAttribute, step_checks, place_checks, read_checks, Steps, Settles, Reads}
use Rattle.law.specs.Calls.Question.{the_root, child, rule_there, datum_at, value_there}
use Rattle.law.specs.Book.{Book, cells_of, BookSettled}
use Rattle.law.specs.Histories.Event.{step, settle, read}
use Rattle.law.specs.Law.{in_tree, question_checks, ByBook}
use Rattle.law.specs.declared.decline.Decline.{Decline}
use Rattle.law.specs.declared.decline.Decline.TheVariants.{Tables, Shape, Cells, Unmet, Unsettled, Absent}
use Rattle.law.proofs.Right.{Right}
use Rattle.law.proofs.LayingSound.{in_either}
use Rattle.law.proofs.PlantingAnswers.{skip, keep, rephrase}
use Rattle.law.proofs.Bridge.{tree_cells}
use Rattle.law.proofs.Settled.{settled_by_book, all_met}

-- a check that stays, where what follows may use that it was not met
keep_past : (c : Type 0) (d : Decline) (later others : Checks) (o : Option Decline) → ((c → ⊥) → later o → others o) → check c d later o → check c d others o
keep_past c d later others None f h = (h.0, f h.0 h.1)
keep_past c d later others (Some e) f (inl h) = inl h
keep_past c d later others (Some e) f (inr h) = inr (h.0, f h.0 h.1)

-- an attribute of a node is one of its cell
attribute_there : (g : Grammar) (o : Option Node) (a : ℕ) → is_some o ≡ true → HasAttribute g o a ↔ (a < attributes g (cell_of g o).rule)
attribute_there g None a u = absurd (false≢true u)
attribute_there g (Some n) a u = ((λ h. h), λ h. h)

module _ (g : Grammar) (so : Sound g) {V : Type 0} (m : Archive V) (r : Rundown V) (k : Book) (ri : Right g m r k) where
  long : ShortValues r.places r.values → ⊥
  long s = omega (arith, ri.long)

  steps_by_book : (cells : ℕ) (o : Option Decline) → step_checks g m r cells o → check (FewCells cells) Cells passed o
  steps_by_book cells o c =
      keep (FewCells cells) Cells (check (ShortValues r.places r.values) Tables (check (UnmetInstance g r) Unmet passed)) passed o
      (λ h. skip (UnmetInstance g r) Unmet passed o (all_met g so m r k ri) (skip (ShortValues r.places r.values) Tables (check (UnmetInstance g r) Unmet passed) o long h))
      (skip (InShape g r.places r.root → ⊥) Shape (check (FewCells cells) Cells (check (ShortValues r.places r.values) Tables (check (UnmetInstance g r) Unmet passed))) o (λ n. n ri.shape) c)

  -- a step is accepted just if the book says so
  pub step_by_book : (r' : Rundown V) (cells : ℕ) (answer : Result (Option (ℕ × ℕ × Bool)) Decline) → Steps g m cells r answer r' → ByBook g m r k (step cells answer)
  step_by_book r' cells (Ok e) h = steps_by_book cells None h.0
  step_by_book r' cells (Err d) h = steps_by_book cells (Some d) h.0

  -- and so is settling
  pub settle_by_book : (r' : Rundown V) (budget cells : ℕ) (es : List (Instance × Bool)) (answer : Result (ℕ × Bool) Decline) → Settles g m budget cells es r answer r' → ByBook g m r k (settle budget cells es answer)
  settle_by_book r' budget cells es (Ok e) h = steps_by_book cells None h.0
  settle_by_book r' budget cells es (Err d) h = steps_by_book cells (Some d) h.0

  -- just the places of the book's tree are in the tree
  pub in_tree_by_book : (p : ℕ) → InTree r.places r.root p ↔ In p (places_in k.tree)
  in_tree_by_book p =
      let t = trees_law g r.places r.root ri.shape in
      let w = (t.trees r.root t.root_top).places_are p in
      subst (λ f. InTree r.places r.root p ↔ In p (places_in f)) ri.shows.tree_shown (w.1, w.0)

  tables_by_book : (later : Checks) (o : Option Decline) → check (InShape g r.places r.root → ⊥) Shape (check (ShortValues r.places r.values) Tables later) o → later o
  tables_by_book later o c =
      skip (ShortValues r.places r.values) Tables later o long
      (skip (InShape g r.places r.root → ⊥) Shape (check (ShortValues r.places r.values) Tables later) o (λ n. n ri.shape) c)

  places_by_book : (p : ℕ) (later others : Checks) (o : Option Decline) → (In p (places_in k.tree) → later o → others o) → place_checks g m r p later o → in_tree g m k p others o
  places_by_book p later others o f c =
      let w = in_tree_by_book p in
      keep_past (In p (places_in k.tree) → ⊥) Absent later others o there
      (rephrase (InTree r.places r.root p → ⊥) (In p (places_in k.tree) → ⊥) Absent later o (λ n h. n (w.1 h)) (λ n h. n (w.0 h))
      (tables_by_book (check (InTree r.places r.root p → ⊥) Absent later) o c))
    where
      there : ((In p (places_in k.tree) → ⊥) → ⊥) → later o → others o
      there n h = elim (in_either p (places_in k.tree)) [ inl w ↦ f w h | inr w ↦ absurd (n w) ]

  value_by_book : (p a : ℕ) (o : Option Decline) → In p (places_in k.tree) → check (HasAttribute g (at r.places p) a → ⊥) Absent (check (Settled g r → ⊥) Unsettled passed) o → check (a < attributes g (cells_of k.tree p).rule → ⊥) Absent (check (BookSettled g k → ⊥) Unsettled passed) o
  value_by_book p a o h c =
      let s = settled_by_book g so m r k ri in
      let t = (in_tree_by_book p).1 h in
      let w = attribute_there g (at r.places p) a (ap is_some t.there) in
      let v : HasAttribute g (at r.places p) a ↔ (a < attributes g (cells_of k.tree p).rule) = subst (λ z. HasAttribute g (at r.places p) a ↔ (a < attributes g z.rule)) (sym (tree_cells g so m r k ri p h)) w in
      keep (a < attributes g (cells_of k.tree p).rule → ⊥) Absent (check (Settled g r → ⊥) Unsettled passed) (check (BookSettled g k → ⊥) Unsettled passed) o
      (rephrase (Settled g r → ⊥) (BookSettled g k → ⊥) Unsettled passed o (λ n z. n (s.1 z)) (λ n z. n (s.0 z)))
      (rephrase (HasAttribute g (at r.places p) a → ⊥) (a < attributes g (cells_of k.tree p).rule → ⊥) Absent (check (Settled g r → ⊥) Unsettled passed) o (λ n z. n (v.1 z)) (λ n z. n (v.0 z)) c)

  questions_by_book : (q : Question) (o : Option Decline) → read_checks g m r q o → question_checks g m k q o
  questions_by_book the_root o c = tables_by_book passed o c
  questions_by_book (child p n) o c = places_by_book p passed passed o (λ h w. w) c
  questions_by_book (rule_there p) o c = places_by_book p passed passed o (λ h w. w) c
  questions_by_book (datum_at p) o c = places_by_book p passed passed o (λ h w. w) c
  questions_by_book (value_there p a) o c =
      places_by_book p (check (HasAttribute g (at r.places p) a → ⊥) Absent (check (Settled g r → ⊥) Unsettled passed)) (check (a < attributes g (cells_of k.tree p).rule → ⊥) Absent (check (BookSettled g k → ⊥) Unsettled passed)) o
      (λ h w. value_by_book p a o h w) c

  -- a reader answers just if the book says so
  pub read_by_book : (q : Question) (answer : Result (Reading V) Decline) → Reads g m q r answer → ByBook g m r k (read q answer)
  read_by_book q (Ok x) h = questions_by_book q None h.0
  read_by_book q (Err d) h = questions_by_book q (Some d) h
