-- The law over whole runs: what holds after every list of calls on an opened rundown, declined calls among them, for
-- every accepted sheet and every archive. It speaks of the relations that the calls promise. It is not proved yet: it is
-- to stand in the contract of a public call, in one landing with the calls.
use Rattle.std.specs.Prelude.{◌≡◌, ℕ, ◌+◌, ◌-◌, ◌<◌, true, ◌⊎◌, ◌↔◌, List, length, Some, None, Ok, Err, Option, Result, ◌≢◌}
use Rattle.grammar.specs.Model.{Grammar}
use Rattle.sheet.specs.Meaning.{Sound}
use Rattle.tour.specs.Runs.{In, Apart, System, args}
use Rattle.tour.specs.Rules.{rule}
use Rattle.tour.specs.Trees.{Instance, Forest, places_in, instances, same_instance}
use Rattle.tour.specs.Fresh.{fresh}
use Rattle.tour.specs.Results.{result, engine}
use Rattle.tour.specs.Shapes.{tree_from}
use Rattle.places.specs.Places.{at, table, owed_at, value_at, attributes}
use Rattle.law.specs.Handed.{Archive, Rundown, Ticket, Piece, meaning}
use Rattle.law.specs.Conditions.{FewCells, BadLength, Formless, TooDeep, TooFew, Checks, passed, check, tree_of}
use Rattle.law.specs.Calls.{Opens, Question}
use Rattle.law.specs.Calls.Question.{the_root, child, rule_there, datum_at, value_there}
use Rattle.law.specs.Book.{Entry, Book, all_places, all_instances, opened, cells_of, depth_in, height, BookSettled, TreeAtPlaces}
use Rattle.law.specs.Histories.{Event, History, Happens, Keeps, NoDrop, evaluated_in, counted_in}
use Rattle.law.specs.Histories.Event.{plant, drop, discard, step, settle, read}
use Rattle.law.specs.declared.decline.Decline.{Decline}
use Rattle.law.specs.declared.decline.Decline.TheVariants.{Length, Form, Depth, Full, Cells, Ticket as Ticket-declined, Target, Symbol, Unsettled, Absent}

-- the decline in an answer
abbrev pub declined : {X : Type 0} → Result X Decline → Option Decline
declined (Ok x) = None
declined (Err d) = Some d

abbrev pub declined_back : {X : Type 0} → Result X (Decline × Ticket) → Option Decline
declined_back (Ok x) = None
declined_back (Err e) = Some e.0

module _ {V : Type 0} (g : Grammar) (m : Archive V) where
  -- the table shows the book's tree at its root and the book's block at each ticket's place, place by place; the free
  -- places are all others, and no place counts twice
  pub record ShowsBook (r : Rundown V) (k : Book) : Type 0 where
    pub tree_shown : tree_of g r ≡ k.tree
    pub blocks_shown : (e : Entry) → In e k.held → (e.ticket.tag ≡ r.tag) × (tree_from (table g r.places) 63 e.ticket.root ≡ e.block)
    pub in_table : (p : ℕ) → In p (all_places k) → p < length r.places
    pub free_places : (p : ℕ) → (at r.places p ≡ None) ↔ (In p (all_places k) → ⊥)
    pub no_place_twice : Apart (all_places k)

  -- a tree as a system of equations, by the tree, the sheet and the archive alone
  abbrev pub system_of : Forest → System Instance V
  system_of f = engine (meaning m) g (cells_of f) f (instances g f)

  -- in a settled rundown every value of the tree is the one that a fresh evaluation of that tree gives, and equals its
  -- equation's function of its arguments
  pub record SettledValues (r : Rundown V) (k : Book) : Type 0 where
    pub fresh_values : (x : Instance) → In x (instances g k.tree) → fresh same_instance (system_of k.tree) x ≡ Some (value_at (m.leaf 0) r.values x)
    pub equations_hold : (x : Instance) → In x (instances g k.tree) → value_at (m.leaf 0) r.values x ≡ result (meaning m) g (cells_of k.tree) x (value_at (m.leaf 0) r.values)

  -- some argument of x ended other than it began
  pub record ArgumentMoved (k : Book) (r r' : Rundown V) (x : Instance) : Type 0 where
    pub argument : Instance
    pub taken : In argument (args (system_of k.tree) x)
    pub moved : value_at (m.leaf 0) r'.values argument ≡ value_at (m.leaf 0) r.values argument → ⊥

  -- A further run without an accepted drop that ends settled evaluated exactly the instances of the tree that were owed at
  -- its start or have an argument that moved, each once; and the counts add up to their number.
  pub record ExactlyEvaluated (k : Book) (r : Rundown V) (es : List (Event V)) (r' : Rundown V) : Type 0 where
    pub once : Apart (evaluated_in es)
    pub exactly : (x : Instance) → In x (evaluated_in es) ↔ (In x (instances g k.tree) × ((k.owed x ≡ true) ⊎ ArgumentMoved k r r' x))
    pub counts : counted_in es ≡ length (evaluated_in es)

  -- Whether a call is accepted, by the book alone: its tree, its held blocks, and how many places are free.
  abbrev pub book_free : Rundown V → Book → ℕ
  book_free r k = length r.places - length (all_places k)

  abbrev pub Unspent : Book → Ticket → Type 0
  Unspent k t = (f : Forest) × In (record { ticket = t; block = f }) k.held

  abbrev pub SymbolsDiffer : Book → Ticket → ℕ → Type 0
  SymbolsDiffer k t p = (f : Forest) → In (record { ticket = t; block = f }) k.held → (rule g (cells_of f t.root).rule).left ≢ (rule g (cells_of k.tree p).rule).left

  abbrev pub DepthPassed : Book → Ticket → ℕ → Type 0
  DepthPassed k t p = (f : Forest) × In (record { ticket = t; block = f }) k.held × (64 < (depth_in p k.tree - 1) + height f)

  abbrev pub in_tree : Book → ℕ → Checks → Checks
  in_tree k p later = check (In p (places_in k.tree) → ⊥) Absent later

  abbrev pub question_checks : Book → Question → Checks
  question_checks k the_root = passed
  question_checks k (child p n) = in_tree k p passed
  question_checks k (rule_there p) = in_tree k p passed
  question_checks k (datum_at p) = in_tree k p passed
  question_checks k (value_there p a) = in_tree k p (check (a < attributes g (cells_of k.tree p).rule → ⊥) Absent (check (BookSettled g k → ⊥) Unsettled passed))

  abbrev pub ByBook : Rundown V → Book → Event V → Type 0
  ByBook r k (plant b cells ps answer) =
      check (FewCells cells) Cells
      (check (BadLength b) Length
      (check (Formless g b) Form
      (check (TooDeep g b) Depth
      (check (TooFew (book_free r k) b) Full passed))))
      (declined answer)
  ByBook r k (drop t p answer) =
      check (Unspent k t → ⊥) Ticket-declined
      (check (In p (places_in k.tree) → ⊥) Target
      (check (SymbolsDiffer k t p) Symbol
      (check (DepthPassed k t p) Depth passed)))
      (declined_back answer)
  ByBook r k (discard t cells answer) = check (FewCells cells) Cells (check (Unspent k t → ⊥) Ticket-declined passed) (declined_back answer)
  ByBook r k (step cells answer) = check (FewCells cells) Cells passed (declined answer)
  ByBook r k (settle budget cells evaluated answer) = check (FewCells cells) Cells passed (declined answer)
  ByBook r k (read q answer) = question_checks k q (declined answer)

  -- what holds after every list of calls
  pub record Upheld (r : Rundown V) (k : Book) : Type 0 where
    pub shows_book : ShowsBook r k
    pub marks_are_owed : (x : Instance) → In x (all_instances g k) → owed_at r.places x ≡ k.owed x
    pub settled_values : BookSettled g k → SettledValues r k
    pub exactly_evaluated : (es : List (Event V)) (r' : Rundown V) (k' : Book) → History g m r es r' → Keeps g k es k' → NoDrop es → BookSettled g k' → ExactlyEvaluated k r es r'
    pub answers_by_book : (e : Event V) (r' : Rundown V) → Happens g m r e r' → ByBook r k e

  -- the book of an opening that was accepted
  pub record Opening (tag : ℕ) (b : List Piece) (cells : ℕ) (handed r : Rundown V) (k : Book) : Type 0 where
    pub accepted : Opens g m tag b cells handed None r
    pub tree_entered : (f : Forest) × (ps : List ℕ) × TreeAtPlaces g b ps f × (k ≡ opened g f) × (f ≡ tree_of g r)

  abbrev pub WholeRuns : Type 0
  WholeRuns =
      Sound g → (tag : ℕ) (b : List Piece) (cells : ℕ) (handed r : Rundown V) (k : Book) → Opening tag b cells handed r k →
      (es : List (Event V)) (r' : Rundown V) → History g m r es r' → (k' : Book) × Keeps g k es k' × Upheld r' k'
