-- What each call answers, and what every table holds then. A declined call leaves all tables as they were. These
-- relations are to be the contracts of the calls; nothing here is proved yet.
use Rattle.std.specs.Prelude.{◌≡◌, ℕ, zero, suc, ◌+◌, ◌*◌, ◌<◌, ◌≤◌, Bool, true, false, not, ◌&&◌, ◌||◌, ◌⊎◌, List, [], ◌∷◌, ◌++◌, map, length, Some, None, Ok, Err, Decides, count_by, Option, Result, ◌≢◌, nat_lt, slice_index, slice_index_or, slice_set}
use Rattle.grammar.specs.Model.{Grammar}
use Rattle.tour.specs.Runs.{In}
use Rattle.tour.specs.Trees.{Instance, Forest, Agrees, instances, places_in, same_instance}
use Rattle.tour.specs.Touring.{tour}
use Rattle.tour.specs.Results.{result}
use Rattle.tour.specs.Blocks.{pieces}
use Rattle.places.specs.Places.{at, parent_at, arity, attributes, table, owed_at, value_at}
use Rattle.places.specs.Shape.{InShape, InTree}
use Rattle.places.specs.declared.node.Node.{Node}
use Rattle.places.specs.Totals.{is_free}
use Rattle.blocks.specs.Taken.{taken}
use Rattle.blocks.specs.Planted.{laid}
use Rattle.exchange.specs.Waking.{Remarked}
use Rattle.exchange.specs.Takers.{takers_of}
use Rattle.exchange.specs.Exchanging.{ExchangedPlaces}
use Rattle.exchange.specs.Freeing.{Freed}
use Rattle.law.specs.Handed.{Archive, Rundown, Ticket, Piece, meaning}
use Rattle.law.specs.Conditions.{Lacking, BadSize, ShortValues, FewCells, BadLength, FormlessFrom, Formless, TooDeep, TooFew, HoldsBlock, OtherSymbol, ResultTooDeep, UnmetInstance, Settled, tree_of, Checks, passed, check}
use Rattle.law.specs.declared.decline.Decline.{Decline}
use Rattle.law.specs.declared.decline.Decline.TheVariants.{Function, Tables, Length, Form, Depth, Full, Shape, Cells, Ticket as Ticket-declined, Target, Symbol, Unmet, Unsettled, Absent}

-- The tree f of the block b, with symbol x at its root, is laid out in places that were free; all its instances are owed,
-- and every other place is as it was.
pub record NewTree (g : Grammar) (x : ℕ) (b : List Piece) (ps qs : List (Option Node)) (f : Forest) : Type 0 where
  pub agrees : Agrees g f (x ∷ [])
  pub block : pieces f ≡ b
  pub in_places : places_in f ≡ taken ps (length b)
  pub table_is : qs ≡ laid g f None ps

-- the values of these instances are the leaf of 0, and no other entry is altered
pub record NewValues {V : Type 0} (m : Archive V) (xs : List Instance) (vs ws : List V) : Type 0 where
  pub size : length ws ≡ length vs
  pub blank : (x : Instance) → In x xs → value_at (m.leaf 0) ws x ≡ m.leaf 0
  pub others : (i : ℕ) (v : V) → ((x : Instance) → In x xs → i ≢ 16 * x.0 + x.1) → slice_index_or ws i v ≡ slice_index_or vs i v

abbrev pub no_place : Option Node → Option Node
no_place x = None

abbrev pub root_of : Forest → ℕ
root_of f = slice_index (places_in f) 0

module _ {V : Type 0} (g : Grammar) (m : Archive V) where
  -- OPEN
  abbrev pub open_checks : Rundown V → List Piece → ℕ → Checks
  open_checks r b cells =
      check (Lacking g m) Function
      (check (BadSize r.places ⊎ ShortValues r.places r.values) Tables
      (check (FewCells cells) Cells
      (check (BadLength b) Length
      (check (FormlessFrom g 0 b) Form
      (check (TooDeep g b) Depth
      (check (TooFew (length r.places) b) Full passed))))))

  -- the tables that were handed in, all places freed, with the new tree as the tree
  pub record Opened (tag : ℕ) (b : List Piece) (before after : Rundown V) : Type 0 where
    pub tree : Forest
    pub tag_is : after.tag ≡ tag
    pub root_is : after.root ≡ root_of tree
    pub new_tree : NewTree g 0 b (map no_place before.places) after.places tree
    pub new_values : NewValues m (instances g tree) before.values after.values

  abbrev pub Opens : ℕ → List Piece → ℕ → Rundown V → Option Decline → Rundown V → Type 0
  Opens tag b cells before None after = open_checks before b cells None × Opened tag b before after
  Opens tag b cells before (Some d) after = open_checks before b cells (Some d) × (after ≡ before)

  -- PLANT
  abbrev pub rundown_checks : Rundown V → Checks → Checks
  rundown_checks r later = check (InShape g r.places r.root → ⊥) Shape later

  abbrev pub cell_checks : ℕ → Checks → Checks
  cell_checks cells later = check (FewCells cells) Cells later

  abbrev pub value_checks : Rundown V → Checks → Checks
  value_checks r later = check (ShortValues r.places r.values) Tables later

  abbrev pub plant_checks : Rundown V → List Piece → ℕ → Checks
  plant_checks r b cells =
      rundown_checks r (cell_checks cells (value_checks r
      (check (BadLength b) Length
      (check (Formless g b) Form
      (check (TooDeep g b) Depth
      (check (TooFew (count_by is_free r.places) b) Full passed))))))

  pub record Planted (b : List Piece) (before : Rundown V) (t : Ticket) (after : Rundown V) : Type 0 where
    pub symbol : ℕ
    pub tree : Forest
    pub ticket_is : t ≡ record { tag = before.tag; root = root_of tree }
    pub tag_kept : after.tag ≡ before.tag
    pub root_kept : after.root ≡ before.root
    pub new_tree : NewTree g symbol b before.places after.places tree
    pub new_values : NewValues m (instances g tree) before.values after.values

  abbrev pub Plants : List Piece → ℕ → Rundown V → Result Ticket Decline → Rundown V → Type 0
  Plants b cells before (Ok t) after = plant_checks before b cells None × Planted b before t after
  Plants b cells before (Err d) after = plant_checks before b cells (Some d) × (after ≡ before)

  -- DROP
  abbrev pub drop_checks : Rundown V → Ticket → ℕ → Checks
  drop_checks r t p =
      rundown_checks r (value_checks r
      (check (HoldsBlock r t → ⊥) Ticket-declined
      (check (InTree r.places r.root p → ⊥) Target
      (check (OtherSymbol g r.places t.root p) Symbol
      (check (ResultTooDeep r.places t.root p) Depth passed)))))

  -- at the tree's root the held block becomes the tree, and no place changes
  abbrev pub root_after : Rundown V → ℕ → ℕ → ℕ
  root_after r h p = elim (parent_at r.places p) [ None ↦ h | Some u ↦ r.root ]

  pub record Dropped (t : Ticket) (p : ℕ) (before : Rundown V) (given : Ticket) (after : Rundown V) : Type 0 where
    pub ticket_is : given ≡ record { tag = before.tag; root = p }
    pub tag_kept : after.tag ≡ before.tag
    pub root_is : after.root ≡ root_after before t.root p
    pub values_kept : after.values ≡ before.values
    pub exchanged : ExchangedPlaces g before.places after.places p t.root

  abbrev pub Drops : Ticket → ℕ → Rundown V → Result Ticket (Decline × Ticket) → Rundown V → Type 0
  Drops t p before (Ok u) after = drop_checks before t p None × Dropped t p before u after
  Drops t p before (Err e) after = drop_checks before t p (Some e.0) × (e.1 ≡ t) × (after ≡ before)

  -- DISCARD
  abbrev pub discard_checks : Rundown V → Ticket → ℕ → Checks
  discard_checks r t cells = rundown_checks r (cell_checks cells (value_checks r (check (HoldsBlock r t → ⊥) Ticket-declined passed)))

  pub record Discarded (t : Ticket) (before after : Rundown V) : Type 0 where
    pub tag_kept : after.tag ≡ before.tag
    pub root_kept : after.root ≡ before.root
    pub values_kept : after.values ≡ before.values
    pub freed : Freed before.places after.places t.root

  abbrev pub Discards : Ticket → ℕ → Rundown V → Result (Unit {0}) (Decline × Ticket) → Rundown V → Type 0
  Discards t cells before (Ok u) after = discard_checks before t cells None × Discarded t before after
  Discards t cells before (Err e) after = discard_checks before t cells (Some e.0) × (e.1 ≡ t) × (after ≡ before)

  -- STEP
  abbrev pub step_checks : Rundown V → ℕ → Checks
  step_checks r cells = rundown_checks r (cell_checks cells (value_checks r (check (UnmetInstance g r) Unmet passed)))

  -- what the equation of an instance gives on the values as they stand
  abbrev pub result_at : Rundown V → Instance → V
  result_at r x = result (meaning m) g (table g r.places) x (value_at (m.leaf 0) r.values)

  -- The first owed instance of the tour is evaluated; it is owed no more. If its value has changed, each instance that
  -- takes it as an argument is owed.
  pub record Stepped (before : Rundown V) (x : Instance) (changed : Bool) (after : Rundown V) : Type 0 where
    pub front : List Instance
    pub back : List Instance
    pub place : tour g (tree_of g before) ≡ front ++ x ∷ back
    pub none_before : (y : Instance) → In y front → owed_at before.places y ≢ true
    pub due : owed_at before.places x ≡ true
    pub tag_kept : after.tag ≡ before.tag
    pub root_kept : after.root ≡ before.root
    pub values_are : after.values ≡ slice_set before.values (16 * x.0 + x.1) (result_at before x)
    pub unchanged : Decides (not changed) (result_at before x ≡ value_at (m.leaf 0) before.values x)
    pub marks_are : Remarked before.places after.places (λ y owed. (owed && not (same_instance y x)) || (changed && takers_of g (table g before.places) x y))

  -- step answers place, attribute and changed or not, together; or settled
  abbrev pub Stepping : Rundown V → Option (ℕ × ℕ × Bool) → Rundown V → Type 0
  Stepping before None after = Settled g before × (after ≡ before)
  Stepping before (Some e) after = Stepped before (e.0, e.1) e.2 after

  abbrev pub Steps : ℕ → Rundown V → Result (Option (ℕ × ℕ × Bool)) Decline → Rundown V → Type 0
  Steps cells before (Ok e) after = step_checks before cells None × Stepping before e after
  Steps cells before (Err d) after = step_checks before cells (Some d) × (after ≡ before)

  -- SETTLE: steps, one after the other, that evaluate these instances; with each, whether its value changed
  abbrev pub RunOf : Rundown V → List (Instance × Bool) → Rundown V → Type 0
  RunOf before [] after = after ≡ before
  RunOf before (e ∷ es) after = (r : Rundown V) × Stepped before e.0 e.1 r × RunOf r es after

  -- as many steps as the budget has, fewer once settled; the answer is their number, and whether the tree is settled then
  pub record SettlingRun (budget : ℕ) (before : Rundown V) (evaluated : List (Instance × Bool)) (count : ℕ) (settled : Bool) (after : Rundown V) : Type 0 where
    pub run : RunOf before evaluated after
    pub count_is : count ≡ length evaluated
    pub in_budget : length evaluated ≤ budget
    pub fewer : length evaluated < budget → Settled g after
    pub settled_is : Decides settled (Settled g after)

  abbrev pub Settles : ℕ → ℕ → List (Instance × Bool) → Rundown V → Result (ℕ × Bool) Decline → Rundown V → Type 0
  Settles budget cells evaluated before (Ok e) after = step_checks before cells None × SettlingRun budget before evaluated e.0 e.1 after
  Settles budget cells evaluated before (Err d) after = step_checks before cells (Some d) × (evaluated ≡ []) × (after ≡ before)

-- READERS
pub data Question : Type 0 where
  the_root : Question
  child : (place position : ℕ) → Question
  rule_there : (place : ℕ) → Question
  datum_at : (place : ℕ) → Question
  value_there : (place attribute : ℕ) → Question

pub data Reading (V : Type 0) : Type 0 where
  at_place : ℕ → Reading V
  absent : Reading V
  number : ℕ → Reading V
  value_is : V → Reading V

-- the attribute is there at the place
abbrev pub HasAttribute : Grammar → Option Node → ℕ → Type 0
HasAttribute g None a = ⊥
HasAttribute g (Some n) a = a < attributes g n.rule

-- child number k, counted from 1; there is none at 0 or past the rule's right symbols
abbrev pub child_in : {V : Type 0} → Grammar → Option Node → ℕ → Reading V
child_in g None k = absent
child_in g (Some n) zero = absent
child_in g (Some n) (suc k) = elim (nat_lt k (arity g n.rule)) [ true ↦ at_place (slice_index n.children k) | false ↦ absent ]

abbrev pub rule_in : Option Node → ℕ
rule_in None = 0
rule_in (Some n) = n.rule

abbrev pub datum_in : Option Node → ℕ
datum_in None = 0
datum_in (Some n) = n.datum

module _ {V : Type 0} (g : Grammar) (m : Archive V) where
  abbrev pub place_checks : Rundown V → ℕ → Checks → Checks
  place_checks r p later = rundown_checks g m r (value_checks g m r (check (InTree r.places r.root p → ⊥) Absent later))

  abbrev pub read_checks : Rundown V → Question → Checks
  read_checks r the_root = rundown_checks g m r (value_checks g m r passed)
  read_checks r (child p k) = place_checks r p passed
  read_checks r (rule_there p) = place_checks r p passed
  read_checks r (datum_at p) = place_checks r p passed
  read_checks r (value_there p a) = place_checks r p (check (HasAttribute g (at r.places p) a → ⊥) Absent (check (Settled g r → ⊥) Unsettled passed))

  abbrev pub reading : Rundown V → Question → Reading V
  reading r the_root = at_place r.root
  reading r (child p k) = child_in g (at r.places p) k
  reading r (rule_there p) = number (rule_in (at r.places p))
  reading r (datum_at p) = number (datum_in (at r.places p))
  reading r (value_there p a) = value_is (value_at (m.leaf 0) r.values (p, a))

  -- a reader changes nothing
  abbrev pub Reads : Question → Rundown V → Result (Reading V) Decline → Type 0
  Reads q r (Ok x) = read_checks r q None × (x ≡ reading r q)
  Reads q r (Err d) = read_checks r q (Some d)
