-- The place book: a tree and, under each ticket, a block, as places with rule, datum and children; and beside it what is
-- owed. Both are kept from the calls and the taken places alone. Nothing here looks at a table.
use Rattle.std.specs.Prelude.{◌≡◌, ℕ, zero, suc, max, Bool, true, false, cond, not, ◌&&◌, ◌||◌, List, [], ◌∷◌, ◌++◌, Some, None, Option, ◌==◌, ◌≢◌}
use Rattle.std.specs.Option.{unwrap_or}
use Rattle.std.specs.List.{flat_map}
use Rattle.grammar.specs.Model.{Grammar}
use Rattle.grammar.specs.Tests.{some}
use Rattle.tour.specs.Runs.{In}
use Rattle.tour.specs.Trees.{Instance, Forest, Agrees, places, places_in, instances, same_instance}
use Rattle.tour.specs.Trees.Forest.{none, node}
use Rattle.tour.specs.Nodes.{Link, Cell, Table, above}
use Rattle.tour.specs.Nodes.Link.{top, under}
use Rattle.tour.specs.Exchange.{subtree}
use Rattle.tour.specs.Blocks.{pieces}
use Rattle.exchange.specs.Takers.{takers_at, takers_of}
use Rattle.exchange.specs.Exchanging.{inherited_at}
use Rattle.exchange.specs.declared.taken.Taken.TheVariants.{Occurrence}
use Rattle.law.specs.Handed.{Ticket, Piece}

pub record Entry : Type 0 where
  pub ticket : Ticket
  pub block : Forest

pub record Book : Type 0 where
  pub tree : Forest
  pub held : List Entry
  pub owed : Instance → Bool

abbrev pub all_places : Book → List ℕ
all_places k = places_in k.tree ++ flat_map (λ e. places_in e.block) k.held

abbrev pub all_instances : Grammar → Book → List Instance
all_instances g k = instances g k.tree ++ flat_map (λ e. instances g e.block) k.held

abbrev pub is_instance : Grammar → Forest → Instance → Bool
is_instance g f x = some (same_instance x) (instances g f)

-- what the trees show at each place, as the theory of tours speaks of it
abbrev pub or_else : Option Cell → Option Cell → Option Cell
or_else None y = y
or_else (Some c) y = Some c

abbrev pub cell_in : ℕ → Forest → (ℕ → Link) → ℕ → Option Cell
cell_in p none up k = None
cell_in p (node q r c kids rest) up k =
    cond (p == q) (Some (record { rule = r; code = c; link = up k; kids = places kids })) (or_else (cell_in p kids (under q) 1) (cell_in p rest up (suc k)))

abbrev pub cells_of : Forest → Table
cells_of f p = unwrap_or (cell_in p f above 0) (record { rule = 0; code = 0; link = top; kids = [] })

-- the trees with the one at place q replaced
abbrev pub beside : Forest → Forest → Forest
beside none rest = rest
beside (node p r c kids more) rest = node p r c kids rest

abbrev pub replaced : ℕ → Forest → Forest → Forest
replaced q block none = none
replaced q block (node p r c kids rest) = cond (p == q) (beside block rest) (node p r c (replaced q block kids) (replaced q block rest))

-- how many nodes stand on the way from the first root to place q, both among them; 0 if it is not there
abbrev pub deeper : ℕ → ℕ → ℕ
deeper zero other = other
deeper (suc d) other = suc (suc d)

abbrev pub depth_in : ℕ → Forest → ℕ
depth_in q none = 0
depth_in q (node p r c kids rest) = cond (p == q) 1 (deeper (depth_in q kids) (depth_in q rest))

abbrev pub height : Forest → ℕ
height none = 0
height (node p r c kids rest) = max (suc (height kids)) (height rest)

abbrev pub same_ticket : Ticket → Ticket → Bool
same_ticket t u = t.tag == u.tag && t.root == u.root

-- the entries without those under ticket t
abbrev pub struck : Ticket → List Entry → List Entry
struck t [] = []
struck t (e ∷ es) = cond (same_ticket e.ticket t) (struck t es) (e ∷ struck t es)

-- OPEN: its block is the tree, nothing is held, every instance is owed
abbrev pub opened : Grammar → Forest → Book
opened g f = record { tree = f; held = []; owed = is_instance g f }

-- PLANT: its block under the ticket given, every instance of it owed
abbrev pub planted : Grammar → Book → Ticket → Forest → Book
planted g k t f = record { tree = k.tree; held = record { ticket = t; block = f } ∷ k.held; owed = λ x. k.owed x || is_instance g f x }

-- DROP: the inherited instances of the new root become owed, and each instance whose equation in the parent takes an
-- argument from that occurrence; at the tree's root nothing does.
abbrev pub owed_below : Grammar → Table → ℕ → Link → Instance → Bool
owed_below g T h top x = false
owed_below g T h (under u k) x = inherited_at g T h x || takers_at g T u (Occurrence k) x

abbrev pub dropped : Grammar → Book → Ticket → Forest → ℕ → Ticket → Book
dropped g k t f p given = record {
  tree = replaced p f k.tree;
  held = record { ticket = given; block = subtree p k.tree } ∷ struck t k.held;
  owed = λ x. k.owed x || owed_below g (cells_of (replaced p f k.tree)) t.root (cells_of (replaced p f k.tree) t.root).link x;
}

-- DISCARD: ticket and block are struck, and nothing of the block is owed
abbrev pub discarded : Grammar → Book → Ticket → Forest → Book
discarded g k t f = record { tree = k.tree; held = struck t k.held; owed = λ x. k.owed x && not (is_instance g f x) }

-- an evaluation: the instance is owed no more; if its value has changed, each that takes it as an argument is owed
abbrev pub evaluated_once : Grammar → Book → Instance × Bool → Book
evaluated_once g k e = record {
  tree = k.tree;
  held = k.held;
  owed = λ y. (k.owed y && not (same_instance y e.0)) || (e.1 && takers_of g (cells_of k.tree) e.0 y);
}

abbrev pub evaluated_all : Grammar → Book → List (Instance × Bool) → Book
evaluated_all g k [] = k
evaluated_all g k (e ∷ es) = evaluated_all g (evaluated_once g k e) es

-- no instance of the tree is owed
abbrev pub BookSettled : Grammar → Book → Type 0
BookSettled g k = (x : Instance) → In x (instances g k.tree) → k.owed x ≢ true

-- the tree of a block at the places that it has taken
pub record TreeAtPlaces (g : Grammar) (b : List Piece) (ps : List ℕ) (f : Forest) : Type 0 where
  pub symbol : ℕ
  pub agrees : Agrees g f (symbol ∷ [])
  pub block : pieces f ≡ b
  pub in_places : places_in f ≡ ps
