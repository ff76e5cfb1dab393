-- What a table is, as against before, after a tree was laid into free places of it.
use Rattle.std.proofs.Common.{◌≡◌, ℕ, ◌<◌, true, ◌⊎◌, List, [], ◌∷◌, ◌++◌, length, None, Option, sym, ap, ◌∙◌, subst, inl, inr, arith}
use Rattle.grammar.specs.Model.{Grammar}
use Rattle.sheet.specs.Meaning.{Sound}
use Rattle.tour.specs.Nodes.{Table, attributes_of, Shows, above}
use Rattle.tour.specs.Rules.{rule, symbol}
use Rattle.tour.specs.Runs.{In, Apart}
use Rattle.tour.specs.Shapes.{tree_from}
use Rattle.tour.specs.Trees.{Instance, Forest, Agrees, row, instances, places_in}
use Rattle.tour.specs.Trees.Forest.{none, node}
use Rattle.tour.specs.Walks.{Within}
use Rattle.tour.proofs.Lists.{in_cases}
use Rattle.places.specs.Marks.{owes}
use Rattle.places.specs.Places.{at, marks_in, attributes, cell_of, table, owed_at}
use Rattle.places.specs.Shape.{SoundPlaces, InShape}
use Rattle.places.specs.declared.node.Node.{Node}
use Rattle.blocks.specs.Planted.{laid}
use Rattle.law.specs.Calls.{root_of}
use Rattle.law.proofs.Laying.{tree_at_shown}
use Rattle.law.proofs.LayingPlaces.{few_attributes, all_owed, length_laid, laid_other, laid_shown}
use Rattle.law.proofs.LayingSound.{in_row_below, NewNode, Room, laid_new, laid_owed, laid_places, laid_shape}

-- a tree that a table shows is the one that is read off it at its root
pub tree_at_root : (g : Grammar) (T : Table) (f : Forest) (x : ℕ) → Agrees g f (x ∷ []) → Shows T f above 0 → Within f 64 → tree_from T 63 (root_of f) ≡ f
tree_at_root g T none x ag s w = absurd ag
tree_at_root g T (node p r c kids none) x ag s w = tree_at_shown T p r c kids s w
tree_at_root g T (node p r c kids (node p' r' c' kids' rest)) x ag s w = absurd ag.3

-- an attribute of a new node is owed
pub new_owed : (g : Grammar) (qs : List (Option Node)) (p a : ℕ) → NewNode g qs p → a < length (attributes_of g (table g qs) p) → owed_at qs (p, a) ≡ true
new_owed g qs p a n h =
    let l : a < attributes g n.new.rule = subst (λ o. a < length (symbol g (rule g (cell_of g o).rule).left).attributes) n.there h in
    ap (λ o. owes (marks_in o) a) n.there ∙ ap (λ z. owes z a) n.all_marks ∙ all_owed (attributes g n.new.rule) a l

-- an instance of trees of the sheet has one of the first sixteen attributes
pub instance_small : (g : Grammar) → Sound g → (f : Forest) (xs : List ℕ) → Agrees g f xs → (y : Instance) → In y (instances g f) → y.1 < 16
instance_small g so none xs ag y m = absurd m
instance_small g so (node p r c kids rest) [] ag y m = absurd ag
instance_small g so (node p r c kids rest) (x ∷ xs) (l, e, ag, ag') y m = go (in_cases y (row p 0 (attributes g r)) (instances g kids ++ instances g rest) m) (instance_small g so kids (rule g r).right ag y) (instance_small g so rest xs ag' y)
  where
    go : In y (row p 0 (attributes g r)) ⊎ In y (instances g kids ++ instances g rest) → (In y (instances g kids) → y.1 < 16) → (In y (instances g rest) → y.1 < 16) → y.1 < 16
    go (inl n) a b = let w = in_row_below y p 0 (attributes g r) n in omega (arith, w.1, few_attributes g so r l)
    go (inr n) a b = elim (in_cases y (instances g kids) (instances g rest) n) [ inl k ↦ a k | inr k ↦ b k ]

-- ps before, qs after: the tree f stands at places that were free, all its instances are owed, and every other place is
-- as it was
pub record LaidIn (g : Grammar) (ps qs : List (Option Node)) (f : Forest) : Type 0 where
  pub long : length qs ≡ length ps
  pub others : (p : ℕ) → (In p (places_in f) → ⊥) → at qs p ≡ at ps p
  pub free_before : (p : ℕ) → In p (places_in f) → at ps p ≡ None
  pub inside : (p : ℕ) → In p (places_in f) → p < length ps
  pub apart : Apart (places_in f)
  pub new_nodes : (p : ℕ) → In p (places_in f) → NewNode g qs p
  pub owed : (x : Instance) → In x (instances g f) → owed_at qs x ≡ true
  pub shown : Shows (table g qs) f above 0
  pub tree_there : tree_from (table g qs) 63 (root_of f) ≡ f
  pub places_sound : SoundPlaces g ps → SoundPlaces g qs
  pub in_shape : (root : ℕ) → InShape g ps root → InShape g qs root

-- a tree with room in a table, laid into it
pub laid_in : (g : Grammar) → Sound g → (ps qs : List (Option Node)) (x : ℕ) (f : Forest) → Room g ps x f → qs ≡ laid g f None ps → LaidIn g ps qs f
laid_in g so ps qs x f ro e = subst (λ z. LaidIn g ps z f) (sym e) (record {
  long = length_laid g f None ps;
  others = laid_other g f None ps;
  free_before = ro.free;
  inside = ro.inside;
  apart = ro.apart;
  new_nodes = laid_new g so ps x f ro;
  owed = laid_owed g so ps x f ro;
  shown = seen;
  tree_there = tree_at_root g (table g (laid g f None ps)) f x ro.agrees seen ro.depth;
  places_sound = laid_places g so ps x f ro;
  in_shape = laid_shape g so ps x f ro;
})
  where
    seen : Shows (table g (laid g f None ps)) f above 0
    seen = laid_shown g so f x ps ro.agrees ro.apart ro.inside
