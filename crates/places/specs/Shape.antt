-- When a table of places is in shape.
use Rattle.std.specs.Prelude.{◌≡◌, ℕ, zero, suc, ◌-◌, ◌^◌, ◌<◌, ◌≤◌, Bool, true, false, List, length, Some, None, Option, slice_index, slice_index_or}
use Rattle.grammar.specs.Model.{Grammar}
use Rattle.tour.specs.Rules.{rule}
use Rattle.places.specs.Places.{at, parent_at, arity, attributes}
use Rattle.places.specs.declared.node.Node.{Node}
use Rattle.places.specs.declared.node.Parent.{Parent}

-- climbing from p to parents comes to a node without a parent within n places, p among them
abbrev pub climbs : List (Option Node) → ℕ → ℕ → Bool
climbs ps zero p = false
climbs ps (suc n) p = elim (parent_at ps p) [ None ↦ true | Some u ↦ climbs ps n u.place ]

-- where that climbing ends
abbrev pub top_from : List (Option Node) → ℕ → ℕ → ℕ
top_from ps zero p = p
top_from ps (suc n) p = elim (parent_at ps p) [ None ↦ p | Some u ↦ top_from ps n u.place ]

-- how many places it passes, both ends among them
abbrev pub depth_from : List (Option Node) → ℕ → ℕ → ℕ
depth_from ps zero p = 0
depth_from ps (suc n) p = elim (parent_at ps p) [ None ↦ 1 | Some u ↦ suc (depth_from ps n u.place) ]

-- the node m hangs below place p as child number k, counted from 0, and has that symbol
pub record ChildOf (g : Grammar) (p k x : ℕ) (m : Node) : Type 0 where
  pub hangs : m.parent ≡ Some (record { place = p; position = suc k })
  pub symbol_is : (rule g m.rule).left ≡ x

abbrev pub ChildThere : Grammar → ℕ → ℕ → ℕ → Option Node → Type 0
ChildThere g p k x None = ⊥
ChildThere g p k x (Some m) = ChildOf g p k x m

-- p is the child of node m at that position, counted from 1
pub record ParentOf (g : Grammar) (p position : ℕ) (m : Node) : Type 0 where
  pub first : 1 ≤ position
  pub last : position ≤ arity g m.rule
  pub points : slice_index_or m.children (position - 1) 0 ≡ p

abbrev pub ParentThere : Grammar → ℕ → ℕ → Option Node → Type 0
ParentThere g p position None = ⊥
ParentThere g p position (Some m) = ParentOf g p position m

abbrev pub HangsBelow : Grammar → List (Option Node) → ℕ → Option Parent → Type 0
HangsBelow g ps p None = Unit {0}
HangsBelow g ps p (Some u) = ParentThere g p u.position (at ps u.place)

-- what holds of the node n at a used place p
pub record SoundNode (g : Grammar) (ps : List (Option Node)) (p : ℕ) (n : Node) : Type 0 where
  pub rule_there : n.rule < length g.rules
  -- a row of four, as the type of nodes has it
  pub row : length n.children ≡ 4
  -- each child points back, and its symbol is the one that the rule has there
  pub children_there : (k : ℕ) → k < arity g n.rule → ChildThere g p k (slice_index (rule g n.rule).right k) (at ps (slice_index n.children k))
  -- the parent, if there is one, has this node as its child
  pub parent_there : HangsBelow g ps p n.parent
  pub ends : climbs ps 64 p ≡ true
  -- marks name attributes that exist
  pub marks_there : n.marks < 2 ^ attributes g n.rule

-- what holds at a place p: nothing where it is free
abbrev pub SoundPlace : Grammar → List (Option Node) → ℕ → Option Node → Type 0
SoundPlace g ps p None = Unit {0}
SoundPlace g ps p (Some n) = SoundNode g ps p n

-- the root has the start symbol and no parent
pub record RootNode (g : Grammar) (n : Node) : Type 0 where
  pub free_standing : n.parent ≡ None
  pub start : (rule g n.rule).left ≡ 0

abbrev pub RootThere : Grammar → Option Node → Type 0
RootThere g None = ⊥
RootThere g (Some n) = RootNode g n

-- what holds of all places, whichever of them is the root
pub record SoundPlaces (g : Grammar) (ps : List (Option Node)) : Type 0 where
  pub some_place : 1 ≤ length ps
  pub few_places : length ps ≤ 4096
  pub nodes : (p : ℕ) (n : Node) → at ps p ≡ Some n → SoundNode g ps p n

pub record InShape (g : Grammar) (ps : List (Option Node)) (root : ℕ) : Type 0 where
  pub places_sound : SoundPlaces g ps
  pub root_there : RootThere g (at ps root)

-- a held root: a used place without a parent that is not the root
pub record Held (ps : List (Option Node)) (root p : ℕ) : Type 0 where
  pub node : Node
  pub there : at ps p ≡ Some node
  pub free_standing : node.parent ≡ None
  pub other : p ≡ root → ⊥

-- a used place from which climbing ends at the root
pub record InTree (ps : List (Option Node)) (root p : ℕ) : Type 0 where
  pub node : Node
  pub there : at ps p ≡ Some node
  pub below_root : top_from ps 64 p ≡ root
