-- Walks while marks change.
use Rattle.std.specs.Prelude.{◌≡◌, ℕ, ◌^◌, ◌<◌, List, length, Some, None, Option}
use Rattle.grammar.specs.Model.{Grammar}
use Rattle.places.specs.Places.{at, attributes, table}
use Rattle.places.specs.Shape.{SoundPlaces}
use Rattle.places.specs.declared.node.Node.{Node}
use Rattle.walk.specs.Ahead.{ahead}
use Rattle.walk.specs.Stands.{Stand}
use Rattle.walk.specs.Walking.{Walking}

-- two nodes that differ in nothing but their marks
pub record LikeNode (n m : Node) : Type 0 where
  pub same_rule : m.rule ≡ n.rule
  pub same_datum : m.datum ≡ n.datum
  pub same_parent : m.parent ≡ n.parent
  pub same_children : m.children ≡ n.children

abbrev pub Like : Option Node → Option Node → Type 0
Like None None = Unit {0}
Like None (Some m) = ⊥
Like (Some n) None = ⊥
Like (Some n) (Some m) = LikeNode n m

-- the places qs are ps but for marks, which name attributes that exist
pub record Remarked (g : Grammar) (ps qs : List (Option Node)) : Type 0 where
  pub same_length : length qs ≡ length ps
  pub alike : (p : ℕ) → Like (at ps p) (at qs p)
  pub marks_there : (p : ℕ) (m : Node) → at qs p ≡ Some m → m.marks < 2 ^ attributes g m.rule

-- what stays when only marks change
pub record Unmoved (g : Grammar) (ps qs : List (Option Node)) (s : Stand) : Type 0 where
  pub sound : SoundPlaces g ps → SoundPlaces g qs
  pub walking : Walking g ps s → Walking g qs s
  pub same_table : table g qs ≡ table g ps
  pub same_ahead : ahead g (table g qs) s ≡ ahead g (table g ps) s

abbrev pub MarksLaw : Type 0
MarksLaw = (g : Grammar) (ps qs : List (Option Node)) (s : Stand) → Remarked g ps qs → Unmoved g ps qs s
