-- A held block that goes where a subtree stood.
use Rattle.std.specs.Prelude.{◌≡◌, ℕ, ◌+◌, ◌-◌, ◌≤◌, Bool, true, false, ◌&&◌, ◌||◌, ◌⊎◌, List, Some, None, Option, ◌==◌, ◌≢◌}
use Rattle.std.specs.List.{slice_get}
use Rattle.grammar.specs.Model.{Grammar}
use Rattle.grammar.specs.Scopes.{flows}
use Rattle.grammar.specs.declared.terms.Flow.TheVariants.{Inherited}
use Rattle.sheet.specs.Meaning.{Sound}
use Rattle.tour.specs.Exchange.{Exchanged}
use Rattle.tour.specs.Rules.{rule}
use Rattle.tour.specs.Trees.{Instance}
use Rattle.tour.specs.Nodes.{Table}
use Rattle.tour.specs.Nodes.{attributes_of}
use Rattle.tour.specs.Steady.{Live, Woken}
use Rattle.places.specs.Places.{used, parent_at, owed_at, table}
use Rattle.places.specs.Shape.{top_from, depth_from, SoundPlaces}
use Rattle.places.specs.declared.node.Node.{Node}
use Rattle.places.specs.declared.node.Parent.{Parent}
use Rattle.exchange.specs.Setting.{with_child, with_parent, changed_at}
use Rattle.exchange.specs.Takers.{takers_at}
use Rattle.exchange.specs.Waking.{Woke}
use Rattle.exchange.specs.declared.taken.Taken.TheVariants.{Occurrence}

-- The held root hangs where the node at target hung: the parent has it as a child, it has that parent, and the node at
-- target has none any more.
abbrev pub hung_below : List (Option Node) → ℕ → ℕ → Option Parent → List (Option Node)
hung_below ps target held None = ps
hung_below ps target held (Some u) = changed_at (with_parent (Some u)) (changed_at (with_parent None) (changed_at (with_child (u.position - 1) held) ps u.place) target) held

abbrev pub hung : List (Option Node) → ℕ → ℕ → List (Option Node)
hung ps target held = hung_below ps target held (parent_at ps target)

-- the inherited attributes of the node at p
abbrev pub inherited_at : Grammar → Table → ℕ → Instance → Bool
inherited_at g T p x = x.0 == p && flows Inherited (slice_get (attributes_of g T p) x.1)

-- What becomes owed: the inherited attributes of the root that has come, and each target of the parent's rule that takes
-- an argument from that occurrence.
abbrev pub woken_below : Grammar → Table → ℕ → Option Parent → Instance → Bool
woken_below g T held None x = false
woken_below g T held (Some u) x = inherited_at g T held x || takers_at g T u.place (Occurrence u.position) x

-- nothing else changes; and where target has no parent, nothing at all
abbrev pub ExchangedPlaces : Grammar → List (Option Node) → List (Option Node) → ℕ → ℕ → Type 0
ExchangedPlaces g ps qs target held = Woke (hung ps target held) qs (woken_below g (table g (hung ps target held)) held (parent_at ps target))

-- What an exchange asks for: the node at target hangs, and the held root stands free, has the same symbol, is not the
-- root above target, and its block does not come to lie deeper than 64 places.
pub record Exchangeable (g : Grammar) (ps : List (Option Node)) (target held : ℕ) (u : Parent) : Type 0 where
  pub hanging : parent_at ps target ≡ Some u
  pub standing_free : parent_at ps held ≡ None
  pub held_used : used ps held ≡ true
  pub same_symbol : (rule g (table g ps held).rule).left ≡ (rule g (table g ps target).rule).left
  pub elsewhere : top_from ps 64 target ≡ held → ⊥
  pub deep_enough : (q : ℕ) → used ps q ≡ true → top_from ps 64 q ≡ held → depth_from ps 64 u.place + depth_from ps 64 q ≤ 64

-- what an exchange leaves
pub record ExchangeKept (g : Grammar) (ps qs : List (Option Node)) (target held : ℕ) : Type 0 where
  pub still_sound : SoundPlaces g qs
  pub same_places : (p : ℕ) → used qs p ≡ used ps p
  -- the held root has the parent that the node at target had, and that one is free now
  pub held_hangs : parent_at qs held ≡ parent_at ps target
  pub target_free : parent_at qs target ≡ None
  pub others_hang : (p : ℕ) → (p ≢ target) → (p ≢ held) → parent_at qs p ≡ parent_at ps p
  -- the nodes stand as the theory of tours has it
  pub as_in_tours : Exchanged target held (table g ps) (table g qs)
  -- what was owed or has to be woken is owed
  pub woken : (x : Instance) → Live g (table g qs) (used qs) x → (owed_at ps x ≡ true) ⊎ Woken g (table g ps) (table g qs) target held x → owed_at qs x ≡ true

abbrev pub ExchangeLaw : Type 0
ExchangeLaw =
    (g : Grammar) → Sound g → (ps qs : List (Option Node)) (target held : ℕ) (u : Parent) → SoundPlaces g ps → Exchangeable g ps target held u →
    ExchangedPlaces g ps qs target held → ExchangeKept g ps qs target held
