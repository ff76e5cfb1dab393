-- What sound places give at one node.
use Rattle.std.proofs.Common.{◌≡◌, ℕ, true, List, get_or, is_some, Some, None, Option, refl, subst, arith}
use Rattle.grammar.specs.Model.{Grammar}
use Rattle.tour.specs.Rules.{rule}
use Rattle.places.specs.Places.{at, used, parent_in, parent_at}
use Rattle.places.specs.Shape.{ChildThere, ParentOf, ParentThere, HangsBelow, SoundPlaces}
use Rattle.places.specs.declared.node.Node.{Node}
use Rattle.places.specs.declared.node.Parent.{Parent}
use Rattle.exchange.specs.Takers.{Fits, FitsThere, FitsAt}
use Rattle.exchange.proofs.Targets.{used_within}

pub child_used : (g : Grammar) (p k x : ℕ) (m : Option Node) → ChildThere g p k x m → is_some m ≡ true
child_used g p k x None c = absurd c
child_used g p k x (Some n) c = refl

pub parent_used : (g : Grammar) (p k : ℕ) (m : Option Node) → ParentThere g p k m → is_some m ≡ true
parent_used g p k None c = absurd c
parent_used g p k (Some n) c = refl

-- what hangs is a node
pub parent_node : (x : Option Node) (u : Parent) → parent_in x ≡ Some u → (n : Node) × (x ≡ Some n) × (n.parent ≡ Some u)
parent_node None u e = let z : ◌≡◌ {A = ℕ} 0 1 = cc in absurd (omega arith)
parent_node (Some n) u e = (n, refl, e)

-- a parent, with the node there
pub record Hangs (g : Grammar) (ps : List (Option Node)) (p : ℕ) (u : Parent) : Type 0 where
  pub node : Node
  pub there : at ps u.place ≡ Some node
  pub below : ParentOf g p u.position node

module _ (g : Grammar) (ps : List (Option Node)) (s : SoundPlaces g ps) where
  pub sound_fits : (p : ℕ) (n : Node) → at ps p ≡ Some n → Fits g ps n
  sound_fits p n e =
      let m = s.nodes p n e in
      record {
        rule_there = m.rule_there;
        children_within = λ k h. used_within ps (get_or n.children k 0) (child_used g p k (get_or (rule g n.rule).right k 0) (at ps (get_or n.children k 0)) (m.children_there k h));
      }

  pub sound_fits_at : (p : ℕ) → used ps p ≡ true → FitsAt g ps p
  sound_fits_at p u = by (at ps p) refl u
    where
      by : (x : Option Node) → at ps p ≡ x → is_some x ≡ true → FitsThere g ps x
      by None e h = let z : ◌≡◌ {A = ℕ} 0 1 = cc in absurd (omega arith)
      by (Some n) e h = sound_fits p n e

  pub parent_fits_at : (p : ℕ) (n : Node) (u : Parent) → at ps p ≡ Some n → n.parent ≡ Some u → FitsAt g ps u.place
  parent_fits_at p n u e h = sound_fits_at u.place (parent_used g p u.position (at ps u.place) (subst (HangsBelow g ps p) h (s.nodes p n e).parent_there))

  pub hangs : (p : ℕ) (u : Parent) → parent_at ps p ≡ Some u → Hangs g ps p u
  hangs p u e =
      let n = parent_node (at ps p) u e in
      by (at ps u.place) refl (subst (HangsBelow g ps p) n.2 (s.nodes p n.0 n.1).parent_there)
    where
      by : (x : Option Node) → at ps u.place ≡ x → ParentThere g p u.position x → Hangs g ps p u
      by None e c = absurd c
      by (Some m) e c = record { node = m; there = e; below = c }
