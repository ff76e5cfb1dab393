-- One place further up.
use Rattle.std.proofs.Common.{◌≡◌, ℕ, zero, suc, ◌+◌, ◌≤◌, Bool, true, false, List, Some, None, Option, sym, refl, ap, ◌∙◌, subst, arith}
use mathlib.Core.Bool.{false≢true}
use Rattle.places.specs.Places.{parent_at}
use Rattle.places.specs.Shape.{climbs, top_from, depth_from}
use Rattle.places.specs.Climbs.{Climbed}
use Rattle.places.specs.declared.node.Node.{Node}
use Rattle.places.specs.declared.node.Parent.{Parent}

module _ (ps : List (Option Node)) where
  abbrev climbs_by : ℕ → Option Parent → Bool
  climbs_by n o = elim o [ None ↦ true | Some u ↦ climbs ps n u.place ]

  abbrev top_by : ℕ → ℕ → Option Parent → ℕ
  top_by n p o = elim o [ None ↦ p | Some u ↦ top_from ps n u.place ]

  abbrev depth_by : ℕ → Option Parent → ℕ
  depth_by n o = elim o [ None ↦ 1 | Some u ↦ suc (depth_from ps n u.place) ]

  pub climbs_up : (n p : ℕ) (u : Parent) → parent_at ps p ≡ Some u → climbs ps (suc n) p ≡ climbs ps n u.place
  climbs_up n p u e = ap (climbs_by n) e

  pub climbs_end : (n p : ℕ) → parent_at ps p ≡ None → climbs ps (suc n) p ≡ true
  climbs_end n p e = ap (climbs_by n) e

  pub top_up : (n p : ℕ) (u : Parent) → parent_at ps p ≡ Some u → top_from ps (suc n) p ≡ top_from ps n u.place
  top_up n p u e = ap (top_by n p) e

  pub top_end : (n p : ℕ) → parent_at ps p ≡ None → top_from ps (suc n) p ≡ p
  top_end n p e = ap (top_by n p) e

  pub depth_up : (n p : ℕ) (u : Parent) → parent_at ps p ≡ Some u → depth_from ps (suc n) p ≡ suc (depth_from ps n u.place)
  depth_up n p u e = ap (depth_by n) e

  pub depth_end : (n p : ℕ) → parent_at ps p ≡ None → depth_from ps (suc n) p ≡ 1
  depth_end n p e = ap (depth_by n) e

  -- A climb of m places from p has passed d places and is at q, with n places left.
  pub record Passed (m p n d q : ℕ) : Type 0 where
    pub climbs_left : climbs ps m p ≡ climbs ps n q
    pub top_left : top_from ps m p ≡ top_from ps n q
    pub depth_left_lem : depth_from ps m p ≡ d + depth_from ps n q

  pub passed_none : (m p : ℕ) → Passed m p m 0 p
  passed_none m p = record { climbs_left = refl; top_left = refl; depth_left_lem = omega arith }

  pub passed_more : (m p n d q : ℕ) (u : Parent) → Passed m p (suc n) d q → parent_at ps q ≡ Some u → Passed m p n (d + 1) u.place
  passed_more m p n d q u h e = record {
    climbs_left = h.climbs_left ∙ climbs_up n q u e;
    top_left = h.top_left ∙ top_up n q u e;
    depth_left_lem = omega (arith, h.depth_left_lem, depth_up n q u e);
  }

  -- the answer where no parent is left, and where no place is
  pub passed_ended : (p n d q : ℕ) → parent_at ps q ≡ None → Passed 64 p (suc n) d q → Climbed ps p (record { top = q; depth = d + 1; ended = true })
  passed_ended p n d q e h = record {
    top_is = sym (h.top_left ∙ top_end n q e);
    depth_is = omega (arith, h.depth_left_lem, depth_end n q e);
    ended_is = sym (h.climbs_left ∙ climbs_end n q e);
  }

  pub passed_all : (p q : ℕ) → Passed 64 p 0 64 q → Climbed ps p (record { top = q; depth = 64; ended = false })
  passed_all p q h = record { top_is = sym h.top_left; depth_is = omega (arith, h.depth_left_lem); ended_is = sym h.climbs_left }

  -- a place has no parent, or one
  pub by_parent : {P : Type 0} (p : ℕ) → (parent_at ps p ≡ None → P) → ((u : Parent) → parent_at ps p ≡ Some u → P) → P
  by_parent {P} p f g = by (parent_at ps p) refl
    where
      by : (o : Option Parent) → parent_at ps p ≡ o → P
      by None e = f e
      by (Some u) e = g u e

  -- where climbing ends within n places, one place more changes nothing
  pub climbs_more : (n p : ℕ) → climbs ps n p ≡ true → climbs ps (suc n) p ≡ true
  climbs_more zero p h = absurd (false≢true h)
  climbs_more (suc n) p h = by_parent p (climbs_end (suc n) p) (λ u e. climbs_up (suc n) p u e ∙ climbs_more n u.place (sym (climbs_up n p u e) ∙ h))

  pub top_more : (n p : ℕ) → climbs ps n p ≡ true → top_from ps (suc n) p ≡ top_from ps n p
  top_more zero p h = absurd (false≢true h)
  top_more (suc n) p h =
      by_parent p (λ e. top_end (suc n) p e ∙ sym (top_end n p e))
      (λ u e. top_up (suc n) p u e ∙ top_more n u.place (sym (climbs_up n p u e) ∙ h) ∙ sym (top_up n p u e))

  pub depth_more : (n p : ℕ) → climbs ps n p ≡ true → depth_from ps (suc n) p ≡ depth_from ps n p
  depth_more zero p h = absurd (false≢true h)
  depth_more (suc n) p h =
      by_parent p (λ e. depth_end (suc n) p e ∙ sym (depth_end n p e))
      (λ u e. depth_up (suc n) p u e ∙ ap suc (depth_more n u.place (sym (climbs_up n p u e) ∙ h)) ∙ sym (depth_up n p u e))

  -- a child's top is its parent's, and it stands one place deeper
  pub climbs_parent : (n q : ℕ) (u : Parent) → parent_at ps q ≡ Some u → climbs ps (suc n) q ≡ true → climbs ps n u.place ≡ true
  climbs_parent n q u e h = sym (climbs_up n q u e) ∙ h

  pub top_parent : (n q : ℕ) (u : Parent) → parent_at ps q ≡ Some u → climbs ps (suc n) q ≡ true → top_from ps (suc n) q ≡ top_from ps (suc n) u.place
  top_parent n q u e h = top_up n q u e ∙ sym (top_more n u.place (climbs_parent n q u e h))

  pub depth_parent : (n q : ℕ) (u : Parent) → parent_at ps q ≡ Some u → climbs ps (suc n) q ≡ true → depth_from ps (suc n) q ≡ suc (depth_from ps (suc n) u.place)
  depth_parent n q u e h = depth_up n q u e ∙ ap suc (sym (depth_more n u.place (climbs_parent n q u e h)))

  -- n places are passed at most
  pub depth_most : (n p : ℕ) → depth_from ps n p ≤ n
  depth_most zero p = omega arith
  depth_most (suc n) p = by_parent p (λ e. omega (arith, depth_end n p e)) (λ u e. omega (arith, depth_up n p u e, depth_most n u.place))

  -- what climbing ends at has no parent
  pub top_free : (n p : ℕ) → climbs ps n p ≡ true → parent_at ps (top_from ps n p) ≡ None
  top_free zero p h = absurd (false≢true h)
  top_free (suc n) p h =
      by_parent p (λ e. ap (parent_at ps) (top_end n p e) ∙ e)
      (λ u e. ap (parent_at ps) (top_up n p u e) ∙ top_free n u.place (climbs_parent n p u e h))

  -- what holds of a place and passes to parents holds of its top
  pub top_keeps : (P : ℕ → Type 0) → ((q : ℕ) (u : Parent) → P q → parent_at ps q ≡ Some u → P u.place) → (n p : ℕ) → P p → P (top_from ps n p)
  top_keeps P up zero p h = h
  top_keeps P up (suc n) p h =
      by_parent p (λ e. subst P (sym (top_end n p e)) h)
      (λ u e. subst P (sym (top_up n p u e)) (top_keeps P up n u.place (up p u h e)))
