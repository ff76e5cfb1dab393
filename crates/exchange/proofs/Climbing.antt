-- Climbing from a place to its block's root.
use Rattle.std.proofs.Common.{◌≡◌, ℕ, zero, suc, ◌≤◌, true, List, [], ◌∷◌, ◌++◌, length, Some, None, Option, sym, refl, ap, ◌∙◌, arith, length-append}
use Rattle.places.specs.Places.{parent_at}
use Rattle.places.specs.Shape.{climbs, top_from, depth_from}
use Rattle.places.specs.declared.node.Node.{Node}
use Rattle.places.specs.declared.node.Parent.{Parent}

-- the way from the root of the block down to p, and what of it lies above p
abbrev pub lineage : List (Option Node) → ℕ → ℕ → List ℕ
lineage ps zero p = []
lineage ps (suc n) p = elim (parent_at ps p) [ None ↦ [] | Some u ↦ lineage ps n u.place ] ++ p ∷ []

abbrev pub passed : List (Option Node) → ℕ → Option Parent → List ℕ
passed ps n None = []
passed ps n (Some u) = lineage ps n u.place

module _ (ps : List (Option Node)) where
  pub lineage_passed : (n p : ℕ) → lineage ps (suc n) p ≡ passed ps n (parent_at ps p) ++ p ∷ []
  lineage_passed n p = by (parent_at ps p)
    where
      by : (u : Option Parent) → (elim u [ None ↦ [] | Some v ↦ lineage ps n v.place ] ++ p ∷ []) ≡ passed ps n u ++ p ∷ []
      by None = refl
      by (Some v) = refl

  pub climbs_top : (n p : ℕ) → parent_at ps p ≡ None → climbs ps (suc n) p ≡ true
  climbs_top n p e = ap (λ (z : Option Parent). elim z [ None ↦ true | Some u ↦ climbs ps n u.place ]) e

  pub climbs_up : (n p : ℕ) (u : Parent) → parent_at ps p ≡ Some u → climbs ps (suc n) p ≡ climbs ps n u.place
  climbs_up n p u e = ap (λ (z : Option Parent). elim z [ None ↦ true | Some v ↦ climbs ps n v.place ]) e

  pub top_top : (n p : ℕ) → parent_at ps p ≡ None → top_from ps (suc n) p ≡ p
  top_top n p e = ap (λ (z : Option Parent). elim z [ None ↦ p | Some u ↦ top_from ps n u.place ]) e

  pub top_up : (n p : ℕ) (u : Parent) → parent_at ps p ≡ Some u → top_from ps (suc n) p ≡ top_from ps n u.place
  top_up n p u e = ap (λ (z : Option Parent). elim z [ None ↦ p | Some v ↦ top_from ps n v.place ]) e

  pub depth_top : (n p : ℕ) → parent_at ps p ≡ None → depth_from ps (suc n) p ≡ 1
  depth_top n p e = ap (λ (z : Option Parent). elim z [ None ↦ 1 | Some u ↦ suc (depth_from ps n u.place) ]) e

  pub depth_up : (n p : ℕ) (u : Parent) → parent_at ps p ≡ Some u → depth_from ps (suc n) p ≡ suc (depth_from ps n u.place)
  depth_up n p u e = ap (λ (z : Option Parent). elim z [ None ↦ 1 | Some v ↦ suc (depth_from ps n v.place) ]) e

  pub lineage_up : (n p : ℕ) (u : Parent) → parent_at ps p ≡ Some u → lineage ps (suc n) p ≡ lineage ps n u.place ++ p ∷ []
  lineage_up n p u e = lineage_passed n p ∙ ap (λ z. passed ps n z ++ p ∷ []) e

  pub lineage_length : (n p : ℕ) → length (lineage ps n p) ≤ n
  lineage_length zero p = omega arith
  lineage_length (suc n) p = by (lineage_length n) (parent_at ps p) refl
    where
      by : ((q : ℕ) → length (lineage ps n q) ≤ n) → (u : Option Parent) → parent_at ps p ≡ u → length (lineage ps (suc n) p) ≤ suc n
      by less None e = let l = ap length (lineage_passed n p ∙ ap (λ z. passed ps n z ++ p ∷ []) e) in omega arith
      by less (Some u) e = let l = ap length (lineage_up n p u e) in let m = less u.place in let k = length-append (lineage ps n u.place) (p ∷ []) in omega arith

  -- once climbing has come to the root, more of it changes nothing
  pub record More (n p : ℕ) : Type 0 where
    pub climbs_more : climbs ps (suc n) p ≡ true
    pub top_more : top_from ps (suc n) p ≡ top_from ps n p
    pub depth_more : depth_from ps (suc n) p ≡ depth_from ps n p
    pub lineage_more : lineage ps (suc n) p ≡ lineage ps n p

  pub more : (n p : ℕ) → climbs ps n p ≡ true → More n p
  more zero p h = let z : ◌≡◌ {A = ℕ} 0 1 = cc in absurd (omega arith)
  more (suc n) p h = by (more n) (parent_at ps p) refl
    where
      by : ((q : ℕ) → climbs ps n q ≡ true → More n q) → (u : Option Parent) → parent_at ps p ≡ u → More (suc n) p
      by less None e = record {
        climbs_more = climbs_top (suc n) p e;
        top_more = top_top (suc n) p e ∙ sym (top_top n p e);
        depth_more = depth_top (suc n) p e ∙ sym (depth_top n p e);
        lineage_more = lineage_passed (suc n) p ∙ ap (λ z. passed ps (suc n) z ++ p ∷ []) e ∙ ap (λ z. passed ps n z ++ p ∷ []) (sym e) ∙ sym (lineage_passed n p);
      }
      by less (Some u) e =
          let m = less u.place (sym (climbs_up n p u e) ∙ h) in
          record {
            climbs_more = climbs_up (suc n) p u e ∙ m.climbs_more;
            top_more = top_up (suc n) p u e ∙ m.top_more ∙ sym (top_up n p u e);
            depth_more = depth_up (suc n) p u e ∙ ap suc m.depth_more ∙ sym (depth_up n p u e);
            lineage_more = lineage_up (suc n) p u e ∙ ap (λ z. z ++ p ∷ []) m.lineage_more ∙ sym (lineage_up n p u e);
          }

  -- one step up from p, with as much climbing left
  pub record Up (n p : ℕ) (u : Parent) : Type 0 where
    pub climbs_there : climbs ps n u.place ≡ true
    pub top_same : top_from ps n p ≡ top_from ps n u.place
    pub depth_one : depth_from ps n p ≡ suc (depth_from ps n u.place)
    pub lineage_one : lineage ps n p ≡ lineage ps n u.place ++ p ∷ []

  pub up : (n p : ℕ) (u : Parent) → climbs ps n p ≡ true → parent_at ps p ≡ Some u → Up n p u
  up zero p u h e = let z : ◌≡◌ {A = ℕ} 0 1 = cc in absurd (omega arith)
  up (suc n) p u h e =
      let m = more n u.place (sym (climbs_up n p u e) ∙ h) in
      record {
        climbs_there = m.climbs_more;
        top_same = top_up n p u e ∙ sym m.top_more;
        depth_one = depth_up n p u e ∙ ap suc (sym m.depth_more);
        lineage_one = lineage_up n p u e ∙ ap (λ z. z ++ p ∷ []) (sym m.lineage_more);
      }
