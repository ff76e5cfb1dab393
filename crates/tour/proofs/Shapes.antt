-- A table in shape holds a tree at each root.
use Rattle.std.proofs.Common.{◌≡◌, ℕ, zero, suc, ◌+◌, ◌<◌, ◌≤◌, Bool, true, ◌⊎◌, List, [], ◌∷◌, length, get_or, sym, refl, ap, ◌∙◌, subst, inl, inr, arith}
use Rattle.tour.specs.Runs.{In, Apart}
use Rattle.grammar.specs.Model.{Grammar}
use Rattle.tour.specs.Rules.{rule}
use Rattle.tour.specs.Trees.{Forest, places, Agrees, places_in}
use Rattle.tour.specs.Trees.Forest.{none}
use Rattle.tour.specs.Nodes.{Link, Table, Shows, above, Planted}
use Rattle.tour.specs.Nodes.Link.{top, under}
use Rattle.tour.specs.Walks.{Within}
use Rattle.sheet.specs.Meaning.{Sound}
use Rattle.tour.specs.Roots.{Rooted, Roots, RootsLaw}
use Rattle.tour.specs.Shapes.{Climbs, Shape, Linked, row_of, grow, tree_from}
use Rattle.tour.proofs.Places.{instance_place, shown_attribute, shown_instance}
use Rattle.tour.proofs.Lists.{in_left, in_right, in_cases}
use Rattle.tour.proofs.Sums.{apart_append}

-- x stands m places below p
abbrev pub Under : Table → ℕ → ℕ → ℕ → Type 0
Under T zero x p = x ≡ p
Under T (suc m) x p = (u : ℕ) × (k : ℕ) × ((T x).link ≡ under u k) × Under T m u p

same_parent : (l : Link) (u k v j : ℕ) → l ≡ under u k → l ≡ under v j → u ≡ v
same_parent l u k v j e f = cc

pub not_top : (l : Link) (u k : ℕ) → l ≡ top → l ≡ under u k → ⊥
not_top l u k e f = let z : ◌≡◌ {A = ℕ} 0 1 = cc in omega arith

-- one step further down
under_more : (T : Table) (m x p u k : ℕ) → Under T m x p → (T p).link ≡ under u k → Under T (suc m) x u
under_more T zero x p u k e l = (u, k, ap (λ z. (T z).link) e ∙ l, refl)
under_more T (suc m) x p u k (w, j, e, r) l = (w, j, e, under_more T m w p u k r l)

-- what stands as far below two places is below one
under_one : (T : Table) (m x p q : ℕ) → Under T m x p → Under T m x q → p ≡ q
under_one T zero x p q e f = sym e ∙ f
under_one T (suc m) x p q (u, k, e, r) (v, j, f, s) = under_one T m u p q r (subst (λ z. Under T m z q) (sym (same_parent (T x).link u k v j e f)) s)

-- no place stands below itself where climbing ends
climb_bound : (T : Table) (n m x p : ℕ) → Climbs T n x → Under T m x p → m < n
climb_bound T zero m x p c r = absurd c
climb_bound T (suc n) zero x p c r = omega arith
climb_bound T (suc n) (suc m) x p (inl e) (u, k, f, r) = absurd (not_top (T x).link u k e f)
climb_bound T (suc n) (suc m) x p (inr (v, j, e, c)) (u, k, f, r) = let w = climb_bound T n m u p (subst (λ z. Climbs T n z) (same_parent (T x).link v j u k e f) c) r in omega arith

-- to a root there is one way
root_way : (T : Table) (m n x p : ℕ) → (T p).link ≡ top → Under T m x p → Under T n x p → m ≡ n
root_way T zero zero x p t e f = refl
root_way T zero (suc n) x p t e (u, k, f, r) = absurd (not_top (T p).link u k t (ap (λ z. (T z).link) (sym e) ∙ f))
root_way T (suc m) zero x p t (u, k, e, r) f = absurd (not_top (T p).link u k t (ap (λ z. (T z).link) (sym f) ∙ e))
root_way T (suc m) (suc n) x p t (u, k, e, r) (v, j, f, s) = ap suc (root_way T m n u p t r (subst (λ z. Under T n z p) (sym (same_parent (T x).link u k v j e f)) s))

-- above a place there is one root
pub root_one : (T : Table) (m n x p q : ℕ) → (T p).link ≡ top → (T q).link ≡ top → Under T m x p → Under T n x q → p ≡ q
root_one T zero zero x p q tp tq e f = sym e ∙ f
root_one T zero (suc n) x p q tp tq e (u, k, f, r) = absurd (not_top (T p).link u k tp (ap (λ z. (T z).link) (sym e) ∙ f))
root_one T (suc m) zero x p q tp tq (u, k, e, r) f = absurd (not_top (T q).link u k tq (ap (λ z. (T z).link) (sym f) ∙ e))
root_one T (suc m) (suc n) x p q tp tq (u, k, e, r) (v, j, f, s) = root_one T m n u p q tp tq r (subst (λ z. Under T n z q) (sym (same_parent (T x).link u k v j e f)) s)

under_trans : (T : Table) (m n x p q : ℕ) → Under T m x p → Under T n p q → Under T (m + n) x q
under_trans T zero n x p q e s = subst (λ z. Under T z x q) (sym (native.Mathlib.Nat.zero-add n)) (subst (λ z. Under T n z q) (sym e) s)
under_trans T (suc m) n x p q (u, k, e, r) s = subst (λ z. Under T z x q) (sym (native.Mathlib.Nat.suc-add m n)) (u, k, e, under_trans T m n u p q r s)

module _ (σ : Grammar) (T : Table) (used : ℕ → Bool) (root : ℕ) (sh : Shape σ T used root) where
  -- what stands in a row stands below one of its places
  in_row : (d : ℕ) (x : ℕ) (ps : List ℕ) → ((k : ℕ) → k < length ps → In x (places_in (grow T d (get_or ps k 0))) → (m : ℕ) × Under T (suc m) x (get_or ps k 0)) → In x (places_in (row_of T (grow T d) ps)) → (k : ℕ) × (k < length ps) × ((m : ℕ) × Under T m x (get_or ps k 0))
  in_row d x [] f m = absurd m
  in_row d x (q ∷ ps) f (inl e) = (0, omega arith, (0, e))
  in_row d x (q ∷ ps) f (inr m) = go (in_cases x (places_in (grow T d q)) (places_in (row_of T (grow T d) ps)) m) (in_row d x ps (λ k h. f (suc k) (omega arith)))
    where
      go : In x (places_in (grow T d q)) ⊎ In x (places_in (row_of T (grow T d) ps)) → (In x (places_in (row_of T (grow T d) ps)) → (k : ℕ) × (k < length ps) × ((m : ℕ) × Under T m x (get_or ps k 0))) → (k : ℕ) × (k < length (q ∷ ps)) × ((m : ℕ) × Under T m x (get_or (q ∷ ps) k 0))
      go (inl w) g = let r = f 0 (omega arith) w in (0, omega arith, (suc r.0, r.1))
      go (inr w) g = let r = g w in (suc r.0, omega (arith, r.1), r.2)

  pub in_grow : (d x q : ℕ) → used q ≡ true → In x (places_in (grow T d q)) → (m : ℕ) × Under T (suc m) x q
  in_grow zero x q u m = absurd m
  in_grow (suc d) x q u m =
      let r = in_row d x (T q).kids (λ k h. in_grow d x (get_or (T q).kids k 0) (sh.kid_used q k u h)) m in
      (r.2.0, under_more T r.2.0 x (get_or (T q).kids r.0 0) q (suc r.0) r.2.1 (sh.kid_link q r.0 u r.1))

  module _ (base : ℕ) (ub : used base ≡ true) (tb : (T base).link ≡ top) where
    -- a row of children
    record Row (p i n : ℕ) (ps xs : List ℕ) : Type 0 where
      long : length ps ≡ length xs
      used' : (k : ℕ) → k < length ps → used (get_or ps k 0) ≡ true
      link' : (k : ℕ) → k < length ps → (T (get_or ps k 0)).link ≡ under p (i + k)
      left' : (k : ℕ) → k < length ps → (rule σ (T (get_or ps k 0)).rule).left ≡ get_or xs k 0
      deep' : (k : ℕ) → k < length ps → Under T n (get_or ps k 0) base

    row_tail : (p i n q x : ℕ) (ps xs : List ℕ) → Row p i n (q ∷ ps) (x ∷ xs) → Row p (suc i) n ps xs
    row_tail p i n q x ps xs r = record {
      long = let l = r.long in omega arith;
      used' = λ k h. r.used' (suc k) (omega arith);
      link' = λ k h. r.link' (suc k) (omega arith) ∙ ap (under p) (omega arith);
      left' = λ k h. r.left' (suc k) (omega arith);
      deep' = λ k h. r.deep' (suc k) (omega arith);
    }

    kids_row : (p n : ℕ) → used p ≡ true → Under T n p base → Row p 1 (suc n) (T p).kids (rule σ (T p).rule).right
    kids_row p n u w = record {
      long = sh.kids p u;
      used' = λ k h. sh.kid_used p k u h;
      link' = λ k h. sh.kid_link p k u h ∙ ap (under p) (omega arith);
      left' = λ k h. sh.kid_symbol p k u h;
      deep' = λ k h. (p, suc k, sh.kid_link p k u h, w);
    }

    Grown : ℕ → ℕ → Type 0
    Grown d p = ((T p).kids ≡ places (grow T d p)) × Shows T (grow T d p) (under p) 1 × Agrees σ (grow T d p) (rule σ (T p).rule).right × Within (grow T d p) d

    no_kids : (ps xs : List ℕ) (p i : ℕ) → Row p i 64 ps xs → (ps ≡ []) × (xs ≡ [])
    no_kids [] [] p i r = (refl, refl)
    no_kids [] (x ∷ xs) p i r = absurd (let l = r.long in omega arith)
    no_kids (q ∷ ps) xs p i r = absurd (let h : 0 < length (q ∷ ps) = omega arith in let w = climb_bound T 64 64 q base (sh.climbs q (r.used' 0 h)) (r.deep' 0 h) in omega arith)

    places_row : (f : ℕ → Forest) (ps : List ℕ) → ps ≡ places (row_of T f ps)
    places_row f [] = refl
    places_row f (p ∷ ps) = ap (λ z. p ∷ z) (places_row f ps)

    row_shown : (d n : ℕ) → ((q : ℕ) → used q ≡ true → Under T n q base → Grown d q) → (ps xs : List ℕ) (p i : ℕ) → Row p i n ps xs → Shows T (row_of T (grow T d) ps) (under p) i × Agrees σ (row_of T (grow T d) ps) xs × Within (row_of T (grow T d) ps) (suc d)
    unfolding Grown
    row_shown d n below [] [] p i r = (tt, tt, tt)
    row_shown d n below [] (x ∷ xs) p i r = absurd (let l = r.long in omega arith)
    row_shown d n below (q ∷ ps) [] p i r = absurd (let l = r.long in omega arith)
    row_shown d n below (q ∷ ps) (x ∷ xs) p i r =
        let h : 0 < length (q ∷ ps) = omega arith in
        let g = below q (r.used' 0 h) (r.deep' 0 h) in
        let w = row_shown d n below ps xs p (suc i) (row_tail p i n q x ps xs r) in (
          (refl, refl, g.0, r.link' 0 h ∙ ap (under p) (omega arith), g.1, w.0),
          (sh.rules q (r.used' 0 h), r.left' 0 h, g.2, w.1),
          (g.3, w.2),
        )

    grown : (d n : ℕ) → n + d ≡ 63 → (p : ℕ) → used p ≡ true → Under T n p base → Grown d p
    unfolding Grown
    grown zero n e p u w =
        let r = kids_row p n u w in
        let z = no_kids (T p).kids (rule σ (T p).rule).right p 1 (subst (λ k. Row p 1 k (T p).kids (rule σ (T p).rule).right) (omega arith) r) in
        (z.0, tt, subst (λ ys. Agrees σ none ys) (sym z.1) tt, tt)
    grown (suc d) n e p u w =
        let s = row_shown d (suc n) (λ q uq wq. grown d (suc n) (omega arith) q uq wq) (T p).kids (rule σ (T p).rule).right p 1 (kids_row p n u w) in
        (places_row (grow T d) (T p).kids, s.0, s.1, s.2)

    same_position : (l : Link) (u k v j : ℕ) → l ≡ under u k → l ≡ under v j → k ≡ j
    same_position l u k v j e f = cc

    -- places of a row are not each other's, nor below one another
    row_apart : (d n : ℕ) → ((q : ℕ) → used q ≡ true → Under T n q base → Apart (places_in (grow T d q))) → (ps xs : List ℕ) (p i : ℕ) → Row p i n ps xs → Apart (places_in (row_of T (grow T d) ps))
    row_apart d n below [] xs p i r = tt
    row_apart d n below (q ∷ ps) [] p i r = absurd (let l = r.long in omega arith)
    row_apart d n below (q ∷ ps) (x ∷ xs) p i r = (
      (λ m. elim (in_cases q (places_in (grow T d q)) (places_in (row_of T (grow T d) ps)) m) [ inl w ↦ itself (in_grow d q q uq w) | inr w ↦ other q (0, refl) (in_row d q ps inner w) ]),
      apart_append (places_in (grow T d q)) (places_in (row_of T (grow T d) ps)) (below q uq wq) (row_apart d n below ps xs p (suc i) tail)
          (λ y a b. let w = in_grow d y q uq a in other y (suc w.0, w.1) (in_row d y ps inner b)),
    )
      where
        h : 0 < length (q ∷ ps)
        h = omega arith

        uq : used q ≡ true
        uq = r.used' 0 h

        wq : Under T n q base
        wq = r.deep' 0 h

        tail : Row p (suc i) n ps xs
        tail = row_tail p i n q x ps xs r

        inner : {y : ℕ} → (k : ℕ) → k < length ps → In y (places_in (grow T d (get_or ps k 0))) → (m : ℕ) × Under T (suc m) y (get_or ps k 0)
        inner {y} k l m = in_grow d y (get_or ps k 0) (tail.used' k l) m

        itself : (m : ℕ) × Under T (suc m) q q → ⊥
        itself (m, w) = let e = root_way T (suc m + n) n q base (tb) (under_trans T (suc m) n q q base w wq) wq in omega arith

        other : (y : ℕ) → ((m : ℕ) × Under T m y q) → (k : ℕ) × (k < length ps) × ((m : ℕ) × Under T m y (get_or ps k 0)) → ⊥
        other y (m, w) (k, l, (j, v)) =
            let e = root_way T (m + n) (j + n) y base (tb) (under_trans T m n y q base w wq) (under_trans T j n y (get_or ps k 0) base v (tail.deep' k l)) in
            let same : q ≡ get_or ps k 0 = under_one T m y q (get_or ps k 0) w (subst (λ z. Under T z y (get_or ps k 0)) (omega arith) v) in
            let pos = same_position (T q).link p (i + 0) p (suc i + k) (r.link' 0 h) (ap (λ z. (T z).link) same ∙ tail.link' k l) in
            omega arith

    grow_apart : (d n p : ℕ) → used p ≡ true → Under T n p base → Apart (places_in (grow T d p))
    grow_apart zero n p u w = tt
    grow_apart (suc d) n p u w = row_apart d (suc n) (λ q uq wq. grow_apart d (suc n) q uq wq) (T p).kids (rule σ (T p).rule).right p 1 (kids_row p n u w)

    pub base_rooted : Rooted σ T (rule σ (T base).rule).left (tree_from T 63 base)
    unfolding Grown
    base_rooted =
        let g = grown 63 0 (omega arith) base ub refl in
        record {
          agrees = (sh.rules base ub, refl, g.2, tt);
          shown = (refl, refl, g.0, tb, g.1, tt);
          apart = (
            (λ m. elim (in_cases base (places_in (grow T 63 base)) [] m) [ inl w ↦ alone (in_grow 63 base base ub w) | inr w ↦ w ]),
            apart_append (places_in (grow T 63 base)) [] (grow_apart 63 0 base ub refl) tt (λ x m k. k),
          );
          depth = (g.3, tt);
        }
      where
        alone : (m : ℕ) × Under T (suc m) base base → ⊥
        alone (m, w) = let e = root_way T (suc m) 0 base base tb w refl in omega arith

    -- what stands in its tree stands below it
    pub in_base : (x : ℕ) → In x (places_in (tree_from T 63 base)) → (m : ℕ) × Under T m x base
    in_base x (inl e) = (0, e)
    in_base x (inr m) = elim (in_cases x (places_in (grow T 63 base)) [] m) [ inl w ↦ (let r = in_grow 63 x base ub w in (suc r.0, r.1)) | inr w ↦ absurd w ]

  pub day_rooted : Rooted σ T 0 (tree_from T 63 root)
  day_rooted = subst (λ x. Rooted σ T x (tree_from T 63 root)) sh.root_start (base_rooted root sh.root_used sh.root_top)

  row_used : (d x : ℕ) (ps : List ℕ) → ((k : ℕ) → k < length ps → used (get_or ps k 0) ≡ true) → ((k : ℕ) → k < length ps → In x (places_in (grow T d (get_or ps k 0))) → used x ≡ true) → In x (places_in (row_of T (grow T d) ps)) → used x ≡ true
  row_used d x [] u f m = absurd m
  row_used d x (q ∷ ps) u f (inl e) = ap used e ∙ u 0 (omega arith)
  row_used d x (q ∷ ps) u f (inr m) = go (in_cases x (places_in (grow T d q)) (places_in (row_of T (grow T d) ps)) m) (row_used d x ps (λ k h. u (suc k) (omega arith)) (λ k h. f (suc k) (omega arith)))
    where
      go : In x (places_in (grow T d q)) ⊎ In x (places_in (row_of T (grow T d) ps)) → (In x (places_in (row_of T (grow T d) ps)) → used x ≡ true) → used x ≡ true
      go (inl w) g = f 0 (omega arith) w
      go (inr w) g = g w

  grow_used : (d x q : ℕ) → used q ≡ true → In x (places_in (grow T d q)) → used x ≡ true
  grow_used zero x q u m = absurd m
  grow_used (suc d) x q u m = row_used d x (T q).kids (λ k h. sh.kid_used q k u h) (λ k h w. grow_used d x (get_or (T q).kids k 0) (sh.kid_used q k u h) w) m

  pub tree_used : (x p : ℕ) → used p ≡ true → In x (places_in (tree_from T 63 p)) → used x ≡ true
  tree_used x p u (inl e) = ap used e ∙ u
  tree_used x p u (inr m) = elim (in_cases x (places_in (grow T 63 p)) [] m) [ inl w ↦ grow_used 63 x p u w | inr w ↦ absurd w ]

-- where links are right, all between a used place and its root is used
module _ (T : Table) (used : ℕ → Bool) (li : Linked T used) where
  up_used : (m x p : ℕ) → used x ≡ true → Under T m x p → used p ≡ true
  up_used zero x p u e = subst (λ z. used z ≡ true) e u
  up_used (suc m) x p u (v, k, e, r) = up_used m v p (li x v k u e).2.parent_used r

  -- the first step down on the way to x
  first_down : (m x p : ℕ) → used x ≡ true → Under T (suc m) x p → (c : ℕ) × (k : ℕ) × (used c ≡ true) × ((T c).link ≡ under p k) × Under T m x c
  first_down zero x p u (v, k, e, r) = (x, k, u, e ∙ ap (λ z. under z k) r, refl)
  first_down (suc m) x p u (v, k, e, r) = let w = first_down m v p (li x v k u e).2.parent_used r in (w.0, w.1, w.2, w.3, (v, k, e, w.4))

  row_covers : (d x n : ℕ) (ps : List ℕ) → n < length ps → In x (places_in (tree_from T d (get_or ps n 0))) → In x (places_in (row_of T (grow T d) ps))
  row_covers d x n [] h m = absurd (omega arith)
  row_covers d x zero (q ∷ ps) h (inl e) = inl e
  row_covers d x zero (q ∷ ps) h (inr m) = inr (in_left x (places_in (grow T d q)) (places_in (row_of T (grow T d) ps)) (elim (in_cases x (places_in (grow T d q)) [] m) [ inl w ↦ w | inr w ↦ absurd w ]))
  row_covers d x (suc n) (q ∷ ps) h m = inr (in_right x (places_in (grow T d q)) (places_in (row_of T (grow T d) ps)) (row_covers d x n ps (omega arith) m))

  tree_covers : (m d x p : ℕ) → m ≤ d → used x ≡ true → Under T m x p → In x (places_in (tree_from T d p))
  tree_covers zero d x p h u e = inl e
  tree_covers (suc m) zero x p h u r = absurd (omega arith)
  tree_covers (suc m) (suc d) x p h u r =
      let w = first_down m x p u r in
      let c = li w.0 p w.1 w.2 w.3 in
      let below : In x (places_in (tree_from T d (get_or (T p).kids c.0 0))) = subst (λ z. In x (places_in (tree_from T d z))) (sym c.2.is) (tree_covers m d x w.0 (omega arith) u w.4) in
      inr (in_left x (places_in (grow T (suc d) p)) [] (row_covers d x c.0 (T p).kids c.2.there below))

  climbed : (n x : ℕ) → Climbs T n x → (m : ℕ) × (p : ℕ) × (m < n) × ((T p).link ≡ top) × Under T m x p
  climbed zero x c = absurd c
  climbed (suc n) x (inl e) = (0, x, omega arith, e, refl)
  climbed (suc n) x (inr (v, k, e, c)) = let r = climbed n v c in (suc r.0, r.1, (let h = r.2 in omega arith), r.3, (v, k, e, r.4))

rooted_all : (σ : Grammar) (T : Table) (used : ℕ → Bool) (root : ℕ) → Shape σ T used root → Roots σ T used root
rooted_all σ T used root sh = record {
  day = day_rooted σ T used root sh;
  held = λ p r. base_rooted σ T used root sh p r.there r.free;
  within = λ p x r m. tree_used σ T used root sh x p r.there m;
  instances = λ p x r.
      let shown = (base_rooted σ T used root sh p r.there r.free).shown in (
        (λ m. (instance_place σ x (tree_from T 63 p) m, shown_attribute σ T x (tree_from T 63 p) above 0 shown m)),
        λ w. shown_instance σ T x (tree_from T 63 p) above 0 shown w.0 w.1,
      );
  apart = λ p q x rp rq m n.
      let u = in_base σ T used root sh p rp.there rp.free x m in
      let v = in_base σ T used root sh q rq.there rq.free x n in
      root_one T u.0 v.0 x p q rp.free rq.free u.1 v.1;
}

pub roots_law : RootsLaw
roots_law = record {
  roots = rooted_all;
  covered = λ σ T used root sh li x u.
      let c = climbed T used li 64 x (sh.climbs x u) in
      let l = c.2 in
      (c.1, record { there = up_used T used li c.0 x c.1 u c.4; free = c.3 }, tree_covers T used li c.0 63 x c.1 (omega arith) u c.4);
}

-- a sound grammar's tree, planted
pub shape_planted : (σ : Grammar) (T : Table) (used : ℕ → Bool) (root : ℕ) → Sound σ → Shape σ T used root → Planted σ T (tree_from T 63 root)
shape_planted σ T used root so sh = let r = day_rooted σ T used root sh in record { sound = so; agrees = r.agrees; shown = r.shown; apart = r.apart }
