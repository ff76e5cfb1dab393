-- The trees that a table shows below its tops.
use Rattle.std.proofs.Common.{◌≡◌, ℕ, zero, suc, ◌+◌, ◌<◌, ◌≤◌, Bool, true, ◌⊎◌, List, [], ◌∷◌, length, get_or, sym, refl, ap, ◌∙◌, subst, inl, inr, arith}
use Rattle.grammar.specs.Model.{Grammar}
use Rattle.tour.specs.Nodes.{Link, Table, Shows, above}
use Rattle.tour.specs.Nodes.Link.{top, under}
use Rattle.tour.specs.Rules.{rule}
use Rattle.tour.specs.Runs.{In, Apart}
use Rattle.tour.specs.Shapes.{row_of, grow, tree_from}
use Rattle.tour.specs.Trees.{Forest, places, Agrees, places_in}
use Rattle.tour.specs.Trees.Forest.{none}
use Rattle.tour.specs.Walks.{Within}
use Rattle.tour.proofs.Lists.{in_left, in_right, in_cases}
use Rattle.tour.proofs.Shapes.{Under}
use Rattle.tour.proofs.Sums.{apart_append}

-- What is used of a table in shape: children agree with rules and links, links with children, and each place has a
-- depth, one more than its parent's.
pub record Ranked (σ : Grammar) (T : Table) (used : ℕ → Bool) : Type 0 where
  pub rules : (p : ℕ) → used p ≡ true → (T p).rule < length σ.rules
  pub kids : (p : ℕ) → used p ≡ true → length (T p).kids ≡ length (rule σ (T p).rule).right
  pub kid_used : (p k : ℕ) → used p ≡ true → k < length (T p).kids → used (get_or (T p).kids k 0) ≡ true
  pub kid_link : (p k : ℕ) → used p ≡ true → k < length (T p).kids → (T (get_or (T p).kids k 0)).link ≡ under p (suc k)
  pub kid_symbol : (p k : ℕ) → used p ≡ true → k < length (T p).kids → (rule σ (T (get_or (T p).kids k 0)).rule).left ≡ get_or (rule σ (T p).rule).right k 0
  pub link_used : (p u k : ℕ) → used p ≡ true → (T p).link ≡ under u k → used u ≡ true
  pub link_kid : (p u k : ℕ) → used p ≡ true → (T p).link ≡ under u k → (j : ℕ) × (j < length (T u).kids) × (get_or (T u).kids j 0 ≡ p)
  pub depth : ℕ → ℕ
  pub kid_depth : (p u k : ℕ) → used p ≡ true → (T p).link ≡ under u k → depth p ≡ suc (depth u)
  pub few_deep : (p : ℕ) → used p ≡ true → depth p ≤ 64

same_parent : (l : Link) (u k v j : ℕ) → l ≡ under u k → l ≡ under v j → u ≡ v
same_parent l u k v j e f = cc

same_position : (l : Link) (u k v j : ℕ) → l ≡ under u k → l ≡ under v j → k ≡ j
same_position l u k v j e f = cc

-- one step further up
under_more : (T : Table) (m x p u k : ℕ) → Under T m x p → (T p).link ≡ under u k → Under T (suc m) x u
under_more T zero x p u k e l = (u, k, ap (λ z. (T z).link) e ∙ l, refl)
under_more T (suc m) x p u k (w, j, e, r) l = (w, j, e, under_more T m w p u k r l)

-- what stands as far below two places is below one
under_one : (T : Table) (m x p q : ℕ) → Under T m x p → Under T m x q → p ≡ q
under_one T zero x p q e f = sym e ∙ f
under_one T (suc m) x p q (u, k, e, r) (v, j, f, s) = under_one T m u p q r (subst (λ z. Under T m z q) (sym (same_parent (T x).link u k v j e f)) s)

places_row : (T : Table) (f : ℕ → Forest) (ps : List ℕ) → ps ≡ places (row_of T f ps)
places_row T f [] = refl
places_row T f (p ∷ ps) = ap (λ z. p ∷ z) (places_row T f ps)

module _ (σ : Grammar) (T : Table) (used : ℕ → Bool) (sh : Ranked σ T used) where
  -- x stands below q, so many places deeper
  pub record Below (x q : ℕ) (m : ℕ) : Type 0 where
    pub used' : used x ≡ true
    pub way : Under T m x q
    pub deeper : sh.depth x ≡ m + sh.depth q

  -- a row of children of p, from number i on
  record Row (p i n : ℕ) (ps xs : List ℕ) : Type 0 where
    long : length ps ≡ length xs
    used_there : (k : ℕ) → k < length ps → used (get_or ps k 0) ≡ true
    link_there : (k : ℕ) → k < length ps → (T (get_or ps k 0)).link ≡ under p (i + k)
    left_there : (k : ℕ) → k < length ps → (rule σ (T (get_or ps k 0)).rule).left ≡ get_or xs k 0
    deep_there : (k : ℕ) → k < length ps → sh.depth (get_or ps k 0) ≡ n

  row_tail : (p i n q x : ℕ) (ps xs : List ℕ) → Row p i n (q ∷ ps) (x ∷ xs) → Row p (suc i) n ps xs
  row_tail p i n q x ps xs r = record {
    long = let l = r.long in omega arith;
    used_there = λ k h. r.used_there (suc k) (omega arith);
    link_there = λ k h. r.link_there (suc k) (omega arith) ∙ ap (under p) (omega arith);
    left_there = λ k h. r.left_there (suc k) (omega arith);
    deep_there = λ k h. r.deep_there (suc k) (omega arith);
  }

  kids_row : (p : ℕ) → used p ≡ true → Row p 1 (suc (sh.depth p)) (T p).kids (rule σ (T p).rule).right
  kids_row p u = record {
    long = sh.kids p u;
    used_there = λ k h. sh.kid_used p k u h;
    link_there = λ k h. sh.kid_link p k u h ∙ ap (under p) (omega arith);
    left_there = λ k h. sh.kid_symbol p k u h;
    deep_there = λ k h. sh.kid_depth (get_or (T p).kids k 0) p (suc k) (sh.kid_used p k u h) (sh.kid_link p k u h);
  }

  -- what is known of the trees below p, grown to the depth d
  record Grown (d p : ℕ) : Type 0 where
    roots : (T p).kids ≡ places (grow T d p)
    shown : Shows T (grow T d p) (under p) 1
    agrees : Agrees σ (grow T d p) (rule σ (T p).rule).right
    within : Within (grow T d p) d

  no_kids : (ps xs : List ℕ) (p i : ℕ) → Row p i 65 ps xs → (ps ≡ []) × (xs ≡ [])
  no_kids [] [] p i r = (refl, refl)
  no_kids [] (x ∷ xs) p i r = absurd (let l = r.long in omega arith)
  no_kids (q ∷ ps) xs p i r = absurd (let h : 0 < length (q ∷ ps) = omega arith in omega (arith, sh.few_deep q (r.used_there 0 h), r.deep_there 0 h))

  row_shown : (d n : ℕ) → ((q : ℕ) → used q ≡ true → sh.depth q ≡ n → Grown d q) → (ps xs : List ℕ) (p i : ℕ) → Row p i n ps xs → Shows T (row_of T (grow T d) ps) (under p) i × Agrees σ (row_of T (grow T d) ps) xs × Within (row_of T (grow T d) ps) (suc d)
  row_shown d n below [] [] p i r = (tt, tt, tt)
  row_shown d n below [] (x ∷ xs) p i r = absurd (let l = r.long in omega arith)
  row_shown d n below (q ∷ ps) [] p i r = absurd (let l = r.long in omega arith)
  row_shown d n below (q ∷ ps) (x ∷ xs) p i r =
      let h : 0 < length (q ∷ ps) = omega arith in
      let g = below q (r.used_there 0 h) (r.deep_there 0 h) in
      let w = row_shown d n below ps xs p (suc i) (row_tail p i n q x ps xs r) in (
        (refl, refl, g.roots, r.link_there 0 h ∙ ap (under p) (omega arith), g.shown, w.0),
        (sh.rules q (r.used_there 0 h), r.left_there 0 h, g.agrees, w.1),
        (g.within, w.2),
      )

  grown : (d p : ℕ) → sh.depth p + d ≡ 64 → used p ≡ true → Grown d p
  grown zero p e u =
      let z = no_kids (T p).kids (rule σ (T p).rule).right p 1 (subst (λ k. Row p 1 k (T p).kids (rule σ (T p).rule).right) (omega arith) (kids_row p u)) in
      record { roots = z.0; shown = tt; agrees = subst (λ ys. Agrees σ none ys) (sym z.1) tt; within = tt }
  grown (suc d) p e u =
      let s = row_shown d (suc (sh.depth p)) (λ q uq eq. grown d q (omega arith) uq) (T p).kids (rule σ (T p).rule).right p 1 (kids_row p u) in
      record { roots = places_row T (grow T d) (T p).kids; shown = s.0; agrees = s.1; within = s.2 }

  itself : (q : ℕ) → used q ≡ true → Below q q 0
  itself q u = record { used' = u; way = refl; deeper = omega arith }

  below_more : (x q u k m : ℕ) → used q ≡ true → (T q).link ≡ under u k → Below x q m → Below x u (suc m)
  below_more x q u k m uq l b = record { used' = b.used'; way = under_more T m x q u k b.way l; deeper = omega (arith, b.deeper, sh.kid_depth q u k uq l) }

  -- what stands in a row stands below one of its places
  in_row : (d x : ℕ) (ps : List ℕ) → ((k : ℕ) → k < length ps → used (get_or ps k 0) ≡ true) → ((k : ℕ) → k < length ps → In x (places_in (grow T d (get_or ps k 0))) → (m : ℕ) × Below x (get_or ps k 0) (suc m)) → In x (places_in (row_of T (grow T d) ps)) → (k : ℕ) × (k < length ps) × ((m : ℕ) × Below x (get_or ps k 0) m)
  in_row d x [] u f m = absurd m
  in_row d x (q ∷ ps) u f (inl e) = (0, omega arith, (0, subst (λ z. Below z q 0) (sym e) (itself q (u 0 (omega arith)))))
  in_row d x (q ∷ ps) u f (inr m) = go (in_cases x (places_in (grow T d q)) (places_in (row_of T (grow T d) ps)) m) (in_row d x ps (λ k h. u (suc k) (omega arith)) (λ k h. f (suc k) (omega arith)))
    where
      go : In x (places_in (grow T d q)) ⊎ In x (places_in (row_of T (grow T d) ps)) → (In x (places_in (row_of T (grow T d) ps)) → (k : ℕ) × (k < length ps) × ((m : ℕ) × Below x (get_or ps k 0) m)) → (k : ℕ) × (k < length (q ∷ ps)) × ((m : ℕ) × Below x (get_or (q ∷ ps) k 0) m)
      go (inl w) g = let r = f 0 (omega arith) w in (0, omega arith, (suc r.0, r.1))
      go (inr w) g = let r = g w in (suc r.0, omega (arith, r.1), r.2)

  in_grow : (d x q : ℕ) → used q ≡ true → In x (places_in (grow T d q)) → (m : ℕ) × Below x q (suc m)
  in_grow zero x q u m = absurd m
  in_grow (suc d) x q u m =
      let r = in_row d x (T q).kids (λ k h. sh.kid_used q k u h) (λ k h. in_grow d x (get_or (T q).kids k 0) (sh.kid_used q k u h)) m in
      (r.2.0, below_more x (get_or (T q).kids r.0 0) q (suc r.0) r.2.0 (sh.kid_used q r.0 u r.1) (sh.kid_link q r.0 u r.1) r.2.1)

  -- no place stands below itself, nor below two places of one depth
  not_itself : (q m : ℕ) → Below q q (suc m) → ⊥
  not_itself q m b = omega (arith, b.deeper)

  one_above : (x p q m n : ℕ) → sh.depth p ≡ sh.depth q → Below x p m → Below x q n → p ≡ q
  one_above x p q m n e b c =
      let same : n ≡ m = omega (arith, b.deeper, c.deeper) in
      under_one T m x p q b.way (subst (λ z. Under T z x q) same c.way)

  row_apart : (d n : ℕ) → ((q : ℕ) → used q ≡ true → Apart (places_in (grow T d q))) → (ps xs : List ℕ) (p i : ℕ) → Row p i n ps xs → Apart (places_in (row_of T (grow T d) ps))
  row_apart d n below [] xs p i r = tt
  row_apart d n below (q ∷ ps) [] p i r = absurd (let l = r.long in omega arith)
  row_apart d n below (q ∷ ps) (x ∷ xs) p i r = (
    (λ m. elim (in_cases q (places_in (grow T d q)) (places_in (row_of T (grow T d) ps)) m) [ inl w ↦ (let b = in_grow d q q uq w in not_itself q b.0 b.1) | inr w ↦ other q 0 (itself q uq) (inner q w) ]),
    apart_append (places_in (grow T d q)) (places_in (row_of T (grow T d) ps)) (below q uq) (row_apart d n below ps xs p (suc i) tail)
        (λ y a b. let w = in_grow d y q uq a in other y (suc w.0) w.1 (inner y b)),
  )
    where
      h : 0 < length (q ∷ ps)
      h = omega arith

      uq : used q ≡ true
      uq = r.used_there 0 h

      tail : Row p (suc i) n ps xs
      tail = row_tail p i n q x ps xs r

      inner : (y : ℕ) → In y (places_in (row_of T (grow T d) ps)) → (k : ℕ) × (k < length ps) × ((m : ℕ) × Below y (get_or ps k 0) m)
      inner y = in_row d y ps tail.used_there (λ k l. in_grow d y (get_or ps k 0) (tail.used_there k l))

      other : (y m : ℕ) → Below y q m → (k : ℕ) × (k < length ps) × ((j : ℕ) × Below y (get_or ps k 0) j) → ⊥
      other y m b (k, l, (j, c)) =
          let same : q ≡ get_or ps k 0 = one_above y q (get_or ps k 0) m j (r.deep_there 0 h ∙ sym (tail.deep_there k l)) b c in
          let pos = same_position (T q).link p (i + 0) p (suc i + k) (r.link_there 0 h) (ap (λ z. (T z).link) same ∙ tail.link_there k l) in
          omega arith

  grow_apart : (d p : ℕ) → used p ≡ true → Apart (places_in (grow T d p))
  grow_apart zero p u = tt
  grow_apart (suc d) p u = row_apart d (suc (sh.depth p)) (λ q uq. grow_apart d q uq) (T p).kids (rule σ (T p).rule).right p 1 (kids_row p u)

  -- the child of p on the way from p down to x
  split : (m x p : ℕ) → used x ≡ true → Under T (suc m) x p → (q : ℕ) × (k : ℕ) × (used q ≡ true) × ((T q).link ≡ under p k) × Under T m x q
  split zero x p u (v, k, e, r) = (x, k, u, e ∙ ap (λ z. under z k) r, refl)
  split (suc m) x p u (v, k, e, r) = let s = split m v p (sh.link_used x v k u e) r in (s.0, s.1, s.2, s.3, (v, k, e, s.4))

  row_in : (d x : ℕ) (ps : List ℕ) (j : ℕ) → j < length ps → (x ≡ get_or ps j 0) ⊎ In x (places_in (grow T d (get_or ps j 0))) → In x (places_in (row_of T (grow T d) ps))
  row_in d x [] j l h = absurd (omega arith)
  row_in d x (q ∷ ps) zero l (inl e) = inl e
  row_in d x (q ∷ ps) zero l (inr m) = inr (in_left x (places_in (grow T d q)) (places_in (row_of T (grow T d) ps)) m)
  row_in d x (q ∷ ps) (suc j) l h = inr (in_right x (places_in (grow T d q)) (places_in (row_of T (grow T d) ps)) (row_in d x ps j (omega arith) h))

  -- what stands not too far below p stands in the trees below it
  reach : (d m x p : ℕ) → m < d → used x ≡ true → Under T (suc m) x p → In x (places_in (grow T d p))
  reach zero m x p h u w = absurd (omega arith)
  reach (suc d) m x p h u w =
      let s = split m x p u w in
      let c = sh.link_kid s.0 p s.1 s.2 s.3 in
      row_in d x (T p).kids c.0 c.1 (subst (λ q. (x ≡ q) ⊎ In x (places_in (grow T d q))) (sym c.2) (next m s.0 (omega arith) s.4 (λ n l. reach d n x s.0 l u)))
    where
      next : (n q : ℕ) → n < suc d → Under T n x q → ((k : ℕ) → k < d → Under T (suc k) x q → In x (places_in (grow T d q))) → (x ≡ q) ⊎ In x (places_in (grow T d q))
      next zero q l r f = inl r
      next (suc n) q l r f = inr (f n (omega arith) r)

  -- the tree at a top
  pub record TreeAt (t : ℕ) : Type 0 where
    pub shown : Shows T (tree_from T 63 t) above 0
    pub agrees : Agrees σ (tree_from T 63 t) ((rule σ (T t).rule).left ∷ [])
    pub apart : Apart (places_in (tree_from T 63 t))
    pub within : Within (tree_from T 63 t) 64

  pub tree_grown : (t : ℕ) → used t ≡ true → (T t).link ≡ top → sh.depth t ≡ 1 → TreeAt t
  tree_grown t u l e =
      let g = grown 63 t (omega arith) u in
      record {
        shown = (refl, refl, g.roots, l, g.shown, tt);
        agrees = (sh.rules t u, refl, g.agrees, tt);
        apart = (
          (λ m. elim (in_cases t (places_in (grow T 63 t)) [] m) [ inl w ↦ (let b = in_grow 63 t t u w in not_itself t b.0 b.1) | inr w ↦ w ]),
          apart_append (places_in (grow T 63 t)) [] (grow_apart 63 t u) tt (λ x m k. k),
        );
        within = (g.within, tt);
      }

  -- its places are those below it
  pub tree_below : (t x : ℕ) → used t ≡ true → In x (places_in (tree_from T 63 t)) → (m : ℕ) × Below x t m
  tree_below t x u (inl e) = (0, subst (λ z. Below z t 0) (sym e) (itself t u))
  tree_below t x u (inr m) = elim (in_cases x (places_in (grow T 63 t)) [] m) [ inl w ↦ (let b = in_grow 63 x t u w in (suc b.0, b.1)) | inr w ↦ absurd w ]

  pub below_tree : (t x m : ℕ) → m ≤ 63 → used x ≡ true → Under T m x t → In x (places_in (tree_from T 63 t))
  below_tree t x zero h u w = inl w
  below_tree t x (suc m) h u w = inr (in_left x (places_in (grow T 63 t)) [] (reach 63 m x t (omega arith) u w))
