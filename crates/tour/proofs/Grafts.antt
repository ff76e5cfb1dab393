-- The trees of a table after an exchange.
use Rattle.std.proofs.Common.{◌≡◌, ℕ, suc, ◌<◌, Bool, true, false, cond, eqb, ◌⊎◌, List, [], ◌∷◌, ◌++◌, map, length, sym, refl, ap, ◌∙◌, subst, ap₂, inl, inr, append-nil}
use Rattle.tour.specs.Runs.{In, Apart}
use Rattle.grammar.specs.Model.{Grammar}
use Rattle.tour.specs.Rules.{rule}
use Rattle.tour.specs.Trees.{Forest, places, Agrees, places_in}
use Rattle.tour.specs.Trees.Forest.{none, node}
use Rattle.tour.specs.Nodes.{Link, Table, Shows, above, Planted}
use native.Mathlib.Decide.{ℕ_discrete}
use Rattle.tour.specs.Nodes.Link.{under}
use Rattle.tour.specs.Exchange.{swap, Exchanged, graft, either, subtree, GraftLaw}
use Rattle.tour.proofs.Lists.{in_left, in_right, in_cases}
use Rattle.tour.proofs.Sums.{apart_append}
use Rattle.tour.proofs.Places.{apart_parts}
use Rattle.std.proofs.lemmas.Bool.{eqb-true, eqb-false, ne_eqb}

swap_away : (q h p : ℕ) → (p ≡ q → ⊥) → swap q h p ≡ p
swap_away q h p n = ap (λ b. cond b h p) (ne_eqb p q n)

swap_none : (q h : ℕ) (ps : List ℕ) → (In q ps → ⊥) → map (swap q h) ps ≡ ps
swap_none q h [] n = refl
swap_none q h (p ∷ ps) n = ap₂ ◌∷◌ (swap_away q h p (λ e. n (inl (sym e)))) (swap_none q h ps (λ m. n (inr m)))

root_place : (x : ℕ) (f : Forest) → In x (places f) → In x (places_in f)
root_place x none m = m
root_place x (node p r c kids rest) (inl e) = inl e
root_place x (node p r c kids rest) (inr m) = inr (in_right x (places_in kids) (places_in rest) (root_place x rest m))

module _ (q h : ℕ) (T U : Table) (ex : Exchanged q h T U) where
  -- what neither holds q nor h is shown as before
  pub shows_kept : (f : Forest) (up : ℕ → Link) (i : ℕ) → (In q (places_in f) → ⊥) → (In h (places_in f) → ⊥) → Shows T f up i → Shows U f up i
  shows_kept none up i nq nh sh = tt
  shows_kept (node p r c kids rest) up i nq nh (er, ec, ek, el, sk, sr) = (
    ex.rules p ∙ er,
    ex.codes p ∙ ec,
    ex.kids p ∙ ap (map (swap q h)) ek ∙ swap_none q h (places kids) (λ m. nq (inr (in_left q (places_in kids) (places_in rest) (root_place q kids m)))),
    ex.links p (λ e. nq (inl (sym e))) (λ e. nh (inl (sym e))) ∙ el,
    shows_kept kids (under p) 1 (λ m. nq (inr (in_left q (places_in kids) (places_in rest) m))) (λ m. nh (inr (in_left h (places_in kids) (places_in rest) m))) sk,
    shows_kept rest up (suc i) (λ m. nq (inr (in_right q (places_in kids) (places_in rest) m))) (λ m. nh (inr (in_right h (places_in kids) (places_in rest) m))) sr,
  )

  module _ (r' c' : ℕ) (kids' : Forest) (free : In q (h ∷ places_in kids') → ⊥) (own : In h (places_in kids') → ⊥) where
    places_graft : (f : Forest) → Apart (places_in f) → places (graft q h r' c' kids' f) ≡ map (swap q h) (places f)
    places_graft none a = refl
    places_graft (node p r c kids rest) (n, a) = go (eqb p q) refl (places_graft rest (apart_parts (places_in kids) (places_in rest) a).1)
      where
        go : (b : Bool) → eqb p q ≡ b → places (graft q h r' c' kids' rest) ≡ map (swap q h) (places rest) → places (cond b (node h r' c' kids' rest) (node p r c (graft q h r' c' kids' kids) (graft q h r' c' kids' rest))) ≡ cond b h p ∷ map (swap q h) (places rest)
        go true e f = ap (λ z. h ∷ z) (sym (swap_none q h (places rest) (λ m. n (in_right p (places_in kids) (places_in rest) (subst (λ z. In z (places_in rest)) (sym (eqb-true p q e)) (root_place q rest m))))))
        go false e f = ap (λ z. p ∷ z) f

    -- the drop shows the trees with the block put in
    pub shows_graft : (f : Forest) (up : ℕ → Link) (i : ℕ) → Apart (places_in f) → (In h (places_in f) → ⊥) → ((T h).rule ≡ r') × ((T h).code ≡ c') × ((T h).kids ≡ places kids') × Shows T kids' (under h) 1 → Shows T f up i → Shows U (graft q h r' c' kids' f) up i
    shows_graft none up i a nh bl sh = tt
    shows_graft (node p r c kids rest) up i (n, a) nh bl (er, ec, ek, el, sk, sr) =
        go (eqb p q) refl
        (shows_graft kids (under p) 1 parts.0 (λ m. nh (inr (in_left h (places_in kids) (places_in rest) m))) bl sk)
        (shows_graft rest up (suc i) parts.1 (λ m. nh (inr (in_right h (places_in kids) (places_in rest) m))) bl sr)
      where
        parts : Apart (places_in kids) × Apart (places_in rest) × ((x : ℕ) → In x (places_in kids) → In x (places_in rest) → ⊥)
        parts = apart_parts (places_in kids) (places_in rest) a

        go : (b : Bool) → eqb p q ≡ b → Shows U (graft q h r' c' kids' kids) (under p) 1 → Shows U (graft q h r' c' kids' rest) up (suc i) → Shows U (cond b (node h r' c' kids' rest) (node p r c (graft q h r' c' kids' kids) (graft q h r' c' kids' rest))) up i
        go true e gk gr =
            let pq : p ≡ q = eqb-true p q e in (
              ex.rules h ∙ bl.0,
              ex.codes h ∙ bl.1,
              ex.kids h ∙ ap (map (swap q h)) bl.2 ∙ swap_none q h (places kids') (λ m. free (inr (root_place q kids' m))),
              ex.put ∙ ap (λ z. (T z).link) (sym pq) ∙ el,
              shows_kept kids' (under h) 1 (λ m. free (inr m)) own bl.3,
              shows_kept rest up (suc i) (λ m. n (in_right p (places_in kids) (places_in rest) (subst (λ z. In z (places_in rest)) (sym pq) m))) (λ m. nh (inr (in_right h (places_in kids) (places_in rest) m))) sr,
            )
        go false e gk gr = (
          ex.rules p ∙ er,
          ex.codes p ∙ ec,
          ex.kids p ∙ ap (map (swap q h)) ek ∙ sym (places_graft kids parts.0),
          ex.links p (λ w. eqb-false p q e w) (λ w. nh (inl (sym w))) ∙ el,
          gk,
          gr,
        )

    -- symbols agree
    pub agrees_graft : (σ : Grammar) → r' < length σ.rules → Agrees σ kids' (rule σ r').right → (T h).rule ≡ r' → (rule σ (T q).rule).left ≡ (rule σ r').left → (f : Forest) (xs : List ℕ) (up : ℕ → Link) (i : ℕ) → Shows T f up i → Agrees σ f xs → Agrees σ (graft q h r' c' kids' f) xs
    agrees_graft σ l' ag'' eh sy none xs up i sh ag = ag
    agrees_graft σ l' ag'' eh sy (node p r c kids rest) [] up i sh ag = absurd ag
    agrees_graft σ l' ag'' eh sy (node p r c kids rest) (x ∷ xs) up i (er, ec, ek, el, sk, sr) (l, e, ag, ag') =
        go (eqb p q) refl (agrees_graft σ l' ag'' eh sy kids (rule σ r).right (under p) 1 sk ag) (agrees_graft σ l' ag'' eh sy rest xs up (suc i) sr ag')
      where
        go : (b : Bool) → eqb p q ≡ b → Agrees σ (graft q h r' c' kids' kids) (rule σ r).right → Agrees σ (graft q h r' c' kids' rest) xs → Agrees σ (cond b (node h r' c' kids' rest) (node p r c (graft q h r' c' kids' kids) (graft q h r' c' kids' rest))) (x ∷ xs)
        go true w gk gr = (l', sym sy ∙ ap (λ z. (rule σ (T z).rule).left) (sym (eqb-true p q w)) ∙ ap (λ z. (rule σ z).left) er ∙ e, ag'', ag')
        go false w gk gr = (l, e, gk, gr)

    in_graft : (x : ℕ) (f : Forest) → In x (places_in (graft q h r' c' kids' f)) → In x (places_in f) ⊎ In x (h ∷ places_in kids')
    in_graft x none m = inl m
    in_graft x (node p r c kids rest) m = go (eqb p q) m (in_graft x kids) (in_graft x rest)
      where
        left : In x (places_in kids) ⊎ In x (h ∷ places_in kids') → In x (places_in (node p r c kids rest)) ⊎ In x (h ∷ places_in kids')
        left (inl k) = inl (inr (in_left x (places_in kids) (places_in rest) k))
        left (inr k) = inr k

        right : In x (places_in rest) ⊎ In x (h ∷ places_in kids') → In x (places_in (node p r c kids rest)) ⊎ In x (h ∷ places_in kids')
        right (inl k) = inl (inr (in_right x (places_in kids) (places_in rest) k))
        right (inr k) = inr k

        go : (b : Bool) → In x (places_in (cond b (node h r' c' kids' rest) (node p r c (graft q h r' c' kids' kids) (graft q h r' c' kids' rest)))) → (In x (places_in (graft q h r' c' kids' kids)) → In x (places_in kids) ⊎ In x (h ∷ places_in kids')) → (In x (places_in (graft q h r' c' kids' rest)) → In x (places_in rest) ⊎ In x (h ∷ places_in kids')) → In x (places_in (node p r c kids rest)) ⊎ In x (h ∷ places_in kids')
        go true (inl e) f g = inr (inl e)
        go true (inr k) f g = elim (in_cases x (places_in kids') (places_in rest) k) [ inl w ↦ inr (inr w) | inr w ↦ right (inl w) ]
        go false (inl e) f g = inl (inl e)
        go false (inr k) f g = elim (in_cases x (places_in (graft q h r' c' kids' kids)) (places_in (graft q h r' c' kids' rest)) k) [ inl w ↦ left (f w) | inr w ↦ right (g w) ]

    -- without q the trees stay
    graft_none : (f : Forest) → (In q (places_in f) → ⊥) → graft q h r' c' kids' f ≡ f
    graft_none none n = refl
    graft_none (node p r c kids rest) n =
        ap (λ b. cond b (node h r' c' kids' rest) (node p r c (graft q h r' c' kids' kids) (graft q h r' c' kids' rest))) (ne_eqb p q (λ e. n (inl (sym e))))
        ∙ ap₂ (λ y z. node p r c y z) (graft_none kids (λ m. n (inr (in_left q (places_in kids) (places_in rest) m)))) (graft_none rest (λ m. n (inr (in_right q (places_in kids) (places_in rest) m))))

    apart_graft : (f : Forest) → Apart (h ∷ places_in kids') → Apart (places_in f) → ((x : ℕ) → In x (places_in f) → In x (h ∷ places_in kids') → ⊥) → Apart (places_in (graft q h r' c' kids' f))
    apart_graft none b a d = tt
    apart_graft (node p r c kids rest) b (n, a) d =
        go (eqb p q) (dec_in q (places_in kids))
        (apart_graft kids b parts.0 (λ x m k. d x (inr (in_left x (places_in kids) (places_in rest) m)) k))
        (apart_graft rest b parts.1 (λ x m k. d x (inr (in_right x (places_in kids) (places_in rest) m)) k))
      where
        parts : Apart (places_in kids) × Apart (places_in rest) × ((x : ℕ) → In x (places_in kids) → In x (places_in rest) → ⊥)
        parts = apart_parts (places_in kids) (places_in rest) a

        K : Forest
        K = graft q h r' c' kids' kids

        R : Forest
        R = graft q h r' c' kids' rest

        dec_in : (x : ℕ) (xs : List ℕ) → Dec (In x xs)
        dec_in x [] = no (λ m. m)
        dec_in x (y ∷ xs) = step (ℕ_discrete x y) (dec_in x xs)
          where
            step : Dec (x ≡ y) → Dec (In x xs) → Dec ((x ≡ y) ⊎ In x xs)
            step (yes e) w = yes (inl e)
            step (no k) (yes m) = yes (inr m)
            step (no k) (no l) = no (λ z. elim z [ inl e ↦ k e | inr m ↦ l m ])

        apart_here : (In p (places_in K) → ⊥)
        apart_here m = elim (in_graft p kids m) [ inl k ↦ n (in_left p (places_in kids) (places_in rest) k) | inr k ↦ d p (inl refl) k ]

        apart_there : (In p (places_in R) → ⊥)
        apart_there m = elim (in_graft p rest m) [ inl k ↦ n (in_right p (places_in kids) (places_in rest) k) | inr k ↦ d p (inl refl) k ]

        apart_both : Dec (In q (places_in kids)) → (x : ℕ) → In x (places_in K) → In x (places_in R) → ⊥
        apart_both (yes k) x m w =
            let w' : In x (places_in rest) = subst (λ z. In x (places_in z)) (graft_none rest (λ z. parts.2 q k z)) w in
            elim (in_graft x kids m) [ inl z ↦ parts.2 x z w' | inr z ↦ d x (inr (in_right x (places_in kids) (places_in rest) w')) z ]
        apart_both (no k) x m w =
            let m' : In x (places_in kids) = subst (λ z. In x (places_in z)) (graft_none kids k) m in
            elim (in_graft x rest w) [ inl z ↦ parts.2 x m' z | inr z ↦ d x (inr (in_left x (places_in kids) (places_in rest) m')) z ]

        go : (t : Bool) → Dec (In q (places_in kids)) → Apart (places_in K) → Apart (places_in R) → Apart (places_in (cond t (node h r' c' kids' rest) (node p r c K R)))
        go true w ak ar = (
          (λ m. elim (in_cases h (places_in kids') (places_in rest) m) [ inl k ↦ own k | inr k ↦ d h (inr (in_right h (places_in kids) (places_in rest) k)) (inl refl) ]),
          apart_append (places_in kids') (places_in rest) b.1 parts.1 (λ x m k. d x (inr (in_right x (places_in kids) (places_in rest) k)) (inr m)),
        )
        go false w ak ar = (
          (λ m. elim (in_cases p (places_in K) (places_in R) m) [ inl k ↦ apart_here k | inr k ↦ apart_there k ]),
          apart_append (places_in K) (places_in R) ak ar (apart_both w),
        )

-- a drop keeps what is asked of a tree in a table
pub planted_graft : (σ : Grammar) (q h : ℕ) (T U : Table) (t kids' : Forest) (r' c' : ℕ) → Exchanged q h T U → Planted σ T t
    → r' < length σ.rules → ((T h).rule ≡ r') × ((T h).code ≡ c') × ((T h).kids ≡ places kids') × Shows T kids' (under h) 1 → Agrees σ kids' (rule σ r').right
    → (rule σ (T q).rule).left ≡ (rule σ r').left
    → Apart (h ∷ places_in kids') → ((x : ℕ) → In x (places_in t) → In x (h ∷ places_in kids') → ⊥) → In q (places_in t)
    → Planted σ U (graft q h r' c' kids' t)
planted_graft σ q h T U t kids' r' c' ex pl l' bl ag sy b d at = record {
  sound = pl.sound;
  agrees = agrees_graft q h T U ex r' c' kids' (λ m. d q at m) b.0 σ l' ag bl.0 sy t (0 ∷ []) above 0 pl.shown pl.agrees;
  shown = shows_graft q h T U ex r' c' kids' (λ m. d q at m) b.0 t above 0 pl.apart (λ m. d h m (inl refl)) bl pl.shown;
  apart = apart_graft q h T U ex r' c' kids' (λ m. d q at m) b.0 t b pl.apart d;
}

-- the tree that stood at q: shown as a root after the drop, of the same symbol, its places among those of before
shows_either : (U : Table) (f g : Forest) → Shows U f above 0 → Shows U g above 0 → Shows U (either f g) above 0
shows_either U none g a b = b
shows_either U (node p r c kids rest) g a b = a

pub shows_subtree : (q h : ℕ) (T U : Table) → Exchanged q h T U → (f : Forest) (up : ℕ → Link) (i : ℕ) → Apart (places_in f) → (In h (places_in f) → ⊥) → Shows T f up i → Shows U (subtree q f) above 0
shows_subtree q h T U ex none up i a nh sh = tt
shows_subtree q h T U ex (node p r c kids rest) up i (n, a) nh (er, ec, ek, el, sk, sr) =
    go (eqb p q) refl
    (shows_subtree q h T U ex kids (under p) 1 parts.0 (λ m. nh (inr (in_left h (places_in kids) (places_in rest) m))) sk)
    (shows_subtree q h T U ex rest up (suc i) parts.1 (λ m. nh (inr (in_right h (places_in kids) (places_in rest) m))) sr)
  where
    parts : Apart (places_in kids) × Apart (places_in rest) × ((x : ℕ) → In x (places_in kids) → In x (places_in rest) → ⊥)
    parts = apart_parts (places_in kids) (places_in rest) a

    go : (b : Bool) → eqb p q ≡ b → Shows U (subtree q kids) above 0 → Shows U (subtree q rest) above 0 → Shows U (cond b (node p r c kids none) (either (subtree q kids) (subtree q rest))) above 0
    go true e gk gr =
        let pq : p ≡ q = eqb-true p q e in
        let out : In q (places_in kids) → ⊥ = λ m. n (in_left p (places_in kids) (places_in rest) (subst (λ z. In z (places_in kids)) (sym pq) m)) in (
          ex.rules p ∙ er,
          ex.codes p ∙ ec,
          ex.kids p ∙ ap (map (swap q h)) ek ∙ swap_none q h (places kids) (λ m. out (root_place q kids m)),
          ap (λ z. (U z).link) pq ∙ ex.lifted,
          shows_kept q h T U ex kids (under p) 1 out (λ m. nh (inr (in_left h (places_in kids) (places_in rest) m))) sk,
          tt,
        )
    go false e gk gr = shows_either U (subtree q kids) (subtree q rest) gk gr

subtree_none : (q : ℕ) (f : Forest) → (In q (places_in f) → ⊥) → subtree q f ≡ none
subtree_none q none n = refl
subtree_none q (node p r c kids rest) n =
    ap (λ b. cond b (node p r c kids none) (either (subtree q kids) (subtree q rest))) (ne_eqb p q (λ e. n (inl (sym e))))
    ∙ ap₂ either (subtree_none q kids (λ m. n (inr (in_left q (places_in kids) (places_in rest) m)))) (subtree_none q rest (λ m. n (inr (in_right q (places_in kids) (places_in rest) m))))

-- where q stands, its tree is found, with q as root and the symbol of its rule
pub subtree_found : (σ : Grammar) (T : Table) (q : ℕ) (f : Forest) (xs : List ℕ) (up : ℕ → Link) (i : ℕ) → Apart (places_in f) → Shows T f up i → Agrees σ f xs → In q (places_in f) → (kids : Forest) × (subtree q f ≡ node q (T q).rule (T q).code kids none) × Agrees σ (subtree q f) ((rule σ (T q).rule).left ∷ [])
subtree_found σ T q none xs up i a sh ag m = absurd m
subtree_found σ T q (node p r c kids rest) [] up i a sh ag m = absurd ag
subtree_found σ T q (node p r c kids rest) (x ∷ xs) up i (n, a) (er, ec, ek, el, sk, sr) (l, e, ag, ag') m =
    go (eqb p q) refl m
    (subtree_found σ T q kids (rule σ r).right (under p) 1 parts.0 sk ag)
    (subtree_found σ T q rest xs up (suc i) parts.1 sr ag')
  where
    parts : Apart (places_in kids) × Apart (places_in rest) × ((x : ℕ) → In x (places_in kids) → In x (places_in rest) → ⊥)
    parts = apart_parts (places_in kids) (places_in rest) a

    Found : Forest → Type 0
    Found g = (ks : Forest) × (g ≡ node q (T q).rule (T q).code ks none) × Agrees σ g ((rule σ (T q).rule).left ∷ [])

    from_kids : Found (subtree q kids) → Found (either (subtree q kids) (subtree q rest))
    from_kids w = let z : either (subtree q kids) (subtree q rest) ≡ subtree q kids = ap (λ y. either y (subtree q rest)) w.1 ∙ sym w.1 in subst Found (sym z) w

    from_rest : (In q (places_in kids) → ⊥) → Found (subtree q rest) → Found (either (subtree q kids) (subtree q rest))
    from_rest k w = subst Found (sym (ap (λ y. either y (subtree q rest)) (subtree_none q kids k))) w

    go : (b : Bool) → eqb p q ≡ b → (q ≡ p) ⊎ In q (places_in kids ++ places_in rest) → (In q (places_in kids) → Found (subtree q kids)) → (In q (places_in rest) → Found (subtree q rest)) → Found (cond b (node p r c kids none) (either (subtree q kids) (subtree q rest)))
    go true w k f g =
        let pq : p ≡ q = eqb-true p q w in
        let eq : node p r c kids none ≡ node q (T q).rule (T q).code kids none = cc (pq, sym (ap (λ z. (T z).rule) pq) ∙ er, sym (ap (λ z. (T z).code) pq) ∙ ec) in
        (kids, eq, (l, ap (λ z. (rule σ z).left) (sym er ∙ ap (λ z. (T z).rule) pq), ag, tt))
    go false w (inl k) f g = absurd (eqb-false p q w (sym k))
    go false w (inr k) f g = elim (in_cases q (places_in kids) (places_in rest) k) [ inl y ↦ from_kids (f y) | inr y ↦ from_rest (λ z. parts.2 q z y) (g y) ]

pub graft_law : GraftLaw
graft_law σ q h r c kids t T U ex pl at (l, sy, ag, _) (er, ec, ek, el, sk, _) b d =
    let own : Apart (h ∷ places_in kids) = subst (λ z. Apart (h ∷ z)) (append-nil (places_in kids)) b in
    let off : (x : ℕ) → In x (places_in t) → In x (h ∷ places_in kids) → ⊥ = λ x m k. d x m (subst (λ z. In x (h ∷ z)) (sym (append-nil (places_in kids))) k) in
    let found = subtree_found σ T q t (0 ∷ []) above 0 pl.apart pl.shown pl.agrees at in
    record {
      planted = planted_graft σ q h T U t kids r c ex pl l (er, ec, ek, sk) ag (sym sy) own off at;
      lifted_agrees = found.2;
      lifted_shown = shows_subtree q h T U ex t above 0 pl.apart (λ m. off h m (inl refl)) pl.shown;
      lifted_root = (found.0, found.1);
    }
