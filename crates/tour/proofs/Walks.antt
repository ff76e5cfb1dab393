-- What each move of a walk leaves over.
use Rattle.std.proofs.Common.{◌≡◌, ℕ, zero, suc, ◌+◌, ◌<◌, ◌≤◌, ◌⊎◌, List, [], ◌∷◌, ◌++◌, length, get_or, drop, Some, sym, refl, ap, ◌∙◌, subst, ap₂, inl, inr, append_assoc, append-nil, suc-add, arith, length-append, drop-cons}
use Rattle.grammar.specs.Model.{Grammar}
use Rattle.grammar.specs.declared.terms.Instruction.{Instruction}
use Rattle.tour.specs.Rules.{rule}
use Rattle.grammar.specs.declared.terms.Instruction.TheVariants.{Evaluate, Visit, Return}
use Rattle.tour.specs.Trees.{Instance, at_of, part, up_to, behind, listed}
use Rattle.tour.specs.Nodes.{Table}
use Rattle.tour.specs.Runs.{In}
use Rattle.tour.specs.Rules.{symbol, occurs}
use Rattle.tour.specs.Trees.{Forest, places, Agrees}
use Rattle.tour.specs.Trees.Forest.{none, node}
use Rattle.tour.specs.Nodes.{Link, Shows}
use Rattle.tour.specs.Nodes.Link.{under}
use Rattle.std.specs.List.{slice_get}
use Rattle.plans.proofs.Places.{nth_within, nth_at}
use Rattle.tour.specs.Walks.{plan_at, below, deep, begins, left_over, Within, Framed, weight, weights, moves, moves_left, Walking, MovedOn, Visited, Moves, WalkLaw}
use Rattle.tour.specs.Touring.{tour}
use Rattle.tour.specs.Shapes.{grow, tree_from}
use Rattle.sheet.specs.Meaning.{Sound}
use Rattle.tour.specs.Roots.{Rooted}
use Rattle.tour.proofs.Accepted.{sound_accepted}
use Rattle.tour.proofs.Shapes.{day_rooted}
use Rattle.tour.proofs.Deep.{deep_tour}
use Rattle.std.proofs.lemmas.Bool.{cases_order}
use Rattle.tour.proofs.Ruled.{returns, Accepted}

-- going on behind the first return
drop_past : (is : List Instruction) (n : ℕ) → up_to (drop (suc (length (up_to is)) + n) is) ≡ up_to (drop n (behind is))
drop_past [] n = rw suc-add (nothing n)
  where
    nothing : (n : ℕ) → up_to (drop {A = Instruction} (suc (0 + n)) []) ≡ up_to (drop n [])
    nothing zero = refl
    nothing (suc n) = refl
drop_past (Evaluate o a ∷ is) n = rw suc-add (drop_past is n)
drop_past (Visit k j ∷ is) n = rw suc-add (drop_past is n)
drop_past (Return j ∷ is) n = subst (λ z. up_to (drop z (Return j ∷ is)) ≡ up_to (drop n is)) (sym (one n)) refl
  where
    one : (n : ℕ) → 1 + n ≡ suc n
    one n = omega arith

pub part_begins : (j : ℕ) (is : List Instruction) → part j is ≡ up_to (drop (begins j is) is)
part_begins zero is = refl
part_begins (suc j) is = part_begins j (behind is) ∙ sym (drop_past is (begins j (behind is)))

module _ (σ : Grammar) (T : Table) where
  at_instruction : (p n : ℕ) (i : Instruction) → n < length (plan_at σ T p) → get_or (plan_at σ T p) n i ≡ i → drop n (plan_at σ T p) ≡ i ∷ drop (suc n) (plan_at σ T p)
  at_instruction p n i h e = drop-cons (plan_at σ T p) n i h ∙ ap (λ z. z ∷ drop (suc n) (plan_at σ T p)) e

  pub walk_evaluate : (d p n o a : ℕ) (fs : List (ℕ × ℕ)) → n < length (plan_at σ T p) → get_or (plan_at σ T p) n (Evaluate o a) ≡ Evaluate o a → left_over σ T d ((p, n) ∷ fs) ≡ (at_of p (T p).kids o, a) ∷ left_over σ T d ((p, suc n) ∷ fs)
  walk_evaluate d p n o a fs h e = ap (λ z. listed (at_of p (T p).kids) (below (deep σ T d) (T p).kids) (up_to z) ++ left_over σ T (suc d) fs) (at_instruction p n (Evaluate o a) h e)

  pub walk_visit : (d p n k j : ℕ) (fs : List (ℕ × ℕ)) → n < length (plan_at σ T p) → get_or (plan_at σ T p) n (Visit (suc k) (suc j)) ≡ Visit (suc k) (suc j)
      → left_over σ T (suc d) ((p, n) ∷ fs) ≡ left_over σ T d ((get_or (T p).kids k 0, begins j (plan_at σ T (get_or (T p).kids k 0))) ∷ (p, suc n) ∷ fs)
  walk_visit d p n k j fs h e =
      ap (λ z. listed (at_of p (T p).kids) (below (deep σ T (suc d)) (T p).kids) (up_to z) ++ left_over σ T (suc (suc d)) fs) (at_instruction p n (Visit (suc k) (suc j)) h e)
      ∙ append_assoc (deep σ T (suc d) (get_or (T p).kids k 0) (suc j)) (listed (at_of p (T p).kids) (below (deep σ T (suc d)) (T p).kids) (up_to (drop (suc n) (plan_at σ T p)))) (left_over σ T (suc (suc d)) fs)
      ∙ ap (λ z. listed (at_of q (T q).kids) (below (deep σ T d) (T q).kids) z ++ (listed (at_of p (T p).kids) (below (deep σ T (suc d)) (T p).kids) (up_to (drop (suc n) (plan_at σ T p))) ++ left_over σ T (suc (suc d)) fs)) (part_begins j (plan_at σ T q))
    where
      q : ℕ
      q = get_or (T p).kids k 0

  pub walk_return : (d p n j : ℕ) (fs : List (ℕ × ℕ)) → n < length (plan_at σ T p) → get_or (plan_at σ T p) n (Return j) ≡ Return j → left_over σ T d ((p, n) ∷ fs) ≡ left_over σ T (suc d) fs
  walk_return d p n j fs h e = ap (λ z. listed (at_of p (T p).kids) (below (deep σ T d) (T p).kids) (up_to z) ++ left_over σ T (suc d) fs) (at_instruction p n (Return j) h e)

  pub walk_begins : (d p : ℕ) → left_over σ T d ((p, 0) ∷ []) ≡ deep σ T (suc d) p 1
  walk_begins d p = append-nil (deep σ T (suc d) p 1)

  -- the moves fall by one
  pub moves_evaluate : (d p n o a : ℕ) (fs : List (ℕ × ℕ)) → n < length (plan_at σ T p) → get_or (plan_at σ T p) n (Evaluate o a) ≡ Evaluate o a → moves_left σ T d ((p, n) ∷ fs) ≡ suc (moves_left σ T d ((p, suc n) ∷ fs))
  moves_evaluate d p n o a fs h e =
      ap (λ z. suc (weights (weight (moves σ T d) (T p).kids) (up_to z)) + moves_left σ T (suc d) fs) (at_instruction p n (Evaluate o a) h e) ∙ omega arith

  pub moves_visit : (d p n k j : ℕ) (fs : List (ℕ × ℕ)) → n < length (plan_at σ T p) → get_or (plan_at σ T p) n (Visit (suc k) (suc j)) ≡ Visit (suc k) (suc j)
      → moves_left σ T (suc d) ((p, n) ∷ fs) ≡ suc (moves_left σ T d ((get_or (T p).kids k 0, begins j (plan_at σ T (get_or (T p).kids k 0))) ∷ (p, suc n) ∷ fs))
  moves_visit d p n k j fs h e =
      let a = ap (λ z. suc (weights (weight (moves σ T (suc d)) (T p).kids) (up_to z)) + moves_left σ T (suc (suc d)) fs) (at_instruction p n (Visit (suc k) (suc j)) h e) in
      let b = ap (λ z. weights (weight (moves σ T d) (T q).kids) z) (part_begins j (plan_at σ T q)) in
      a ∙ omega (arith, b)
    where
      q : ℕ
      q = get_or (T p).kids k 0

  pub moves_return : (d p n j : ℕ) (fs : List (ℕ × ℕ)) → n < length (plan_at σ T p) → get_or (plan_at σ T p) n (Return j) ≡ Return j → moves_left σ T d ((p, n) ∷ fs) ≡ suc (moves_left σ T (suc d) fs)
  moves_return d p n j fs h e = ap (λ z. suc (weights (weight (moves σ T d) (T p).kids) (up_to z)) + moves_left σ T (suc d) fs) (at_instruction p n (Return j) h e) ∙ omega arith

  module _ (ac : Accepted σ) where
    -- a child of trees that are not too deep
    Child : ℕ → ℕ → Type 0
    Child d q = (kids : Forest) × ((T q).kids ≡ places kids) × Shows T kids (under q) 1 × Agrees σ kids (rule σ (T q).rule).right × Within kids d × ((T q).rule < length σ.rules)

    child : (f : Forest) (xs : List ℕ) (up : ℕ → Link) (i d k : ℕ) → Shows T f up i → Agrees σ f xs → Within f d → k < length xs → (e : ℕ) × (d ≡ suc e) × Child e (get_or (places f) k 0) × ((rule σ (T (get_or (places f) k 0)).rule).left ≡ get_or xs k 0)
    unfolding Child
    child none [] up i d k sh ag wi h = absurd (omega arith)
    child none (x ∷ xs) up i d k sh ag wi h = absurd ag
    child (node p r c kids rest) [] up i d k sh ag wi h = absurd ag
    child (node p r c kids rest) (x ∷ xs) up i zero k sh ag wi h = absurd wi
    child (node p r c kids rest) (x ∷ xs) up i (suc d) zero (er, ec, ek, el, sk, sr) (l, e, ag, ag') (wk, wr) h =
        (d, refl, (kids, ek, sk, subst (λ z. Agrees σ kids (rule σ z).right) (sym er) ag, wk, subst (λ z. z < length σ.rules) (sym er) l), ap (λ z. (rule σ z).left) er ∙ e)
    child (node p r c kids rest) (x ∷ xs) up i (suc d) (suc k) (er, ec, ek, el, sk, sr) (l, e, ag, ag') (wk, wr) h = child rest xs up (suc i) (suc d) k sr ag' wr (omega arith)

    pub in_get_d : (is : List Instruction) (n : ℕ) (i : Instruction) → n < length is → get_or is n i ≡ i → In i is
    in_get_d [] n i h e = absurd (omega arith)
    in_get_d (x ∷ is) zero i h e = inl (sym e)
    in_get_d (x ∷ is) (suc n) i h e = inr (in_get_d is n i (omega arith) e)

    -- what is no return is not last
    not_last : (is pre : List Instruction) (n j : ℕ) (i : Instruction) → is ≡ pre ++ Return j ∷ [] → n < length is → get_or is n i ≡ i → (i ≡ Return j → ⊥) → suc n < length is
    not_last is pre n j i e h g away = go (cases_order n (length pre))
      where
        long : length is ≡ length pre + 1
        long = ap length e ∙ length-append pre (Return j ∷ [])

        there : (pre : List Instruction) (n : ℕ) → n ≡ length pre → get_or (pre ++ Return j ∷ []) n i ≡ Return j
        there [] n q = subst (λ z. get_or (Return j ∷ []) z i ≡ Return j) (sym q) refl
        there (x ∷ pre) zero q = absurd (omega arith)
        there (x ∷ pre) (suc n) q = there pre n (omega arith)

        go : (n ≡ length pre) ⊎ ((n < length pre) ⊎ (length pre < n)) → suc n < length is
        go (inl q) = absurd (away (sym g ∙ ap (λ z. get_or z n i) e ∙ there pre n q))
        go (inr (inl q)) = omega (arith, long)
        go (inr (inr q)) = absurd (omega (arith, long))

    begins_within : (j : ℕ) (is : List Instruction) → j < returns is → begins j is < length is
    begins_within zero [] h = h
    begins_within zero (x ∷ is) h = omega arith
    begins_within (suc j) is h = deeper is h (begins_within j (behind is))
      where
        count : (is : List Instruction) → suc j < returns is → j < returns (behind is)
        count [] h = absurd (omega arith)
        count (Evaluate o a ∷ is) h = count is h
        count (Visit o a ∷ is) h = count is h
        count (Return i ∷ is) h = omega arith

        size : (is : List Instruction) → suc j < returns is → suc (length (up_to is)) + length (behind is) ≡ length is
        size [] h = absurd (omega arith)
        size (Evaluate o a ∷ is) h = let w = size is h in omega arith
        size (Visit o a ∷ is) h = let w = size is h in omega arith
        size (Return i ∷ is) h = omega arith

        deeper : (is : List Instruction) → suc j < returns is → (j < returns (behind is) → begins j (behind is) < length (behind is)) → suc (length (up_to is)) + begins j (behind is) < length is
        deeper is h f = let w = f (count is h) in omega (arith, size is h)

    no_return : (i : Instruction) (j : ℕ) → returns (i ∷ []) ≡ 0 → i ≡ Return j → ⊥
    no_return i j z e = let w : returns (Return j ∷ []) ≡ 0 = subst (λ x. returns (x ∷ []) ≡ 0) e z in omega arith

    advance : (r n : ℕ) (i : Instruction) → r < length σ.rules → n < length (rule σ r).plan → get_or (rule σ r).plan n i ≡ i → returns (i ∷ []) ≡ 0 → suc n < length (rule σ r).plan
    advance r n i l h e z =
        let w = (ac.rules r l).1.return_last in
        not_last (rule σ r).plan w.0 n w.1 i w.2 h e (no_return i w.1 z)

    pub framed_evaluate : (d p n o a : ℕ) (fs : List (ℕ × ℕ)) → Framed σ T d ((p, n) ∷ fs) → get_or (plan_at σ T p) n (Evaluate o a) ≡ Evaluate o a → Framed σ T d ((p, suc n) ∷ fs)
    framed_evaluate d p n o a fs ((kids, ek, sk, ag, wi, l, h), fr) e = ((kids, ek, sk, ag, wi, l, advance (T p).rule n (Evaluate o a) l h e refl), fr)

    -- a visit finds its child, no deeper than there is room for, at an instruction of its plan with a return ahead
    pub framed_visit : (d p n k j : ℕ) (fs : List (ℕ × ℕ)) → Framed σ T d ((p, n) ∷ fs) → get_or (plan_at σ T p) n (Visit (suc k) (suc j)) ≡ Visit (suc k) (suc j) → (e : ℕ) × (d ≡ suc e) × Framed σ T e ((get_or (T p).kids k 0, begins j (plan_at σ T (get_or (T p).kids k 0))) ∷ (p, suc n) ∷ fs) × (j < returns (plan_at σ T (get_or (T p).kids k 0)))
    unfolding Child
    framed_visit d p n k j fs ((kids, ek, sk, ag, wi, l, h), fr) e =
        let v = (ac.rules (T p).rule l).0.visits_there (suc k) (suc j) (in_get_d (plan_at σ T p) n (Visit (suc k) (suc j)) h e) in
        let c = child kids (rule σ (T p).rule).right (under p) 1 d k sk ag wi (omega arith) in
        let q : ℕ = get_or (places kids) k 0 in
        let t : j < returns (plan_at σ T q) = subst (λ z. j < z) (sym (ac.rules (T q).rule c.2.5).1.returns_all) (subst (λ z. suc j ≤ (symbol σ z).visits) (sym c.3) v.3) in
        let fr' : Framed σ T (suc c.0) ((p, suc n) ∷ fs) = subst (λ z. Framed σ T z ((p, suc n) ∷ fs)) c.1 ((kids, ek, sk, ag, wi, l, advance (T p).rule n (Visit (suc k) (suc j)) l h e refl), fr) in (
          c.0,
          c.1,
          subst (λ z. Framed σ T c.0 ((get_or z k 0, begins j (plan_at σ T (get_or z k 0))) ∷ (p, suc n) ∷ fs)) (sym ek)
              ((c.2.0, c.2.1, c.2.2, c.2.3, c.2.4, c.2.5, begins_within j (plan_at σ T q) t), fr'),
          subst (λ z. j < returns (plan_at σ T (get_or z k 0))) (sym ek) t,
        )

-- the moves, by the instruction to come
module _ (σ : Grammar) (T : Table) (t : Forest) (ac : Accepted σ) where
  pub read_at : (p n : ℕ) (i : Instruction) → slice_get (plan_at σ T p) n ≡ Some i → (n < length (plan_at σ T p)) × (get_or (plan_at σ T p) n i ≡ i)
  read_at p n i e = (nth_within (plan_at σ T p) n i e, nth_at (plan_at σ T p) n i i e)

  pub evaluates : (d p n o a : ℕ) (fs : List (ℕ × ℕ)) (done : List Instance) → Walking σ T t d ((p, n) ∷ fs) done → slice_get (plan_at σ T p) n ≡ Some (Evaluate o a) → MovedOn σ T t (moves_left σ T d ((p, n) ∷ fs)) d ((p, suc n) ∷ fs) (done ++ (at_of p (T p).kids o, a) ∷ [])
  evaluates d p n o a fs done w e =
      let r = read_at p n (Evaluate o a) e in
      record {
        walking = record {
          framed = framed_evaluate σ T ac d p n o a fs w.framed r.1;
          parts = append_assoc done ((at_of p (T p).kids o, a) ∷ []) (left_over σ T d ((p, suc n) ∷ fs)) ∙ ap (λ z. done ++ z) (sym (walk_evaluate σ T d p n o a fs r.0 r.1)) ∙ w.parts;
          room = w.room;
        };
        fewer = moves_evaluate σ T d p n o a fs r.0 r.1;
      }

  pub returns_back : (d p n j : ℕ) (fs : List (ℕ × ℕ)) (done : List Instance) → Walking σ T t d ((p, n) ∷ fs) done → slice_get (plan_at σ T p) n ≡ Some (Return j) → MovedOn σ T t (moves_left σ T d ((p, n) ∷ fs)) (suc d) fs done
  returns_back d p n j fs done w e =
      let r = read_at p n (Return j) e in
      record {
        walking = record {
          framed = w.framed.1;
          parts = ap (λ z. done ++ z) (sym (walk_return σ T d p n j fs r.0 r.1)) ∙ w.parts;
          room = let h = w.room in omega arith;
        };
        fewer = moves_return σ T d p n j fs r.0 r.1;
      }

  kids_long : (kids : Forest) (xs : List ℕ) → Agrees σ kids xs → length (places kids) ≡ length xs
  kids_long none [] ag = refl
  kids_long none (x ∷ xs) ag = absurd ag
  kids_long (node p r c kids rest) [] ag = absurd ag
  kids_long (node p r c kids rest) (x ∷ xs) (l, e, ag, ag') = ap suc (kids_long rest xs ag')

  -- a visit that stands in the plan is one to a child that is there
  pub visit_there_lem : (d p n k j : ℕ) (fs : List (ℕ × ℕ)) → Framed σ T d ((p, n) ∷ fs) → slice_get (plan_at σ T p) n ≡ Some (Visit k j) → (m : ℕ) × (i : ℕ) × (k ≡ suc m) × (j ≡ suc i) × (m < length (T p).kids)
  visit_there_lem d p n k j fs ((kids, ek, sk, ag, wi, l, h), fr) e = go k j ((ac.rules (T p).rule l).0.visits_there k j (in_get_d σ T ac (plan_at σ T p) n (Visit k j) h (read_at p n (Visit k j) e).1))
    where
      long : length (T p).kids ≡ length (rule σ (T p).rule).right
      long = ap length ek ∙ kids_long kids (rule σ (T p).rule).right ag

      go : (k j : ℕ) → (1 ≤ k) × (k ≤ length (rule σ (T p).rule).right) × (1 ≤ j) × (j ≤ (symbol σ (occurs (rule σ (T p).rule) k)).visits) → (m : ℕ) × (i : ℕ) × (k ≡ suc m) × (j ≡ suc i) × (m < length (T p).kids)
      go zero j v = absurd (let a = v.0 in omega arith)
      go (suc m) zero v = absurd (let a = v.2 in omega arith)
      go (suc m) (suc i) v = (m, i, refl, refl, omega (arith, v.1, long))

  pub visits : (d p n k j : ℕ) (fs : List (ℕ × ℕ)) (done : List Instance) → Walking σ T t d ((p, n) ∷ fs) done → slice_get (plan_at σ T p) n ≡ Some (Visit k j) → Visited σ T t d p n k j fs done
  visits d p n k j fs done w e = go (visit_there_lem d p n k j fs w.framed e)
    where
      go : (m : ℕ) × (i : ℕ) × (k ≡ suc m) × (j ≡ suc i) × (m < length (T p).kids) → Visited σ T t d p n k j fs done
      go (m, i, ek, ej, l) =
          let r = read_at p n (Visit (suc m) (suc i)) (e ∙ ap₂ (λ x y. Some (Visit x y)) ek ej) in
          let f = framed_visit σ T ac d p n m i fs w.framed r.1 in
          let left : done ++ left_over σ T (suc f.0) ((p, n) ∷ fs) ≡ tour σ t = subst (λ z. done ++ left_over σ T z ((p, n) ∷ fs) ≡ tour σ t) f.1 w.parts in
          record {
            kid = m;
            turn = i;
            depth = f.0;
            kid_is = ek;
            turn_is = ej;
            depth_is = f.1;
            there = l;
            on = record {
              walking = record {
                framed = f.2;
                parts = ap (λ z. done ++ z) (sym (walk_visit σ T f.0 p n m i fs r.0 r.1)) ∙ left;
                room = let h = w.room in let g = f.1 in omega arith;
              };
              fewer = ap (λ z. moves_left σ T z ((p, n) ∷ fs)) f.1 ∙ moves_visit σ T f.0 p n m i fs r.0 r.1;
            };
          }

  pub moves_law : Moves σ T t
  moves_law = record {
    evaluates = evaluates;
    visits = visits;
    returns = returns_back;
    ends = λ d done w. sym (append-nil done) ∙ w.parts;
  }

-- a walk begins at the root
pub walk_starts : (σ : Grammar) (T : Table) (p : ℕ) → Sound σ → Rooted σ T 0 (tree_from T 63 p) → Walking σ T (tree_from T 63 p) 63 ((p, 0) ∷ []) []
walk_starts σ T p so r = record {
  framed = ((grow T 63 p, r.shown.2, r.shown.4, r.agrees.2, r.depth.0, r.agrees.0, long), tt);
  parts = walk_begins σ T 63 p ∙ deep_tour σ T (tree_from T 63 p) 64 (record { sound = so; agrees = r.agrees; shown = r.shown; apart = r.apart }) r.depth;
  room = refl;
}
  where
    long : 0 < length (plan_at σ T p)
    long = let w = ((sound_accepted σ so).rules (T p).rule r.agrees.0).1.return_last in omega (arith, ap length w.2 ∙ length-append w.0 (Return w.1 ∷ []))

pub walk_law : WalkLaw
walk_law = record {
  starts = λ σ so T used root sh. walk_starts σ T root so (day_rooted σ T used root sh);
  moves = λ σ so T t. moves_law σ T t (sound_accepted σ so);
}
