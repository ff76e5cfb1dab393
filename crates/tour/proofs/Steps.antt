-- What a step and a run do, in a system whose tour is ordered.
use Rattle.std.proofs.Common.{◌≡◌, Bool, true, false, ◌⊎◌, List, [], ◌∷◌, ◌++◌, Some, None, Decides, Option, sym, refl, ap, ◌∙◌, subst, inl, inr, append_assoc, append-nil}
use mathlib.Core.Bool.{false≢true}
use Rattle.tour.specs.Runs.{In, Apart, System, args, result, State, Ordered, Idle, Step, Run, Consistent, Moved}
use Rattle.tour.specs.Fresh.{evaluated, put, evaluations, fresh}
use Rattle.tour.proofs.Lists.{in_left, in_right, in_cases, in_split, apart_front}
use Rattle.tour.proofs.Sources.{result_local, evaluated_found, put_here, put_there}

module _ {I V : Type 0} (S : System I V) (o : Ordered S) where
  alone : (xs ys : List I) (i : I) → S.tour ≡ xs ++ i ∷ ys → In i xs → ⊥
  alone xs ys i e m = apart_front xs ys i (subst Apart e o.once) m

  -- the front of a tour holds its members' arguments
  closed : (xs ys : List I) (j a : I) → S.tour ≡ xs ++ ys → In j xs → In a (args S j) → In a xs
  closed xs ys j a e m h =
      let r = in_split j xs m in
      let f : S.tour ≡ r.0 ++ j ∷ (r.1 ++ ys) = e ∙ ap (λ z. z ++ ys) r.2 ∙ append_assoc r.0 (j ∷ r.1) ys in
      subst (λ z. In a z) (sym r.2) (in_left a r.0 (j ∷ r.1) (o.before r.0 (r.1 ++ ys) j a f h))

  -- a step is behind what is idle, and leaves it idle
  pub step_behind : (xs : List I) {s t : State I V} {i : I} {c : Bool} → Idle s xs → Step S s i c t → In i xs → ⊥
  step_behind xs {i = i} h st m = h i m st.due

  pub step_idle : (xs ys : List I) → S.tour ≡ xs ++ ys → {s t : State I V} {i : I} {c : Bool} → Idle s xs → Step S s i c t → Idle t xs
  step_idle xs ys e {s} {t} {i} {c} h st j m d =
      elim ((st.marks j (o.covers j (subst (λ z. In j z) (sym e) (in_left j xs ys m)))).0 d)
      [ inl p ↦ h j m p.1 | inr p ↦ h i (closed xs ys j i e m p.1) st.due ]

  -- after a step all up to its instance is idle
  pub step_front : {s t : State I V} {i : I} {c : Bool} → (st : Step S s i c t) → Idle t (st.front ++ i ∷ [])
  step_front {s} {t} {i} {c} st j m d = go (in_cases j st.front (i ∷ []) m)
    where
      here : In i S.tour
      here = subst (λ z. In i z) (sym st.place) (in_right i st.front (i ∷ st.back) (inl refl))

      at : t.owed i ≡ true → ⊥
      at d = elim ((st.marks i (o.covers i here)).0 d)
          [ inl p ↦ p.0 refl | inr p ↦ alone st.front st.back i st.place (o.before st.front st.back i i st.place p.1) ]

      go : In j st.front ⊎ In j (i ∷ []) → ⊥
      go (inl k) = step_idle st.front (i ∷ st.back) st.place st.first st j k d
      go (inr (inl e)) = at (subst (λ z. t.owed z ≡ true) e d)
      go (inr (inr k)) = k

  pub front_split : {s t : State I V} {i : I} {c : Bool} → (st : Step S s i c t) → S.tour ≡ (st.front ++ i ∷ []) ++ st.back
  front_split {i = i} st = st.place ∙ sym (append_assoc st.front (i ∷ []) st.back)

  -- a run stays behind what is idle
  pub run_idle : (xs ys : List I) → S.tour ≡ xs ++ ys → (s u : State I V) (is : List I) → Idle s xs → Run S s is u → Idle u xs
  run_idle xs ys e s u [] h r = subst (λ z. Idle z xs) r h
  run_idle xs ys e s u (i ∷ is) h (t, c, st, r) = run_idle xs ys e t u is (step_idle xs ys e h st) r

  pub run_behind : (xs ys : List I) → S.tour ≡ xs ++ ys → (s u : State I V) (is : List I) → Idle s xs → Run S s is u → (j : I) → In j is → In j xs → ⊥
  run_behind xs ys e s u [] h r j m k = m
  run_behind xs ys e s u (i ∷ is) h (t, c, st, r) j (inl p) k = step_behind xs h st (subst (λ z. In z xs) p k)
  run_behind xs ys e s u (i ∷ is) h (t, c, st, r) j (inr m) k = run_behind xs ys e t u is (step_idle xs ys e h st) r j m k

  pub run_kept : (xs ys : List I) → S.tour ≡ xs ++ ys → (s u : State I V) (is : List I) → Idle s xs → Run S s is u → (j : I) → In j xs → u.value j ≡ s.value j
  run_kept xs ys e s u [] h r j m = ap (λ z. z.value j) (sym r)
  run_kept xs ys e s u (i ∷ is) h (t, c, st, r) j m =
      run_kept xs ys e t u is (step_idle xs ys e h st) r j m
      ∙ st.kept j (λ p. step_behind xs h st (subst (λ z. In z xs) p m))

  at_place : {s t : State I V} {i : I} {c : Bool} → Step S s i c t → In i S.tour
  at_place {i = i} st = subst (λ z. In i z) (sym st.place) (in_right i st.front (i ∷ st.back) (inl refl))

  -- what the equation of the evaluated instance looks at is as it was
  args_kept : {s t : State I V} {i : I} {c : Bool} → Step S s i c t → (a : I) → In a (args S i) → t.value a ≡ s.value a
  args_kept {i = i} st a m = st.kept a (λ e. alone st.front st.back i st.place (subst (λ z. In z st.front) e (o.before st.front st.back i a st.place m)))

  -- values that satisfy every equation are those of a fresh evaluation
  evaluations_agree : (same : I → I → Bool) → ((x y : I) → Decides (same x y) (x ≡ y)) → (w : I → V) → ((j : I) → In j S.tour → w j ≡ result S j w) → (xs ys : List I) → S.tour ≡ xs ++ ys → (v : I → Option V) → ((j : I) → In j xs → v j ≡ Some (w j)) → (j : I) → In j S.tour → evaluations same S ys v j ≡ Some (w j)
  evaluations_agree same law w con xs [] e v h j m = h j (subst (λ z. In j z) (e ∙ append-nil xs) m)
  evaluations_agree same law w con xs (i ∷ ys) e v h j m =
      evaluations_agree same law w con (xs ++ i ∷ []) ys (e ∙ sym (append_assoc xs (i ∷ []) ys)) (put same i (evaluated S v i) v) (λ k n. old k (in_cases k xs (i ∷ []) n)) j m
    where
      here : evaluated S v i ≡ Some (w i)
      here = evaluated_found S i v w (λ a k. h a (o.before xs ys i a e k)) ∙ ap Some (sym (con i (subst (λ z. In i z) (sym e) (in_right i xs (i ∷ ys) (inl refl)))))

      old : (k : I) → In k xs ⊎ In k (i ∷ []) → put same i (evaluated S v i) v k ≡ Some (w k)
      old k (inl n) = put_there same law i (evaluated S v i) v k (λ e'. alone xs ys i e (subst (λ z. In z xs) e' n)) ∙ h k n
      old k (inr (inl p)) = put_here same law i (evaluated S v i) v k p ∙ here ∙ ap (λ z. Some (w z)) (sym p)
      old k (inr (inr n)) = absurd n

  pub fresh_values : (same : I → I → Bool) → ((x y : I) → Decides (same x y) (x ≡ y)) → (s : State I V) → Consistent S s → Idle s S.tour → (j : I) → In j S.tour → fresh same S j ≡ Some (s.value j)
  fresh_values same law s con idle j m =
      evaluations_agree same law s.value (λ k n. con k (o.covers k n) (idle k n)) [] S.tour refl (λ _. None) (λ k n. absurd n) j m

  module _ (dec : Discrete I) where
    -- a step keeps consistency
    pub step_consistent : {s t : State I V} {i : I} {c : Bool} → Step S s i c t → Consistent S s → Consistent S t
    step_consistent {s} {t} {i} {c} st con j m d = go (dec j i)
      where
        here : t.value i ≡ result S i t.value
        here = st.new ∙ result_local S i s.value t.value (λ a k. sym (args_kept st a k))

        quiet : In i (args S j) → t.value i ≡ s.value i
        quiet k = st.same (λ e. d ((st.marks j m).1 (inr (e, k))))

        arg : (a : I) → In a (args S j) → Dec (a ≡ i) → s.value a ≡ t.value a
        arg a k (yes e) = ap s.value e ∙ sym (quiet (subst (λ z. In z (args S j)) e k)) ∙ ap t.value (sym e)
        arg a k (no n) = sym (st.kept a n)

        there : (j ≡ i → ⊥) → t.value j ≡ result S j t.value
        there n = st.kept j n ∙ con j m (λ e. d ((st.marks j m).1 (inl (n, e)))) ∙ result_local S j s.value t.value (λ a k. arg a k (dec a i))

        go : Dec (j ≡ i) → t.value j ≡ result S j t.value
        go (yes e) = subst (λ z. t.value z ≡ result S z t.value) (sym e) here
        go (no n) = there n

    pub run_consistent : (s u : State I V) (is : List I) → Run S s is u → Consistent S s → Consistent S u
    run_consistent s u [] r con = subst (λ z. Consistent S z) r con
    run_consistent s u (i ∷ is) (t, c, st, r) con = run_consistent t u is r (step_consistent st con)

    -- what a run to the end evaluates
    pub run_once : (s u : State I V) (is : List I) → Run S s is u → Apart is
    run_once s u [] r = tt
    run_once s u (i ∷ is) (t, c, st, r) = (
      λ m. run_behind (st.front ++ i ∷ []) st.back (front_split st) t u is (step_front st) r i m (in_right i st.front (i ∷ []) (inl refl)),
      run_once t u is r,
    )

    -- the value found by a step is the last
    run_final : {s t : State I V} {i : I} {c : Bool} → (st : Step S s i c t) → (u : State I V) (is : List I) → Run S t is u → u.value i ≡ t.value i
    run_final {t = t} {i = i} st u is r = run_kept (st.front ++ i ∷ []) st.back (front_split st) t u is (step_front st) r i (in_right i st.front (i ∷ []) (inl refl))

    pub run_only : (s u : State I V) (is : List I) → Run S s is u → (j : I) → In j is → In j S.tour × ((s.owed j ≡ true) ⊎ Moved S s u j)
    run_only s u [] r j m = absurd m
    run_only s u (i ∷ is) (t, c, st, r) j (inl e) = subst (λ z. In z S.tour × ((s.owed z ≡ true) ⊎ Moved S s u z)) (sym e) (at_place st, inl st.due)
    run_only s u (i ∷ is) (t, c, st, r) j (inr m) = let w = run_only t u is r j m in (w.0, go w.0 w.1)
      where
        fin : u.value i ≡ t.value i
        fin = run_final st u is r

        apart : (a : I) → (u.value a ≡ t.value a → ⊥) → Dec (a ≡ i) → u.value a ≡ s.value a → ⊥
        apart a n (yes e) q = n (ap u.value e ∙ fin ∙ ap t.value (sym e))
        apart a n (no k) q = n (q ∙ sym (st.kept a k))

        go : In j S.tour → (t.owed j ≡ true) ⊎ Moved S t u j → (s.owed j ≡ true) ⊎ Moved S s u j
        go h (inl d) = elim ((st.marks j (o.covers j h)).0 d)
            [ inl p ↦ inl p.1 | inr p ↦ inr (i, p.1, λ q. st.differs p.0 (sym fin ∙ q)) ]
        go h (inr (a, k, n)) = inr (a, k, apart a n (dec a i))

    pub run_all : (s u : State I V) (is : List I) → Run S s is u → Idle u S.tour → (j : I) → In j S.tour → (s.owed j ≡ true) ⊎ Moved S s u j → In j is
    run_all s u [] r idle j m (inl d) = idle j m (subst (λ z. z.owed j ≡ true) r d)
    run_all s u [] r idle j m (inr (a, k, n)) = absurd (n (ap (λ z. z.value a) (sym r)))
    run_all s u (i ∷ is) (t, c, st, r) idle j m w = go (dec j i) (λ n. run_all t u is r idle j m (still n w))
      where
        fin : u.value i ≡ t.value i
        fin = run_final st u is r

        arg : (c : Bool) → Step S s i c t → (a : I) → In a (args S j) → (u.value a ≡ s.value a → ⊥) → Dec (a ≡ i) → (t.owed j ≡ true) ⊎ Moved S t u j
        arg true st a k n (yes e) = inl ((st.marks j (o.covers j m)).1 (inr (refl, subst (λ z. In z (args S j)) e k)))
        arg false st a k n (yes e) = absurd (n (ap u.value e ∙ fin ∙ st.same false≢true ∙ ap s.value (sym e)))
        arg c st a k n (no q) = inr (a, k, λ p. n (p ∙ st.kept a q))

        still : (j ≡ i → ⊥) → (s.owed j ≡ true) ⊎ Moved S s u j → (t.owed j ≡ true) ⊎ Moved S t u j
        still n (inl d) = inl ((st.marks j (o.covers j m)).1 (inl (n, d)))
        still n (inr (a, k, q)) = arg c st a k q (dec a i)

        go : Dec (j ≡ i) → ((j ≡ i → ⊥) → In j is) → (j ≡ i) ⊎ In j is
        go (yes e) f = inl e
        go (no n) f = inr (f n)
