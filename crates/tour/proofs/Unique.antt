-- Two runs from one state go the same way.
use Rattle.std.proofs.Common.{◌≡◌, Bool, true, false, ◌⊎◌, List, [], ◌∷◌, ◌++◌, length, sym, refl, ap, ◌∙◌, subst, inl, inr, arith}
use mathlib.Core.Bool.{false≢true}
use Rattle.tour.specs.Runs.{In, System, args, State, Ordered, Step, Run, Alike}
use Rattle.tour.proofs.Lists.{in_left, in_right, head_same, tail_same}
use Rattle.tour.proofs.Sources.{result_local}

-- the first that passes is one
first_one : {X : Type 0} (P : X → Type 0) (xs us ys vs : List X) (i j : X) → xs ++ i ∷ ys ≡ us ++ j ∷ vs → ((x : X) → In x xs → P x → ⊥) → ((x : X) → In x us → P x → ⊥) → P i → P j → i ≡ j
first_one P [] [] ys vs i j e f g p q = head_same i j ys vs e
first_one P [] (u ∷ us) ys vs i j e f g p q = absurd (g u (inl refl) (subst P (head_same i u ys (us ++ j ∷ vs) e) p))
first_one P (x ∷ xs) [] ys vs i j e f g p q = absurd (f x (inl refl) (subst P (sym (head_same x j (xs ++ i ∷ ys) vs e)) q))
first_one P (x ∷ xs) (u ∷ us) ys vs i j e f g p q = first_one P xs us ys vs i j (tail_same x u (xs ++ i ∷ ys) (us ++ j ∷ vs) e) (λ z m. f z (inr m)) (λ z m. g z (inr m)) p q

module _ {I V : Type 0} (dec : Discrete I) (S : System I V) (o : Ordered S) where
  same_changed : (c d : Bool) {s t s' t' : State I V} {i : I} → Step S s i c t → Step S s' i d t' → s.value i ≡ s'.value i → t.value i ≡ t'.value i → c ≡ d
  same_changed true true p q e f = refl
  same_changed false false p q e f = refl
  same_changed true false p q e f = absurd (p.differs refl (f ∙ q.same false≢true ∙ sym e))
  same_changed false true p q e f = absurd (q.differs refl (sym f ∙ p.same false≢true ∙ e))

  pub step_instance : {s t s' t' : State I V} {i j : I} {c d : Bool} → Alike S s s' → Step S s i c t → Step S s' j d t' → i ≡ j
  step_instance {s} {t} {s'} {t'} {i} {j} al p q =
      first_one (λ x. s.owed x ≡ true) p.front q.front p.back q.back i j (sym p.place ∙ q.place) p.first
      (λ x m h. q.first x m ((al.marks x (o.covers x (subst (λ z. In x z) (sym q.place) (in_left x q.front (j ∷ q.back) m)))).0 h))
      p.due ((al.marks j (o.covers j (subst (λ z. In j z) (sym q.place) (in_right j q.front (j ∷ q.back) (inl refl))))).1 q.due)

  step_alike : {s t s' t' : State I V} {i : I} {c d : Bool} → Alike S s s' → Step S s i c t → Step S s' i d t' → (c ≡ d) × Alike S t t'
  step_alike {s} {t} {s'} {t'} {i} {c} {d} al p q = (ch, record { values = λ j. val j (dec j i); marks = λ j m. (λ h. (q.marks j m).1 (to j m ((p.marks j m).0 h)), λ h. (p.marks j m).1 (from j m ((q.marks j m).0 h))) })
    where
      new : t.value i ≡ t'.value i
      new = p.new ∙ result_local S i s.value s'.value (λ a m. al.values a) ∙ sym q.new

      ch : c ≡ d
      ch = same_changed c d p q (al.values i) new

      val : (j : I) → Dec (j ≡ i) → t.value j ≡ t'.value j
      val j (yes e) = ap t.value e ∙ new ∙ ap t'.value (sym e)
      val j (no n) = p.kept j n ∙ al.values j ∙ sym (q.kept j n)

      to : (j : I) → In j S.scope → ((j ≡ i → ⊥) × (s.owed j ≡ true)) ⊎ ((c ≡ true) × In i (args S j)) → ((j ≡ i → ⊥) × (s'.owed j ≡ true)) ⊎ ((d ≡ true) × In i (args S j))
      to j m (inl (n, h)) = inl (n, (al.marks j m).0 h)
      to j m (inr (e, h)) = inr (sym ch ∙ e, h)

      from : (j : I) → In j S.scope → ((j ≡ i → ⊥) × (s'.owed j ≡ true)) ⊎ ((d ≡ true) × In i (args S j)) → ((j ≡ i → ⊥) × (s.owed j ≡ true)) ⊎ ((c ≡ true) × In i (args S j))
      from j m (inl (n, h)) = inl (n, (al.marks j m).1 h)
      from j m (inr (e, h)) = inr (ch ∙ e, h)

  -- as many steps from the same state evaluate the same and come to the same
  pub run_one : (s u s' u' : State I V) (is js : List I) → Alike S s s' → Run S s is u → Run S s' js u' → length is ≡ length js → (is ≡ js) × Alike S u u'
  run_one s u s' u' [] [] al r r' e = (refl, subst (λ z. Alike S z u') r (subst (λ z. Alike S s z) r' al))
  run_one s u s' u' [] (j ∷ js) al r r' e = absurd (omega arith)
  run_one s u s' u' (i ∷ is) [] al r r' e = absurd (omega arith)
  run_one s u s' u' (i ∷ is) (j ∷ js) al (t, c, st, r) (t', d, st', r') e =
      let f : i ≡ j = step_instance al st st' in
      let a = step_alike al st (subst (λ z. Step S s' z d t') (sym f) st') in
      let w = run_one t u t' u' is js a.1 r r' (omega arith) in
      (cc (f, w.0), w.1)
