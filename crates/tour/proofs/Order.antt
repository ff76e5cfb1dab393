-- Along a plan, and so along the tour of a tree, each instance stands behind its arguments.
use Rattle.std.proofs.Common.{◌≡◌, ℕ, zero, suc, ◌<◌, ◌≤◌, ◌⊎◌, List, [], ◌∷◌, ◌++◌, length, get_or, sym, refl, ap, ◌∙◌, subst, inl, inr, append_assoc, arith}
use Rattle.tour.specs.Runs.{In}
use Rattle.grammar.specs.Model.{Grammar, Rule}
use Rattle.grammar.specs.declared.terms.Instruction.{Instruction}
use Rattle.tour.specs.Rules.{occurs, Has, Takes, rule}
use Rattle.grammar.specs.declared.terms.Instruction.TheVariants.{Evaluate, Visit, Return}
use Rattle.grammar.specs.declared.terms.Flow.TheVariants.{Inherited, Synthesized}
use Rattle.tour.specs.Trees.{Instance, part, segment, lists, listed, Named, Forest, places, at_of, no_visit, visited_of, tours, Agrees, Arguments}
use Rattle.tour.proofs.Lists.{in_left, in_right, in_cases, in_split}
use Rattle.tour.proofs.Segments.{returns_append, returns_cons, returns_part, Cut, cut, return_at, in_part}
use Rattle.std.proofs.lemmas.Bool.{cases_order}
use Rattle.tour.proofs.Ruled.{returns, Grammatical, Planned, Stands}
use Rattle.tour.specs.Trees.Forest.{none, node}

-- each instance of the list stands behind its arguments, or P has them
abbrev pub Ord : (Instance → List Instance) → (Instance → Type 0) → List Instance → Type 0
Ord args P [] = Unit {0}
Ord args P (x ∷ xs) = ((a : Instance) → In a (args x) → P a) × Ord args (λ y. (y ≡ x) ⊎ P y) xs

module _ (args : Instance → List Instance) where
  pub ord_weaker : (P Q : Instance → Type 0) → ((x : Instance) → P x → Q x) → (xs : List Instance) → Ord args P xs → Ord args Q xs
  ord_weaker P Q f [] h = tt
  ord_weaker P Q f (x ∷ xs) (h, k) =
      (λ a m. f a (h a m), ord_weaker (λ y. (y ≡ x) ⊎ P y) (λ y. (y ≡ x) ⊎ Q y) (λ y w. elim w [ inl e ↦ inl e | inr p ↦ inr (f y p) ]) xs k)

  pub ord_append : (P : Instance → Type 0) (xs ys : List Instance) → Ord args P xs → Ord args (λ y. In y xs ⊎ P y) ys → Ord args P (xs ++ ys)
  ord_append P [] ys h k = ord_weaker (λ y. ⊥ ⊎ P y) P (λ y w. elim w [ inl z ↦ absurd z | inr p ↦ p ]) ys k
  ord_append P (x ∷ xs) ys (h, k) l = (
    h,
    ord_append (λ y. (y ≡ x) ⊎ P y) xs ys k
        (ord_weaker (λ y. ((y ≡ x) ⊎ In y xs) ⊎ P y) (λ y. In y xs ⊎ ((y ≡ x) ⊎ P y))
        (λ y w. elim w [ inl (inl e) ↦ inr (inl e) | inl (inr m) ↦ inl m | inr p ↦ inr (inr p) ]) ys l),
  )

-- what the visits of a tree with root p of symbol x promise
pub record Good (σ : Grammar) (args : Instance → List Instance) (x p : ℕ) (vis : ℕ → List Instance) : Type 1 where
  pub order : (j : ℕ) (P : Instance → Type 0) → ((a i : ℕ) → Has σ x a Inherited i → i ≤ j → P (p, a)) → ((i : ℕ) → 1 ≤ i → i < j → (y : Instance) → In y (vis i) → P y) → Ord args P (vis j)
  pub found : (a j : ℕ) → Has σ x a Synthesized j → (i : ℕ) × (1 ≤ i) × (i ≤ j) × In (p, a) (vis i)

module _ (σ : Grammar) (ρ : Rule) (g : Grammatical σ ρ) (pl : Planned σ ρ) (at : ℕ → ℕ) (vis : ℕ → ℕ → List Instance) (args : Instance → List Instance) (named : Named ρ at args) (good : (k : ℕ) → k < length ρ.right → Good σ args (occurs ρ (suc k)) (at (suc k)) (vis (suc k))) where
  -- what is seen when the front of the plan has been gone through
  record Known (P : Instance → Type 0) (pre : List Instruction) : Type 0 where
    evs : (o a : ℕ) → In (Evaluate o a) pre → P (at o, a)
    vss : (k j : ℕ) → In (Visit k j) pre → (x : Instance) → In x (vis k j) → P x
    inh : (a i : ℕ) → Has σ ρ.left a Inherited i → i ≤ suc (returns pre) → P (at 0, a)

  -- a member of the front stands somewhere in it
  inner : (pre post : List Instruction) (i : Instruction) → ρ.plan ≡ pre ++ post → In i pre → (a : List Instruction) × Stands ρ a i × ((x : Instruction) → In x a → In x pre)
  inner pre post i e m =
      let r = in_split i pre m in (
        r.0,
        (r.1 ++ post, e ∙ ap (λ z. z ++ post) r.2 ∙ append_assoc r.0 (i ∷ r.1) post),
        λ x n. subst (λ z. In x z) (sym r.2) (in_left x r.0 (i ∷ r.1) n),
      )

  stands_in : (pre : List Instruction) (i : Instruction) → Stands ρ pre i → In i ρ.plan
  stands_in pre i (post, e) = subst (λ z. In i z) (sym e) (in_right i pre (i ∷ post) (inl refl))

  -- with a visit the earlier ones stand in the front
  visit_down : (pre post : List Instruction) (k j i : ℕ) → ρ.plan ≡ pre ++ post → In (Visit k j) pre → 1 ≤ i → i ≤ j → In (Visit k i) pre
  visit_down pre post k j i e m l h = go (cases_order i j)
    where
      go : (i ≡ j) ⊎ ((i < j) ⊎ (j < i)) → In (Visit k i) pre
      go (inl q) = subst (λ z. In (Visit k z) pre) (sym q) m
      go (inr (inl q)) = let r = inner pre post (Visit k j) e m in r.2 (Visit k i) (pl.visits_in_order r.0 k j i r.1 l q)
      go (inr (inr q)) = absurd (omega arith)

  -- before a visit stand the evaluations of the inherited attributes up to it
  given_before : (pre : List Instruction) (k j a i : ℕ) → Stands ρ pre (Visit k j) → Has σ (occurs ρ k) a Inherited i → i ≤ j → In (Evaluate k a) pre
  given_before pre k j a i st has h = go (cases_order i j)
    where
      go : (i ≡ j) ⊎ ((i < j) ⊎ (j < i)) → In (Evaluate k a) pre
      go (inl q) = pl.visit_after_inherited pre k j a st (subst (λ z. Has σ (occurs ρ k) a Inherited z) q has)
      go (inr (inl q)) =
          let m = pl.visits_in_order pre k j i st (g.visit_low (occurs ρ k) a i Inherited has) q in
          let r = inner pre (Visit k j ∷ st.0) (Visit k i) st.1 m in
          r.2 (Evaluate k a) (pl.visit_after_inherited r.0 k i a r.1 has)
      go (inr (inr q)) = absurd (omega arith)

  -- an instruction lists in order
  lists_ord : (P : Instance → Type 0) (pre : List Instruction) (i : Instruction) → Known P pre → Stands ρ pre i → Ord args P (lists at vis i)
  lists_ord P pre (Evaluate o a) kn st = (λ x m. let r = named o a x (stands_in pre (Evaluate o a) st) m in subst P (sym r.3) (arg r.0 r.1 r.2), tt)
    where
      arg : (p b : ℕ) → Takes ρ o a p b → P (at p, b)
      arg zero b t = let r = g.argument_own o a b t in kn.inh b r.0 r.1 (pl.not_before_segment pre o a b r.0 st t r.1)
      arg (suc k) b t =
          let r = g.argument_right o a k b t in
          let m = pl.after_visit pre o a k b r.1.0 st t r.1.1 in
          let f = (good k r.0).found b r.1.0 r.1.1 in
          kn.vss (suc k) f.0 (visit_down pre (Evaluate o a ∷ st.0) (suc k) r.1.0 f.0 st.1 m f.1 f.2) (at (suc k), b) f.3
  lists_ord P pre (Visit zero j) kn st = absurd (let r = g.visits_there zero j (stands_in pre (Visit zero j) st) in omega arith)
  lists_ord P pre (Visit (suc k) j) kn st =
      (good k (let r = g.visits_there (suc k) j (stands_in pre (Visit (suc k) j) st) in omega arith)).order j P
      (λ a i has h. kn.evs (suc k) a (given_before pre (suc k) j a i st has h))
      (λ i l h y m. kn.vss (suc k) i (pl.visits_in_order pre (suc k) j i st l h) y m)
  lists_ord P pre (Return j) kn st = tt

  known_more : (P : Instance → Type 0) (pre : List Instruction) (i : Instruction) → returns (i ∷ []) ≡ 0 → Known P pre → Known (λ y. In y (lists at vis i) ⊎ P y) (pre ++ i ∷ [])
  known_more P pre i z kn = record {
    evs = λ o a m. elim (in_cases (Evaluate o a) pre (i ∷ []) m) [
      | inl n ↦ inr (kn.evs o a n)
      | inr (inl e) ↦ inl (subst (λ x. In (at o, a) (lists at vis x)) e (inl refl))
      | inr (inr n) ↦ absurd n
    ];
    vss = λ k j m x h. elim (in_cases (Visit k j) pre (i ∷ []) m) [
      | inl n ↦ inr (kn.vss k j n x h)
      | inr (inl e) ↦ inl (subst (λ y. In x (lists at vis y)) e h)
      | inr (inr n) ↦ absurd n
    ];
    inh = λ a j has h. inr (kn.inh a j has (omega (arith, returns_append pre (i ∷ []))));
  }

  part_ord : (pre seg post : List Instruction) → ρ.plan ≡ pre ++ (seg ++ post) → returns seg ≡ 0 → (P : Instance → Type 0) → Known P pre → Ord args P (listed at vis seg)
  part_ord pre [] post e z P kn = tt
  part_ord pre (i ∷ seg) post e z P kn =
      ord_append args P (lists at vis i) (listed at vis seg)
      (lists_ord P pre i kn (seg ++ post, e))
      (part_ord (pre ++ i ∷ []) seg post (e ∙ sym (append_assoc pre (i ∷ []) (seg ++ post))) (omega (arith, returns_cons i seg))
      (λ y. In y (lists at vis i) ⊎ P y) (known_more P pre i (omega (arith, returns_cons i seg)) kn))

  in_listed : (x : Instance) (i : Instruction) (is : List Instruction) → In i is → In x (lists at vis i) → In x (listed at vis is)
  in_listed x i [] m h = absurd m
  in_listed x i (y ∷ is) (inl e) h = in_left x (lists at vis y) (listed at vis is) (subst (λ z. In x (lists at vis z)) e h)
  in_listed x i (y ∷ is) (inr m) h = in_right x (lists at vis y) (listed at vis is) (in_listed x i is m h)

  node_order : (j : ℕ) (P : Instance → Type 0) → ((a i : ℕ) → Has σ ρ.left a Inherited i → i ≤ j → P (at 0, a)) → ((i : ℕ) → 1 ≤ i → i < j → (y : Instance) → In y (listed at vis (segment i ρ.plan)) → P y) → Ord args P (listed at vis (segment j ρ.plan))
  node_order zero P inh old = tt
  node_order (suc k) P inh old = part_ord c.pre (part k ρ.plan) c.post c.whole (returns_part k ρ.plan) P known
    where
      c : Cut k ρ.plan
      c = cut k ρ.plan

      known : Known P c.pre
      known = record {
        evs = λ o a m. let r = c.earlier (Evaluate o a) refl m in old (suc r.0) (omega arith) (omega (arith, r.1)) (at o, a) (in_listed (at o, a) (Evaluate o a) (part r.0 ρ.plan) r.2 (inl refl));
        vss = λ q j m x h. let r = c.earlier (Visit q j) refl m in old (suc r.0) (omega arith) (omega (arith, r.1)) x (in_listed x (Visit q j) (part r.0 ρ.plan) r.2 h);
        inh = λ a i has h. inh a i has (omega (arith, c.few));
      }

  node_found : (a j : ℕ) → Has σ ρ.left a Synthesized j → (i : ℕ) × (1 ≤ i) × (i ≤ j) × In (at 0, a) (listed at vis (segment i ρ.plan))
  node_found a zero has = absurd (omega (arith, g.visit_low ρ.left a zero Synthesized has))
  node_found a (suc k) has =
      let r = return_at k ρ.plan (omega (arith, g.visit_high ρ.left a (suc k) Synthesized has, pl.returns_all)) in
      let q : r.1 ≡ suc k = pl.returns_in_order r.0 r.1 (r.2, r.3) ∙ ap suc r.4 in
      let m = pl.return_after_synthesized r.0 (suc k) a (r.2, r.3 ∙ ap (λ z. r.0 ++ Return z ∷ r.2) q) has in
      let f = in_part (Evaluate 0 a) refl r.0 (Return r.1 ∷ r.2) m in
      (suc f.0, omega arith, omega (arith, f.1, r.4), in_listed (at 0, a) (Evaluate 0 a) (part f.0 ρ.plan) (subst (λ z. In (Evaluate 0 a) (part f.0 z)) (sym r.3) f.2) (inl refl))

  pub node_good : Good σ args ρ.left (at 0) (λ j. listed at vis (segment j ρ.plan))
  node_good = record { order = node_order; found = node_found }

module _ (σ : Grammar) (accepted : (r : ℕ) → r < length σ.rules → Grammatical σ (rule σ r) × Planned σ (rule σ r)) (args : Instance → List Instance) where
  pub forest_good : (f : Forest) (xs : List ℕ) → Agrees σ f xs → Arguments σ args f → (k : ℕ) → k < length xs → Good σ args (get_or xs k 0) (get_or (places f) k 0) (get_or (tours σ f) k no_visit)
  forest_good none [] ag na k h = absurd (omega arith)
  forest_good none (x ∷ xs) ag na k h = absurd ag
  forest_good (node p r c kids rest) [] ag na k h = absurd ag
  forest_good (node p r c kids rest) (x ∷ xs) (l, e, ag, ag') (nm, na, na') zero h =
      subst (λ z. Good σ args z p (get_or (tours σ (node p r c kids rest)) 0 no_visit)) e
      (node_good σ (rule σ r) (accepted r l).0 (accepted r l).1 (at_of p (places kids)) (visited_of (tours σ kids)) args nm
      (forest_good kids (rule σ r).right ag na))
  forest_good (node p r c kids rest) (x ∷ xs) (l, e, ag, ag') (nm, na, na') (suc k) h = forest_good rest xs ag' na' k (omega arith)

-- in order along a list: at each split the arguments stand before
pub ord_before : (args : Instance → List Instance) (P : Instance → Type 0) (xs ys : List Instance) (x a : Instance) → Ord args P (xs ++ x ∷ ys) → In a (args x) → In a xs ⊎ P a
ord_before args P [] ys x a h m = inr (h.0 a m)
ord_before args P (z ∷ xs) ys x a h m = elim (ord_before args (λ y. (y ≡ z) ⊎ P y) xs ys x a h.1 m)
    [ inl n ↦ inl (inr n) | inr (inl e) ↦ inl (inl e) | inr (inr p) ↦ inr p ]
