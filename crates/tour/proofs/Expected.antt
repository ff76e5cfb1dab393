-- The instructions of a plan are those that its rule asks for, each once.
use Rattle.std.proofs.Common.{◌≡◌, ℕ, zero, suc, ◌+◌, ◌<◌, ◌≤◌, Bool, true, false, cond, ◌⊎◌, List, [], ◌∷◌, ◌++◌, map, length, get_or, sym, refl, ap, ◌∙◌, subst, inl, inr, append_assoc, add-zero, zero-add, arith}
use Rattle.grammar.specs.Scopes.{same_flow}
use Rattle.plans.specs.PlanTests.{numbers_from}
use Rattle.tour.specs.Runs.{In, Apart}
use Rattle.grammar.specs.Model.{Grammar, Rule}
use Rattle.grammar.specs.declared.terms.Instruction.{Instruction}
use Rattle.grammar.specs.declared.terms.Attribute.{Attribute}
use Rattle.grammar.specs.declared.terms.Flow.{Flow}
use Rattle.tour.specs.Rules.{no_attribute, symbol, Has}
use Rattle.grammar.specs.declared.terms.Instruction.TheVariants.{Evaluate, Visit, Return}
use Rattle.grammar.specs.declared.terms.Flow.TheVariants.{Inherited, Synthesized}
use Rattle.tour.proofs.Ruled.Defines.{own, given}
use Rattle.tour.proofs.Lists.{in_left, in_right, in_cases, in_split, in_map, map_in, apart_map}
use Rattle.tour.proofs.Sums.{apart_append}
use Rattle.tour.proofs.Segments.{returns_append, return_at}
use Rattle.std.proofs.lemmas.Bool.{cases_order}
use Rattle.tour.proofs.Ruled.{returns, Defines, Grammatical, Planned, Stands}

pub upto_in : (m i n : ℕ) → In m (numbers_from i n) → (i ≤ m) × (m < i + n)
upto_in m i zero h = absurd h
upto_in m i (suc n) (inl e) = (omega arith, omega arith)
upto_in m i (suc n) (inr h) = let r = upto_in m (suc i) n h in (omega arith, omega arith)

pub in_upto : (m i n : ℕ) → i ≤ m → m < i + n → In m (numbers_from i n)
in_upto m i zero l h = absurd (omega arith)
in_upto m i (suc n) l h = go (cases_order m i) (λ k. in_upto m (suc i) n k (omega arith))
  where
    go : (m ≡ i) ⊎ ((m < i) ⊎ (i < m)) → (i < m → In m (numbers_from (suc i) n)) → (m ≡ i) ⊎ In m (numbers_from (suc i) n)
    go (inl e) f = inl e
    go (inr (inl k)) f = absurd (omega arith)
    go (inr (inr k)) f = inr (f k)

pub apart_upto : (i n : ℕ) → Apart (numbers_from i n)
apart_upto i zero = tt
apart_upto i (suc n) = ((λ m. let r = upto_in i (suc i) n m in omega arith), apart_upto (suc i) n)

pub is_flow_true : (k l : Flow) → same_flow k l ≡ true → l ≡ k
is_flow_true Inherited Inherited e = refl
is_flow_true Inherited Synthesized e = absurd (mathlib.Core.Bool.false≢true e)
is_flow_true Synthesized Inherited e = absurd (mathlib.Core.Bool.false≢true e)
is_flow_true Synthesized Synthesized e = refl

is_flow_same : (k l : Flow) → l ≡ k → same_flow k l ≡ true
is_flow_same k l e = subst (λ z. same_flow k z ≡ true) (sym e) (self k)
  where
    self : (k : Flow) → same_flow k k ≡ true
    self Inherited = refl
    self Synthesized = refl

-- the numbers, from i on, of the attributes of a flow
abbrev pub indices : Flow → ℕ → List Attribute → List ℕ
indices k i [] = []
indices k i (a ∷ bs) = cond (same_flow k a.flow) (i ∷ indices k (suc i) bs) (indices k (suc i) bs)

pub indices_in : (k : Flow) (n i : ℕ) (bs : List Attribute) → In n (indices k i bs) → (m : ℕ) × (n ≡ i + m) × (m < length bs) × ((get_or bs m no_attribute).flow ≡ k)
indices_in k n i [] h = absurd h
indices_in k n i (a ∷ bs) h = go (same_flow k a.flow) refl h (λ m. indices_in k n (suc i) bs m)
  where
    more : (m : ℕ) × (n ≡ suc i + m) × (m < length bs) × ((get_or bs m no_attribute).flow ≡ k) → (m : ℕ) × (n ≡ i + m) × (m < length (a ∷ bs)) × ((get_or (a ∷ bs) m no_attribute).flow ≡ k)
    more (m, e, l, q) = (suc m, omega arith, omega arith, q)

    go : (b : Bool) → same_flow k a.flow ≡ b → In n (cond b (i ∷ indices k (suc i) bs) (indices k (suc i) bs)) → (In n (indices k (suc i) bs) → (m : ℕ) × (n ≡ suc i + m) × (m < length bs) × ((get_or bs m no_attribute).flow ≡ k)) → (m : ℕ) × (n ≡ i + m) × (m < length (a ∷ bs)) × ((get_or (a ∷ bs) m no_attribute).flow ≡ k)
    go true e (inl q) f = (zero, omega arith, omega arith, is_flow_true k a.flow e)
    go true e (inr m) f = more (f m)
    go false e m f = more (f m)

pub in_indices : (k : Flow) (m i : ℕ) (bs : List Attribute) → m < length bs → (get_or bs m no_attribute).flow ≡ k → In (i + m) (indices k i bs)
in_indices k m i [] l e = absurd (omega arith)
in_indices k zero i (a ∷ bs) l e =
    subst (λ b. In (i + 0) (cond b (i ∷ indices k (suc i) bs) (indices k (suc i) bs))) (sym (is_flow_same k a.flow e)) (inl (add-zero i))
in_indices k (suc m) i (a ∷ bs) l e = go (same_flow k a.flow) (subst (λ z. In z (indices k (suc i) bs)) (omega arith) (in_indices k m (suc i) bs (omega arith) e))
  where
    go : (b : Bool) → In (i + suc m) (indices k (suc i) bs) → In (i + suc m) (cond b (i ∷ indices k (suc i) bs) (indices k (suc i) bs))
    go true h = inr h
    go false h = h

pub apart_indices : (k : Flow) (i : ℕ) (bs : List Attribute) → Apart (indices k i bs)
apart_indices k i [] = tt
apart_indices k i (a ∷ bs) = go (same_flow k a.flow) (apart_indices k (suc i) bs)
  where
    go : (b : Bool) → Apart (indices k (suc i) bs) → Apart (cond b (i ∷ indices k (suc i) bs) (indices k (suc i) bs))
    go true h = ((λ m. let r = indices_in k i (suc i) bs m in omega (arith, r.1)), h)
    go false h = h

module _ (σ : Grammar) where
  abbrev pub numbers : Flow → ℕ → List ℕ
  numbers k x = indices k 0 (symbol σ x).attributes

  pub numbers_in : (k : Flow) (x a : ℕ) → In a (numbers k x) → (j : ℕ) × Has σ x a k j
  numbers_in k x a m =
      let r = indices_in k a 0 (symbol σ x).attributes m in
      let e : a ≡ r.0 = r.1 ∙ zero-add r.0 in
      let at : Attribute = get_or (symbol σ x).attributes r.0 no_attribute in
      (at.visit, subst (λ z. Has σ x z k at.visit) (sym e) (r.2, ap (λ q. record { flow = q; visit = at.visit }) r.3))

  pub in_numbers : (k : Flow) (x a j : ℕ) → Has σ x a k j → In a (numbers k x)
  in_numbers k x a j (l, e) = subst (λ z. In z (numbers k x)) (zero-add a) (in_indices k a 0 (symbol σ x).attributes l (ap (λ q. q.flow) e))

  -- the instructions that the right occurrences want, from occurrence k on
  abbrev pub gives : ℕ → List ℕ → List Instruction
  gives k [] = []
  gives k (x ∷ xs) = map (Evaluate k) (numbers Inherited x) ++ (map (Visit k) (numbers_from 1 (symbol σ x).visits) ++ gives (suc k) xs)

  abbrev pub expected : Rule → List Instruction
  expected ρ = map Return (numbers_from 1 (symbol σ ρ.left).visits) ++ (map (Evaluate 0) (numbers Synthesized ρ.left) ++ gives 1 ρ.right)

  abbrev pub occ : Instruction → ℕ
  occ (Evaluate o a) = o
  occ (Visit k j) = k
  occ (Return j) = 0

  abbrev pub num : Instruction → ℕ
  num (Evaluate o a) = a
  num (Visit k j) = j
  num (Return j) = j

  abbrev pub tag : Instruction → ℕ
  tag (Evaluate o a) = 1
  tag (Visit k j) = 2
  tag (Return j) = 0

  pub gives_in : (i : Instruction) (k : ℕ) (xs : List ℕ) → In i (gives k xs) → (m : ℕ) × (m < length xs) × (((a : ℕ) × In a (numbers Inherited (get_or xs m 0)) × (i ≡ Evaluate (k + m) a)) ⊎ ((j : ℕ) × In j (numbers_from 1 (symbol σ (get_or xs m 0)).visits) × (i ≡ Visit (k + m) j)))
  gives_in i k [] h = absurd h
  gives_in i k (x ∷ xs) h = go (in_cases i (map (Evaluate k) (numbers Inherited x)) (map (Visit k) (numbers_from 1 (symbol σ x).visits) ++ gives (suc k) xs) h) (gives_in i (suc k) xs)
    where
      Out : List ℕ → ℕ → ℕ → Type 0
      Out ys l m = ((a : ℕ) × In a (numbers Inherited (get_or ys m 0)) × (i ≡ Evaluate (l + m) a)) ⊎ ((j : ℕ) × In j (numbers_from 1 (symbol σ (get_or ys m 0)).visits) × (i ≡ Visit (l + m) j))

      same : k ≡ k + 0
      same = omega arith

      shift : (m : ℕ) → suc k + m ≡ k + suc m
      shift m = omega arith

      more : (m : ℕ) × (m < length xs) × Out xs (suc k) m → (m : ℕ) × (m < length (x ∷ xs)) × Out (x ∷ xs) k m
      more (m, l, inl (a, n, e)) = (suc m, omega arith, inl (a, n, e ∙ ap (λ z. Evaluate z a) (shift m)))
      more (m, l, inr (a, n, e)) = (suc m, omega arith, inr (a, n, e ∙ ap (λ z. Visit z a) (shift m)))

      next : In i (map (Visit k) (numbers_from 1 (symbol σ x).visits)) ⊎ In i (gives (suc k) xs) → (In i (gives (suc k) xs) → (m : ℕ) × (m < length xs) × Out xs (suc k) m) → (m : ℕ) × (m < length (x ∷ xs)) × Out (x ∷ xs) k m
      next (inl m) f = let r = map_in (Visit k) i (numbers_from 1 (symbol σ x).visits) m in (zero, omega arith, inr (r.0, r.1, r.2 ∙ ap (λ z. Visit z r.0) same))
      next (inr m) f = more (f m)

      go : In i (map (Evaluate k) (numbers Inherited x)) ⊎ In i (map (Visit k) (numbers_from 1 (symbol σ x).visits) ++ gives (suc k) xs) → (In i (gives (suc k) xs) → (m : ℕ) × (m < length xs) × Out xs (suc k) m) → (m : ℕ) × (m < length (x ∷ xs)) × Out (x ∷ xs) k m
      go (inl m) f = let r = map_in (Evaluate k) i (numbers Inherited x) m in (zero, omega arith, inl (r.0, r.1, r.2 ∙ ap (λ z. Evaluate z r.0) same))
      go (inr m) f = next (in_cases i (map (Visit k) (numbers_from 1 (symbol σ x).visits)) (gives (suc k) xs) m) f

  gives_low : (i : Instruction) (k : ℕ) (xs : List ℕ) → In i (gives k xs) → k ≤ occ i
  gives_low i k xs h = let r = gives_in i k xs h in
      elim r.2 [ inl q ↦ subst (λ z. k ≤ occ z) (sym q.2) (omega arith) | inr q ↦ subst (λ z. k ≤ occ z) (sym q.2) (omega arith) ]

  -- in them stand the evaluations of inherited attributes and the visits
  gives_evaluate : (k m a : ℕ) (xs : List ℕ) → m < length xs → In a (numbers Inherited (get_or xs m 0)) → In (Evaluate (k + m) a) (gives k xs)
  gives_evaluate k m a [] l h = absurd (omega arith)
  gives_evaluate k zero a (x ∷ xs) l h = in_left (Evaluate (k + 0) a) (map (Evaluate k) (numbers Inherited x)) (map (Visit k) (numbers_from 1 (symbol σ x).visits) ++ gives (suc k) xs) (subst (λ z. In (Evaluate z a) (map (Evaluate k) (numbers Inherited x))) (sym (add-zero k)) (in_map (Evaluate k) a (numbers Inherited x) h))
  gives_evaluate k (suc m) a (x ∷ xs) l h =
      let w : In (Evaluate (k + suc m) a) (gives (suc k) xs) = subst (λ z. In (Evaluate z a) (gives (suc k) xs)) (omega arith) (gives_evaluate (suc k) m a xs (omega arith) h) in
      in_right (Evaluate (k + suc m) a) (map (Evaluate k) (numbers Inherited x)) (map (Visit k) (numbers_from 1 (symbol σ x).visits) ++ gives (suc k) xs) (in_right (Evaluate (k + suc m) a) (map (Visit k) (numbers_from 1 (symbol σ x).visits)) (gives (suc k) xs) w)

  pub gives_visit : (k m j : ℕ) (xs : List ℕ) → m < length xs → In j (numbers_from 1 (symbol σ (get_or xs m 0)).visits) → In (Visit (k + m) j) (gives k xs)
  gives_visit k m j [] l h = absurd (omega arith)
  gives_visit k zero j (x ∷ xs) l h = in_right (Visit (k + 0) j) (map (Evaluate k) (numbers Inherited x)) (map (Visit k) (numbers_from 1 (symbol σ x).visits) ++ gives (suc k) xs) (in_left (Visit (k + 0) j) (map (Visit k) (numbers_from 1 (symbol σ x).visits)) (gives (suc k) xs) (subst (λ z. In (Visit z j) (map (Visit k) (numbers_from 1 (symbol σ x).visits))) (sym (add-zero k)) (in_map (Visit k) j (numbers_from 1 (symbol σ x).visits) h)))
  gives_visit k (suc m) j (x ∷ xs) l h =
      let w : In (Visit (k + suc m) j) (gives (suc k) xs) = subst (λ z. In (Visit z j) (gives (suc k) xs)) (omega arith) (gives_visit (suc k) m j xs (omega arith) h) in
      in_right (Visit (k + suc m) j) (map (Evaluate k) (numbers Inherited x)) (map (Visit k) (numbers_from 1 (symbol σ x).visits) ++ gives (suc k) xs) (in_right (Visit (k + suc m) j) (map (Visit k) (numbers_from 1 (symbol σ x).visits)) (gives (suc k) xs) w)

  pub mapped : (f : ℕ → Instruction) (g : Instruction → ℕ) (v : ℕ) → ((n : ℕ) → g (f n) ≡ v) → (i : Instruction) (ns : List ℕ) → In i (map f ns) → g i ≡ v
  mapped f g v e i ns m = let r = map_in f i ns m in ap g r.2 ∙ e r.0

  apart_gives : (k : ℕ) (xs : List ℕ) → Apart (gives k xs)
  apart_gives k [] = tt
  apart_gives k (x ∷ xs) =
      apart_append (map (Evaluate k) (numbers Inherited x)) (map (Visit k) (numbers_from 1 (symbol σ x).visits) ++ gives (suc k) xs)
      (apart_map (Evaluate k) num (λ y. refl) (numbers Inherited x) (apart_indices Inherited 0 (symbol σ x).attributes))
      (apart_append (map (Visit k) (numbers_from 1 (symbol σ x).visits)) (gives (suc k) xs)
      (apart_map (Visit k) num (λ y. refl) (numbers_from 1 (symbol σ x).visits) (apart_upto 1 (symbol σ x).visits))
      (apart_gives (suc k) xs)
      (λ i m n. omega (arith, mapped (Visit k) occ k (λ y. refl) i (numbers_from 1 (symbol σ x).visits) m, gives_low i (suc k) xs n)))
      (λ i m n. elim (in_cases i (map (Visit k) (numbers_from 1 (symbol σ x).visits)) (gives (suc k) xs) n) [
        | inl q ↦ omega (arith, mapped (Evaluate k) tag 1 (λ y. refl) i (numbers Inherited x) m, mapped (Visit k) tag 2 (λ y. refl) i (numbers_from 1 (symbol σ x).visits) q)
        | inr q ↦ omega (arith, mapped (Evaluate k) occ k (λ y. refl) i (numbers Inherited x) m, gives_low i (suc k) xs q)
      ])

  pub apart_expected : (ρ : Rule) → Apart (expected ρ)
  apart_expected ρ =
      apart_append (map Return (numbers_from 1 n)) (map (Evaluate 0) (numbers Synthesized ρ.left) ++ gives 1 ρ.right)
      (apart_map Return num (λ y. refl) (numbers_from 1 n) (apart_upto 1 n))
      (apart_append (map (Evaluate 0) (numbers Synthesized ρ.left)) (gives 1 ρ.right)
      (apart_map (Evaluate 0) num (λ y. refl) (numbers Synthesized ρ.left) (apart_indices Synthesized 0 (symbol σ ρ.left).attributes))
      (apart_gives 1 ρ.right)
      (λ i m k. omega (arith, mapped (Evaluate 0) occ 0 (λ y. refl) i (numbers Synthesized ρ.left) m, gives_low i 1 ρ.right k)))
      (λ i m k. elim (in_cases i (map (Evaluate 0) (numbers Synthesized ρ.left)) (gives 1 ρ.right) k) [
        | inl q ↦ omega (arith, mapped Return tag 0 (λ y. refl) i (numbers_from 1 n) m, mapped (Evaluate 0) tag 1 (λ y. refl) i (numbers Synthesized ρ.left) q)
        | inr q ↦ omega (arith, mapped Return occ 0 (λ y. refl) i (numbers_from 1 n) m, gives_low i 1 ρ.right q)
      ])
    where
      n : ℕ
      n = (symbol σ ρ.left).visits

  pub defined_expected : (ρ : Rule) (o a : ℕ) → Defines σ ρ o a → In (Evaluate o a) (map (Evaluate 0) (numbers Synthesized ρ.left) ++ gives 1 ρ.right)
  defined_expected ρ _ a (own {j = j} h) = in_left (Evaluate 0 a) (map (Evaluate 0) (numbers Synthesized ρ.left)) (gives 1 ρ.right) (in_map (Evaluate 0) a (numbers Synthesized ρ.left) (in_numbers Synthesized ρ.left a j h))
  defined_expected ρ _ a (given {k = k} {j = j} l h) = in_right (Evaluate (suc k) a) (map (Evaluate 0) (numbers Synthesized ρ.left)) (gives 1 ρ.right) (subst (λ z. In (Evaluate z a) (gives 1 ρ.right)) (omega arith) (gives_evaluate 1 k a ρ.right l (in_numbers Inherited (get_or ρ.right k 0) a j h)))

  module _ (ρ : Rule) (g : Grammatical σ ρ) (pl : Planned σ ρ) where
    pub expected_planned : (i : Instruction) → In i (expected ρ) → In i ρ.plan
    expected_planned i m = go (in_cases i (map Return (numbers_from 1 n)) (map (Evaluate 0) (numbers Synthesized ρ.left) ++ gives 1 ρ.right) m)
      where
        n : ℕ
        n = (symbol σ ρ.left).visits

        one_more : (m : ℕ) → 1 + m ≡ suc m
        one_more m = omega arith

        back : (j : ℕ) → In j (numbers_from 1 n) → In (Return j) ρ.plan
        back zero h = absurd (omega (arith, upto_in 0 1 n h))
        back (suc k) h =
            let b = upto_in (suc k) 1 n h in
            let r = return_at k ρ.plan (omega (arith, pl.returns_all, b.1)) in
            let q : r.1 ≡ suc k = pl.returns_in_order r.0 r.1 (r.2, r.3) ∙ ap suc r.4 in
            subst (λ z. In (Return (suc k)) z) (sym r.3) (in_right (Return (suc k)) r.0 (Return r.1 ∷ r.2) (inl (ap Return (sym q))))

        kid : (m : ℕ) × (m < length ρ.right) × (((a : ℕ) × In a (numbers Inherited (get_or ρ.right m 0)) × (i ≡ Evaluate (1 + m) a)) ⊎ ((j : ℕ) × In j (numbers_from 1 (symbol σ (get_or ρ.right m 0)).visits) × (i ≡ Visit (1 + m) j))) → In i ρ.plan
        kid (m, l, inl (a, h, e)) =
            let w = numbers_in Inherited (get_or ρ.right m 0) a h in
            subst (λ z. In z ρ.plan) (sym (e ∙ ap (λ z. Evaluate z a) (one_more m))) (pl.evaluates_all (suc m) a (given l w.1))
        kid (m, l, inr (j, h, e)) =
            let b = upto_in j 1 (symbol σ (get_or ρ.right m 0)).visits h in
            subst (λ z. In z ρ.plan) (sym (e ∙ ap (λ z. Visit z j) (one_more m))) (pl.visits_all (suc m) j (omega arith) l b.0 (omega (arith, b.1)))

        next : In i (map (Evaluate 0) (numbers Synthesized ρ.left)) ⊎ In i (gives 1 ρ.right) → In i ρ.plan
        next (inl h) = let r = map_in (Evaluate 0) i (numbers Synthesized ρ.left) h in subst (λ z. In z ρ.plan) (sym r.2) (pl.evaluates_all 0 r.0 (own (numbers_in Synthesized ρ.left r.0 r.1).1))
        next (inr h) = kid (gives_in i 1 ρ.right h)

        go : In i (map Return (numbers_from 1 n)) ⊎ In i (map (Evaluate 0) (numbers Synthesized ρ.left) ++ gives 1 ρ.right) → In i ρ.plan
        go (inl h) = let r = map_in Return i (numbers_from 1 n) h in subst (λ z. In z ρ.plan) (sym r.2) (back r.0 r.1)
        go (inr h) = next (in_cases i (map (Evaluate 0) (numbers Synthesized ρ.left)) (gives 1 ρ.right) h)

    pub planned_expected : (i : Instruction) → In i ρ.plan → In i (expected ρ)
    planned_expected (Return j) m =
        let r = in_split (Return j) ρ.plan m in
        let e = pl.returns_in_order r.0 j (r.1, r.2) in
        let c : returns ρ.plan ≡ returns r.0 + suc (returns r.1) = ap returns r.2 ∙ returns_append r.0 (Return j ∷ r.1) in
        in_left (Return j) (map Return (numbers_from 1 n)) (map (Evaluate 0) (numbers Synthesized ρ.left) ++ gives 1 ρ.right) (in_map Return j (numbers_from 1 n) (in_upto j 1 n (omega arith) (omega (arith, pl.returns_all))))
      where
        n : ℕ
        n = (symbol σ ρ.left).visits
    planned_expected (Evaluate o a) m = in_right (Evaluate o a) (map Return (numbers_from 1 (symbol σ ρ.left).visits)) (map (Evaluate 0) (numbers Synthesized ρ.left) ++ gives 1 ρ.right) (defined_expected ρ o a (pl.evaluates_only o a m))
    planned_expected (Visit zero j) m = absurd (let r = g.visits_there zero j m in omega arith)
    planned_expected (Visit (suc k) j) m =
        let r = g.visits_there (suc k) j m in
        in_right (Visit (suc k) j) (map Return (numbers_from 1 (symbol σ ρ.left).visits)) (map (Evaluate 0) (numbers Synthesized ρ.left) ++ gives 1 ρ.right)
        (in_right (Visit (suc k) j) (map (Evaluate 0) (numbers Synthesized ρ.left)) (gives 1 ρ.right)
        (subst (λ z. In (Visit z j) (gives 1 ρ.right)) (omega arith) (gives_visit 1 k j ρ.right (omega arith) (in_upto j 1 (symbol σ (get_or ρ.right k 0)).visits (omega arith) (omega arith)))))

    -- no instruction stands twice
    fronts_apart : (is : List Instruction) → ((pre post : List Instruction) (i : Instruction) → is ≡ pre ++ i ∷ post → In i pre → ⊥) → Apart is
    fronts_apart [] f = tt
    fronts_apart (i ∷ is) f = (
      (λ m. let r = in_split i is m in f (i ∷ r.0) r.1 i (ap (λ z. i ∷ z) r.2) (inl refl)),
      fronts_apart is (λ pre post j e m. f (i ∷ pre) post j (ap (λ z. i ∷ z) e) (inr m)),
    )

    return_once : (pre : List Instruction) (j : ℕ) → Stands ρ pre (Return j) → In (Return j) pre → ⊥
    return_once pre j (post, e) m =
        let r = in_split (Return j) pre m in
        let s : ρ.plan ≡ r.0 ++ Return j ∷ (r.1 ++ Return j ∷ post) = e ∙ ap (λ z. z ++ Return j ∷ post) r.2 ∙ append_assoc r.0 (Return j ∷ r.1) (Return j ∷ post) in
        let a = pl.returns_in_order pre j (post, e) in
        let b = pl.returns_in_order r.0 j (r.1 ++ Return j ∷ post, s) in
        let c : returns pre ≡ returns r.0 + suc (returns r.1) = ap returns r.2 ∙ returns_append r.0 (Return j ∷ r.1) in
        omega arith

    pub apart_plan : Apart ρ.plan
    apart_plan = fronts_apart ρ.plan once
      where
        once : (pre post : List Instruction) (i : Instruction) → ρ.plan ≡ pre ++ i ∷ post → In i pre → ⊥
        once pre post (Evaluate o a) e m = pl.evaluates_once_lem pre o a (post, e) m
        once pre post (Visit k j) e m = pl.visits_once pre k j (post, e) m
        once pre post (Return j) e m = return_once pre j (post, e) m
