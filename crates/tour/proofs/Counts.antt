-- All visits of a tree list each of its instances once: any weight of what they list is that of the instances.
use Rattle.std.proofs.Common.{◌≡◌, ℕ, zero, suc, ◌+◌, ◌<◌, cond, ◌⊎◌, List, [], ◌∷◌, ◌++◌, map, length, get_or, sym, refl, ap, ◌∙◌, subst, inl, inr, arith}
use Rattle.grammar.specs.Model.{Grammar, Rule}
use Rattle.grammar.specs.declared.terms.Instruction.{Instruction}
use Rattle.grammar.specs.declared.terms.Attribute.{Attribute}
use Rattle.grammar.specs.declared.terms.Flow.{Flow}
use Rattle.tour.specs.Rules.{symbol, rule}
use Rattle.grammar.specs.declared.terms.Instruction.TheVariants.{Evaluate, Visit, Return}
use Rattle.grammar.specs.declared.terms.Flow.TheVariants.{Inherited, Synthesized}
use Rattle.tour.specs.Trees.{Instance, Forest, up_to, behind, part, segment, lists, listed, places, at_of, no_visit, visited_of, tours, Agrees, row, instances}
use Rattle.tour.specs.Trees.Forest.{none, node}
use Rattle.tour.proofs.Segments.{returns_append}
use Rattle.tour.proofs.Sums.{sum_of, sum_append, sum_map, sum_same, sum_none, same_sum}
use Rattle.grammar.specs.Scopes.{same_flow}
use Rattle.plans.specs.PlanTests.{numbers_from}
use Rattle.tour.proofs.Expected.{indices, numbers, gives, expected, apart_expected, apart_plan, expected_planned, planned_expected}
use Rattle.tour.proofs.Ruled.{returns, Grammatical, Planned}

pub sum_shift : (f : ℕ → ℕ) (i n : ℕ) → sum_of f (numbers_from (suc i) n) ≡ sum_of (λ j. f (suc j)) (numbers_from i n)
sum_shift f i zero = refl
sum_shift f i (suc n) = ap (λ m. f (suc i) + m) (sum_shift f (suc i) n)

-- nothing stands behind the last return
Ends : List Instruction → Type 0
Ends is = (is ≡ []) ⊎ ((pre : List Instruction) × (j : ℕ) × (is ≡ pre ++ Return j ∷ []))

ends_behind : (pre : List Instruction) (j : ℕ) → Ends (behind (pre ++ Return j ∷ []))
unfolding Ends
ends_behind [] j = inl refl
ends_behind (Evaluate o a ∷ pre) j = ends_behind pre j
ends_behind (Visit k i ∷ pre) j = ends_behind pre j
ends_behind (Return i ∷ pre) j = inr (pre, j, refl)

ends_next : (is : List Instruction) → Ends is → Ends (behind is)
unfolding Ends
ends_next is (inl e) = inl (ap behind e)
ends_next is (inr (pre, j, e)) = subst (λ z. Ends (behind z)) (sym e) (ends_behind pre j)

returns_behind : (is : List Instruction) (n : ℕ) → returns is ≡ suc n → returns (behind is) ≡ n
returns_behind [] n e = absurd (omega arith)
returns_behind (Evaluate o a ∷ is) n e = returns_behind is n e
returns_behind (Visit k j ∷ is) n e = returns_behind is n e
returns_behind (Return j ∷ is) n e = omega arith

sum_split : (h : Instruction → ℕ) → ((j : ℕ) → h (Return j) ≡ 0) → (is : List Instruction) → sum_of h is ≡ sum_of h (up_to is) + sum_of h (behind is)
sum_split h z [] = refl
sum_split h z (Evaluate o a ∷ is) = let r = sum_split h z is in omega arith
sum_split h z (Visit k j ∷ is) = let r = sum_split h z is in omega arith
sum_split h z (Return j ∷ is) = omega (arith, z j)

-- the segments make up the plan
parts_sum : (h : Instruction → ℕ) → ((j : ℕ) → h (Return j) ≡ 0) → (n : ℕ) (is : List Instruction) → returns is ≡ n → Ends is → sum_of (λ j. sum_of h (part j is)) (numbers_from 0 n) ≡ sum_of h is
unfolding Ends
parts_sum h z zero is e (inl q) = ap (sum_of h) (sym q)
parts_sum h z zero is e (inr (pre, j, q)) = absurd (let w : returns is ≡ returns pre + 1 = ap returns q ∙ returns_append pre (Return j ∷ []) in omega arith)
parts_sum h z (suc n) is e d =
    let below = parts_sum h z n (behind is) (returns_behind is n e) (ends_next is d) in
    let over = sum_shift (λ j. sum_of h (part j is)) 0 n in
    omega (arith, sum_split h z is, over, below)

module _ (g : Instance → ℕ) where
  abbrev pub weigh : (ℕ → ℕ) → (ℕ → ℕ → List Instance) → Instruction → ℕ
  weigh at vis i = sum_of g (lists at vis i)

  listed_sum : (at : ℕ → ℕ) (vis : ℕ → ℕ → List Instance) (is : List Instruction) → sum_of g (listed at vis is) ≡ sum_of (weigh at vis) is
  listed_sum at vis [] = refl
  listed_sum at vis (i ∷ is) = sum_append g (lists at vis i) (listed at vis is) ∙ ap (λ m. weigh at vis i + m) (listed_sum at vis is)

  row_sum : (p i : ℕ) (bs : List Attribute) → sum_of (λ a. g (p, a)) (indices Inherited i bs) + sum_of (λ a. g (p, a)) (indices Synthesized i bs) ≡ sum_of g (row p i (length bs))
  row_sum p i [] = refl
  row_sum p i (b ∷ bs) = go b.flow (row_sum p (suc i) bs)
    where
      go : (k : Flow) → sum_of (λ a. g (p, a)) (indices Inherited (suc i) bs) + sum_of (λ a. g (p, a)) (indices Synthesized (suc i) bs) ≡ sum_of g (row p (suc i) (length bs)) → sum_of (λ a. g (p, a)) (cond (same_flow Inherited k) (i ∷ indices Inherited (suc i) bs) (indices Inherited (suc i) bs)) + sum_of (λ a. g (p, a)) (cond (same_flow Synthesized k) (i ∷ indices Synthesized (suc i) bs) (indices Synthesized (suc i) bs)) ≡ g (p, i) + sum_of g (row p (suc i) (length bs))
      go Inherited h = omega arith
      go Synthesized h = omega arith

  module _ (σ : Grammar) where
    -- the attributes of a flow at a place
    abbrev pub those : Flow → ℕ → ℕ → ℕ
    those k p x = sum_of (λ a. g (p, a)) (numbers σ k x)

    -- all visits of a tree
    abbrev pub whole : ℕ → (ℕ → List Instance) → ℕ
    whole x v = sum_of (λ j. sum_of g (v j)) (numbers_from 1 (symbol σ x).visits)

    evaluates_sum : (at : ℕ → ℕ) (vis : ℕ → ℕ → List Instance) (o : ℕ) (ns : List ℕ) → sum_of (weigh at vis) (map (Evaluate o) ns) ≡ sum_of (λ a. g (at o, a)) ns
    evaluates_sum at vis o ns = sum_map (weigh at vis) (Evaluate o) ns ∙ sum_same (λ a. g (at o, a) + 0) (λ a. g (at o, a)) (λ a. omega arith) ns

    -- all visits of a node list what its plan lists
    node_sum : (ρ : Rule) → Grammatical σ ρ → Planned σ ρ → (at : ℕ → ℕ) (vis : ℕ → ℕ → List Instance) → whole ρ.left (λ j. listed at vis (segment j ρ.plan)) ≡ those Synthesized (at 0) ρ.left + sum_of (weigh at vis) (gives σ 1 ρ.right)
    unfolding Ends
    node_sum ρ gr pl at vis =
        let n : ℕ = (symbol σ ρ.left).visits in
        let h : Instruction → ℕ = weigh at vis in
        let a = sum_shift (λ j. sum_of g (listed at vis (segment j ρ.plan))) 0 n in
        let b = sum_same (λ j. sum_of g (listed at vis (part j ρ.plan))) (λ j. sum_of h (part j ρ.plan)) (λ j. listed_sum at vis (part j ρ.plan)) (numbers_from 0 n) in
        let c = parts_sum h (λ j. refl) n ρ.plan pl.returns_all (inr pl.return_last) in
        let d = same_sum h ρ.plan (expected σ ρ) (apart_plan σ ρ gr pl) (apart_expected σ ρ) (planned_expected σ ρ gr pl) (expected_planned σ ρ gr pl) in
        let e = sum_append h (map Return (numbers_from 1 n)) (map (Evaluate 0) (numbers σ Synthesized ρ.left) ++ gives σ 1 ρ.right) in
        let f = sum_append h (map (Evaluate 0) (numbers σ Synthesized ρ.left)) (gives σ 1 ρ.right) in
        let r : sum_of h (map Return (numbers_from 1 n)) ≡ 0 = sum_map h Return (numbers_from 1 n) ∙ sum_none (λ j. 0) (λ j. refl) (numbers_from 1 n) in
        let s = evaluates_sum at vis 0 (numbers σ Synthesized ρ.left) in
        omega arith

    abbrev pub load : Forest → List ℕ → ℕ
    load none xs = 0
    load (node p r c kids rest) [] = 0
    load (node p r c kids rest) (x ∷ xs) = (those Inherited p x + whole x (get_or (tours σ (node p r c kids rest)) 0 no_visit)) + load rest xs

    gives_sum : (f : Forest) (xs : List ℕ) (k : ℕ) (at : ℕ → ℕ) (vis : ℕ → ℕ → List Instance) → ((m : ℕ) → at (k + m) ≡ get_or (places f) m 0) → ((m : ℕ) → vis (k + m) ≡ get_or (tours σ f) m no_visit) → Agrees σ f xs → sum_of (weigh at vis) (gives σ k xs) ≡ load f xs
    gives_sum none [] k at vis ea ev ag = refl
    gives_sum none (x ∷ xs) k at vis ea ev ag = absurd ag
    gives_sum (node p r c kids rest) [] k at vis ea ev ag = refl
    gives_sum (node p r c kids rest) (x ∷ xs) k at vis ea ev (l, e, ag, ag') =
        let below = gives_sum rest xs (suc k) at vis (λ m. ap at (shift m) ∙ ea (suc m)) (λ m. ap vis (shift m) ∙ ev (suc m)) ag' in
        let a = sum_append (weigh at vis) (map (Evaluate k) (numbers σ Inherited x)) (map (Visit k) (numbers_from 1 (symbol σ x).visits) ++ gives σ (suc k) xs) in
        let b = sum_append (weigh at vis) (map (Visit k) (numbers_from 1 (symbol σ x).visits)) (gives σ (suc k) xs) in
        let d = evaluates_sum at vis k (numbers σ Inherited x) ∙ ap (λ q. those Inherited q x) (ap at same ∙ ea 0) in
        let f = sum_map (weigh at vis) (Visit k) (numbers_from 1 (symbol σ x).visits) ∙ ap (whole x) (ap vis same ∙ ev 0) in
        a ∙ ap (λ m. m + sum_of (weigh at vis) (map (Visit k) (numbers_from 1 (symbol σ x).visits) ++ gives σ (suc k) xs)) d
        ∙ ap (λ m. those Inherited p x + m) (b ∙ ap (λ m. m + sum_of (weigh at vis) (gives σ (suc k) xs)) f ∙ ap (λ m. whole x (get_or (tours σ (node p r c kids rest)) 0 no_visit) + m) below)
        ∙ sym (native.Mathlib.Nat.add_assoc (those Inherited p x) (whole x (get_or (tours σ (node p r c kids rest)) 0 no_visit)) (load rest xs))
      where
        same : k ≡ k + 0
        same = omega arith

        shift : (m : ℕ) → suc k + m ≡ k + suc m
        shift m = omega arith

    module _ (accepted : (r : ℕ) → r < length σ.rules → Grammatical σ (rule σ r) × Planned σ (rule σ r)) where
      pub load_all : (f : Forest) (xs : List ℕ) → Agrees σ f xs → load f xs ≡ sum_of g (instances σ f)
      load_all none xs ag = refl
      load_all (node p r c kids rest) [] ag = absurd ag
      load_all (node p r c kids rest) (x ∷ xs) (l, e, ag, ag') =
          ap (λ m. m + load rest xs) (subst (λ z. those Inherited p z + whole z tour ≡ sum_of g (row p 0 (length (symbol σ (rule σ r).left).attributes)) + sum_of g (instances σ kids)) e (here (load_all kids (rule σ r).right ag)))
          ∙ (let below = load_all rest xs ag' in
          let a = sum_append g (row p 0 (length (symbol σ (rule σ r).left).attributes)) (instances σ kids ++ instances σ rest) in
          let b = sum_append g (instances σ kids) (instances σ rest) in
          omega arith)
        where
          tour : ℕ → List Instance
          tour = get_or (tours σ (node p r c kids rest)) 0 no_visit

          one_more : (m : ℕ) → 1 + m ≡ suc m
          one_more m = omega arith

          here : load kids (rule σ r).right ≡ sum_of g (instances σ kids) → those Inherited p (rule σ r).left + whole (rule σ r).left tour ≡ sum_of g (row p 0 (length (symbol σ (rule σ r).left).attributes)) + sum_of g (instances σ kids)
          here below =
              let a = node_sum (rule σ r) (accepted r l).0 (accepted r l).1 (at_of p (places kids)) (visited_of (tours σ kids)) in
              let b = gives_sum kids (rule σ r).right 1 (at_of p (places kids)) (visited_of (tours σ kids)) (λ m. ap (at_of p (places kids)) (one_more m)) (λ m. ap (visited_of (tours σ kids)) (one_more m)) ag in
              let d = row_sum p 0 (symbol σ (rule σ r).left).attributes in
              omega arith
