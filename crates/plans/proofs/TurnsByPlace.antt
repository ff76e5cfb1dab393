-- The listed turns of an occurrence are the numbers from 1 on just where they stand once each, in order, with no other.
use Rattle.std.proofs.Common.{◌≡◌, ℕ, zero, suc, ◌+◌, ◌<◌, ◌≤◌, Bool, true, false, eqb, ◌⊎◌, List, [], ◌∷◌, ◌++◌, Some, Decides, sym, refl, ap, ◌∙◌, inl, inr, ⊎_elim, arith}
use Rattle.std.proofs.lemmas.Bool.{cases_lt, ne_eqb}
use Rattle.std.proofs.lemmas.Bool.Decides.{Decides-eqb, not_from_Decides}
use Rattle.grammar.specs.Scopes.{Scope, visits_at}
use Rattle.grammar.specs.declared.terms.Instruction.{Instruction}
use Rattle.grammar.specs.declared.terms.Instruction.TheVariants.{Evaluate, Visit, Return}
use Rattle.plans.specs.PlanRules.{Stands, InTurn}
use Rattle.plans.specs.PlanTests.{keep_if, turns_of, numbers_from, TurnsInOrder}
use Rattle.plans.proofs.Deciding.{never}
use Rattle.plans.proofs.Standing.{Once, once_first, once_later, once_among}
use Rattle.plans.proofs.TurnOrder.{turns_first}

-- an instruction is turn j of occurrence k, or is none
abbrev TurnOr : ℕ → (ℕ → Instruction) → Instruction → Type 0
TurnOr k t x = ((j : ℕ) × (turns_of k (x ∷ []) ≡ j ∷ []) × (x ≡ t j)) ⊎ ((turns_of k (x ∷ []) ≡ []) × ((j : ℕ) → x ≡ t j → ⊥))

-- the turns t a to t (a + n - 1) stand once each, in order, and no other
record From (t : ℕ → Instruction) (plan : List Instruction) (a n : ℕ) : Type 0 where
  each : (j : ℕ) → a ≤ j → j < a + n → Once plan (t j)
  ordered : (i m j l : ℕ) → Stands plan i (t j) → Stands plan m (t l) → j < l → i < m
  none_other : (i j : ℕ) → Stands plan i (t j) → (a ≤ j) × (j < a + n)

module _ (k : ℕ) (t : ℕ → Instruction) (alone : (j l : ℕ) → t j ≡ t l → j ≡ l) (turn : (x : Instruction) → TurnOr k t x) where
  -- a plan that begins with another instruction
  other_from : (x : Instruction) (is : List Instruction) (a n : ℕ) → ((j : ℕ) → x ≡ t j → ⊥) → From t is a n → From t (x ∷ is) a n
  other_from x is a n apart h = record { each = λ j low high. once_later (t j) x is (λ e. apart j (sym e)) (h.each j low high); ordered = ordered; none_other = others }
    where
      ordered : (i m j l : ℕ) → Stands (x ∷ is) i (t j) → Stands (x ∷ is) m (t l) → j < l → i < m
      ordered zero m j l s r lt = absurd (apart j (cc))
      ordered (suc i) zero j l s r lt = absurd (apart l (cc))
      ordered (suc i) (suc m) j l s r lt = let g = h.ordered i m j l s r lt in omega arith

      others : (i j : ℕ) → Stands (x ∷ is) i (t j) → (a ≤ j) × (j < a + n)
      others zero j s = absurd (apart j (cc))
      others (suc i) j s = h.none_other i j s

  other_at : (x : Instruction) (is : List Instruction) (a n : ℕ) → ((j : ℕ) → x ≡ t j → ⊥) → From t (x ∷ is) a n → From t is a n
  other_at x is a n apart h = record {
    each = λ j low high. once_among (t j) x is (λ e. apart j (sym e)) (h.each j low high);
    ordered = λ i m j l s r lt. let g = h.ordered (suc i) (suc m) j l s r lt in omega arith;
    none_other = λ i j s. h.none_other (suc i) j s;
  }

  -- a plan that begins with turn a
  turn_from : (x : Instruction) (is : List Instruction) (a n : ℕ) → x ≡ t a → From t is (suc a) n → From t (x ∷ is) a (suc n)
  turn_from x is a n here h = record { each = each; ordered = ordered; none_other = others }
    where
      first : (j : ℕ) → j ≡ a → Once (x ∷ is) (t j)
      first j e = once_first (t j) x is (ap t e ∙ sym here) (λ s. let g = (h.none_other s.0 j s.1).0 in omega arith)

      each : (j : ℕ) → a ≤ j → j < a + suc n → Once (x ∷ is) (t j)
      each j low high =
          ⊎_elim (λ l. once_later (t j) x is (λ e. let u = alone j a (e ∙ here) in omega arith) (h.each j (omega arith) (omega arith))) (λ g. first j (omega arith))
          (cases_lt a j)

      ordered : (i m j l : ℕ) → Stands (x ∷ is) i (t j) → Stands (x ∷ is) m (t l) → j < l → i < m
      ordered zero zero j l s r lt = let u = alone j l (cc) in absurd (omega arith)
      ordered zero (suc m) j l s r lt = omega arith
      ordered (suc i) zero j l s r lt = let u = alone l a (cc) in let g = (h.none_other i j s).0 in absurd (omega arith)
      ordered (suc i) (suc m) j l s r lt = let g = h.ordered i m j l s r lt in omega arith

      others : (i j : ℕ) → Stands (x ∷ is) i (t j) → (a ≤ j) × (j < a + suc n)
      others zero j s = let u = alone j a (cc) in (omega arith, omega arith)
      others (suc i) j s = let g = h.none_other i j s in (omega arith, omega arith)

  turn_at : (x : Instruction) (is : List Instruction) (a n : ℕ) → x ≡ t a → From t (x ∷ is) a (suc n) → From t is (suc a) n
  turn_at x is a n here h = record {
    each = λ j low high. once_among (t j) x is (λ e. let u = alone j a (e ∙ here) in omega arith) (h.each j (omega arith) (omega arith));
    ordered = λ i m j l s r lt. let g = h.ordered (suc i) (suc m) j l s r lt in omega arith;
    none_other = others;
  }
    where
      others : (i j : ℕ) → Stands is i (t j) → (suc a ≤ j) × (j < suc a + n)
      others i j s =
          let g = h.none_other (suc i) j s in
          ⊎_elim (λ l. (omega arith, omega arith)) (λ l. absurd (again (omega arith))) (cases_lt a j)
        where
          again : j ≡ a → ⊥
          again e =
              let only = (h.each a (omega arith) (omega arith)).1.1 in
              let u = only 0 (cc) in
              let v = only (suc i) (s ∙ ap (λ y. Some (t y)) e) in
              omega arith

  from_turns : (plan : List Instruction) (a n : ℕ) → turns_of k plan ≡ numbers_from a n → From t plan a n
  from_turns [] a zero e = record {
    each = λ j low high. absurd (omega arith);
    ordered = λ i m j l s r lt. never (cc);
    none_other = λ i j s. never (cc);
  }
  from_turns [] a (suc n) e = never (cc)
  from_turns (x ∷ is) a n e = by n (turn x) (sym (turns_first k x is) ∙ e) (from_turns is)
    where
      by : (n : ℕ) → TurnOr k t x → turns_of k (x ∷ []) ++ turns_of k is ≡ numbers_from a n → ((a n : ℕ) → turns_of k is ≡ numbers_from a n → From t is a n) → From t (x ∷ is) a n
      by n (inr (none, apart)) e later = other_from x is a n apart (later a n (ap (λ ts. ts ++ turns_of k is) (sym none) ∙ e))
      by zero (inl (j, one, here)) e later = let z = ap (λ ts. ts ++ turns_of k is) (sym one) ∙ e in never (cc)
      by (suc n) (inl (j, one, here)) e later =
          let z : j ∷ turns_of k is ≡ a ∷ numbers_from (suc a) n = ap (λ ts. ts ++ turns_of k is) (sym one) ∙ e in
          let same : j ≡ a = cc in
          turn_from x is a n (here ∙ ap t same) (later (suc a) n (cc))

  turns_of_lem : (plan : List Instruction) (a n : ℕ) → From t plan a n → turns_of k plan ≡ numbers_from a n
  turns_of_lem [] a zero h = refl
  turns_of_lem [] a (suc n) h = let e = (h.each a (omega arith) (omega arith)).1.0 in never (cc)
  turns_of_lem (x ∷ is) a n h = turns_first k x is ∙ by n (turn x) h (turns_of_lem is)
    where
      by : (n : ℕ) → TurnOr k t x → From t (x ∷ is) a n → ((a n : ℕ) → From t is a n → turns_of k is ≡ numbers_from a n) → turns_of k (x ∷ []) ++ turns_of k is ≡ numbers_from a n
      by n (inr (none, apart)) h later = ap (λ ts. ts ++ turns_of k is) none ∙ later a n (other_at x is a n apart h)
      by zero (inl (j, one, here)) h later = let g = h.none_other 0 j (ap Some here) in absurd (omega arith)
      by (suc n) (inl (j, one, here)) h later =
          let g = h.none_other 0 j (ap Some here) in
          let q = h.each a (omega arith) (omega arith) in
          let same : j ≡ a = ⊎_elim (λ l. let z = h.ordered q.0 0 a j q.1.0 (ap Some here) l in absurd (omega arith)) (λ l. omega arith) (cases_lt a j) in
          ap (λ ts. ts ++ turns_of k is) one ∙ ap (λ y. y ∷ turns_of k is) same ∙ ap (λ ts. a ∷ ts) (later (suc a) n (turn_at x is a n (here ∙ ap t same) h))

  in_turn_from : (plan : List Instruction) (n : ℕ) → turns_of k plan ≡ numbers_from 1 n → InTurn plan t n
  in_turn_from plan n e =
      let h = from_turns plan 1 n e in
      record {
        each = λ j low high. h.each j low (omega arith);
        ordered = h.ordered;
        none_other = λ i j s. let g = h.none_other i j s in (omega arith, omega arith);
      }

  in_turn_at : (plan : List Instruction) (n : ℕ) → InTurn plan t n → turns_of k plan ≡ numbers_from 1 n
  in_turn_at plan n h = turns_of_lem plan 1 n (record {
    each = λ j low high. h.each j low (omega arith);
    ordered = h.ordered;
    none_other = λ i j s. let g = h.none_other i j s in (omega arith, omega arith);
  })

-- the turns of the left occurrence are its returns, those of a right one the visits to it
returns_turn : (x : Instruction) → TurnOr 0 Return x
returns_turn (Evaluate o a) = inr (refl, λ j e. never (cc))
returns_turn (Visit l j) = inr (refl, λ i e. never (cc))
returns_turn (Return j) = inl (j, refl, refl)

visits_turn : (k : ℕ) (x : Instruction) → TurnOr (suc k) (Visit (suc k)) x
visits_turn k (Evaluate o a) = inr (refl, λ j e. never (cc))
visits_turn k (Visit o j) = by (eqb o (suc k)) (Decides-eqb o (suc k))
  where
    by : (b : Bool) → Decides b (o ≡ suc k) → ((i : ℕ) × (keep_if b j [] ≡ i ∷ []) × (Visit o j ≡ Visit (suc k) i)) ⊎ ((keep_if b j [] ≡ []) × ((i : ℕ) → Visit o j ≡ Visit (suc k) i → ⊥))
    by true d = inl (j, refl, ap (λ p. Visit p j) (d.0 refl))
    by false d = inr (refl, λ i e. not_from_Decides false d refl (cc))
visits_turn k (Return j) = inr (ap (λ b. keep_if b j []) (ne_eqb 0 (suc k) (λ e. omega arith)), λ i e. never (cc))

pub turns_from : (σ : Scope) (plan : List Instruction) (k : ℕ) → turns_of k plan ≡ numbers_from 1 (visits_at σ k) → TurnsInOrder σ plan k
turns_from σ plan zero = in_turn_from 0 Return (λ j l e. cc) returns_turn plan (visits_at σ 0)
turns_from σ plan (suc k) = in_turn_from (suc k) (Visit (suc k)) (λ j l e. cc) (visits_turn k) plan (visits_at σ (suc k))

pub turns_at : (σ : Scope) (plan : List Instruction) (k : ℕ) → TurnsInOrder σ plan k → turns_of k plan ≡ numbers_from 1 (visits_at σ k)
turns_at σ plan zero = in_turn_at 0 Return (λ j l e. cc) returns_turn plan (visits_at σ 0)
turns_at σ plan (suc k) = in_turn_at (suc k) (Visit (suc k)) (λ j l e. cc) (visits_turn k) plan (visits_at σ (suc k))
