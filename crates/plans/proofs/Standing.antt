-- Where an instruction stands in a plan.
use Rattle.std.proofs.Common.{◌≡◌, ℕ, zero, suc, ◌+◌, ◌-◌, Bool, true, false, not, ◌||◌, cond, eqb, ltb, ◌⊎◌, List, [], ◌∷◌, ◌++◌, length, count_by, drop, position, Some, None, Decides, sym, refl, ap, ◌∙◌, inl, inr, ⊎_elim, one-add, arith, length-append}
use Rattle.std.specs.List.{slice_get, position_or_len}
use Rattle.std.proofs.lemmas.List.{get_or-append-add}
use Rattle.std.proofs.lemmas.Option.{slice_get-get_or}
use Rattle.std.proofs.lemmas.Bool.{ne_eqb, lt-ltb}
use Rattle.std.proofs.lemmas.List.Recursion.{is_count_by, is_position_or_len}
use Rattle.std.proofs.lemmas.Bool.Decides.{Decides-eqb, Decides-and, Decides-or, Decides-not, Decides-like, not_from_Decides, nat_tests}
use Rattle.grammar.specs.declared.terms.Instruction.{Instruction}
use Rattle.grammar.specs.declared.terms.Instruction.TheVariants.{Evaluate, Visit, Return}
use Rattle.plans.proofs.Deciding.{never}
use Rattle.plans.specs.PlanRules.{Stands, StandsOnce, Before, EndsWith}
use Rattle.plans.specs.PlanTests.{same_instruction, stands, stands_before, once_or, once, ends_with}

pub same_decides : (x y : Instruction) → Decides (same_instruction x y) (x ≡ y)
same_decides (Evaluate o a) (Evaluate p b) = Decides-like _ (λ h. let u = h.0 in let v = h.1 in cc) (λ h. (cc, cc)) (Decides-and (eqb o p) (eqb a b) (Decides-eqb o p) (Decides-eqb a b))
same_decides (Evaluate o a) (Visit k j) = (λ h. never (cc), λ h. never (cc))
same_decides (Evaluate o a) (Return j) = (λ h. never (cc), λ h. never (cc))
same_decides (Visit k j) (Evaluate o a) = (λ h. never (cc), λ h. never (cc))
same_decides (Visit k j) (Visit l i) = Decides-like _ (λ h. let u = h.0 in let v = h.1 in cc) (λ h. (cc, cc)) (Decides-and (eqb k l) (eqb j i) (Decides-eqb k l) (Decides-eqb j i))
same_decides (Visit k j) (Return i) = (λ h. never (cc), λ h. never (cc))
same_decides (Return j) (Evaluate o a) = (λ h. never (cc), λ h. never (cc))
same_decides (Return j) (Visit k i) = (λ h. never (cc), λ h. never (cc))
same_decides (Return j) (Return i) = Decides-like _ (λ h. ap Return h) (λ h. cc) (Decides-eqb j i)

-- it stands in a plan if it is the first instruction, or stands among the others
before_cases : (x y : Instruction) (is : List Instruction) (i : ℕ) → Before (y ∷ is) (suc i) x → (x ≡ y) ⊎ Before is i x
before_cases x y is i (zero, l, e) = inl (cc)
before_cases x y is i (suc m, l, e) = inr (m, omega arith, e)

pub before_decides : (plan : List Instruction) (i : ℕ) (x : Instruction) → Decides (stands_before plan i x) (Before plan i x)
before_decides [] zero x = (λ h. never (cc), λ h. let e = h.2 in never (cc))
before_decides [] (suc i) x = (λ h. never (cc), λ h. let e = h.2 in never (cc))
before_decides (y ∷ is) zero x = (λ h. never (cc), λ h. let l = h.1 in absurd (omega arith))
before_decides (y ∷ is) (suc i) x =
    Decides-like _
    (⊎_elim (λ e. (0, omega arith, ap Some (sym e))) (λ h. (suc h.0, let l = h.1 in omega arith, h.2)))
    (before_cases x y is i)
    (Decides-or (same_instruction x y) (stands_before is i x) (same_decides x y) (before_decides is i x))

-- it stands somewhere in a plan
abbrev pub Somewhere : List Instruction → Instruction → Type 0
Somewhere plan x = (m : ℕ) × Stands plan m x

somewhere_cases : (x y : Instruction) (is : List Instruction) → Somewhere (y ∷ is) x → (x ≡ y) ⊎ Somewhere is x
somewhere_cases x y is (zero, e) = inl (cc)
somewhere_cases x y is (suc m, e) = inr (m, e)

pub stands_decides : (plan : List Instruction) (x : Instruction) → Decides (stands x plan) (Somewhere plan x)
stands_decides [] x = (λ h. never (cc), λ h. let e = h.1 in never (cc))
stands_decides (y ∷ is) x =
    Decides-like _
    (⊎_elim (λ e. (0, ap Some (sym e))) (λ h. (suc h.0, h.1)))
    (somewhere_cases x y is)
    (Decides-or (same_instruction x y) (stands x is) (same_decides x y) (stands_decides is x))

-- it stands at one place of a plan
abbrev pub Once : List Instruction → Instruction → Type 0
Once plan x = (i : ℕ) × StandsOnce plan i x

-- of a plan that begins with it: it does not stand among the others
pub once_first : (x y : Instruction) (is : List Instruction) → x ≡ y → (Somewhere is x → ⊥) → Once (y ∷ is) x
once_first x y is same apart = (0, (ap Some (sym same), only))
  where
    only : (m : ℕ) → Stands (y ∷ is) m x → m ≡ 0
    only zero e = refl
    only (suc m) e = absurd (apart (m, e))

once_alone : (x y : Instruction) (is : List Instruction) → x ≡ y → Once (y ∷ is) x → Somewhere is x → ⊥
once_alone x y is same (i, (e, only)) (m, s) = let u = only 0 (ap Some (sym same)) in let v = only (suc m) s in omega arith

-- of one that begins with another: it stands once among the others
pub once_later : (x y : Instruction) (is : List Instruction) → (x ≡ y → ⊥) → Once is x → Once (y ∷ is) x
once_later x y is apart (i, (e, only)) = (suc i, (e, one))
  where
    one : (m : ℕ) → Stands (y ∷ is) m x → m ≡ suc i
    one zero s = absurd (apart (cc))
    one (suc m) s = ap suc (only m s)

pub once_among : (x y : Instruction) (is : List Instruction) → (x ≡ y → ⊥) → Once (y ∷ is) x → Once is x
once_among x y is apart (zero, (e, only)) = absurd (apart (cc))
once_among x y is apart (suc i, (e, only)) = (i, (e, λ m s. let u = only (suc m) s in omega arith))

pub once_decides : (plan : List Instruction) (x : Instruction) → Decides (once x plan) (Once plan x)
once_decides [] x = (λ h. never (cc), λ h. let e = h.1.0 in never (cc))
once_decides (y ∷ is) x = by (same_instruction x y) (same_decides x y) (once_decides is x)
  where
    by : (t : Bool) → Decides t (x ≡ y) → Decides (once x is) (Once is x) → Decides (once_or t x is (once x is)) (Once (y ∷ is) x)
    by true same later = Decides-like _ (once_first x y is (same.0 refl)) (once_alone x y is (same.0 refl)) (Decides-not (stands x is) (stands_decides is x))
    by false same later = Decides-like _ (once_later x y is (not_from_Decides false same refl)) (once_among x y is (not_from_Decides false same refl)) later

ends_alone : (x y : Instruction) → EndsWith (y ∷ []) x → x ≡ y
ends_alone x y ([], e) = cc
ends_alone x y (b ∷ bs, e) = let u = ap length e ∙ ap suc (length-append bs (x ∷ [])) in absurd (omega arith)

ends_among : (x y z : Instruction) (is : List Instruction) → EndsWith (y ∷ z ∷ is) x → EndsWith (z ∷ is) x
ends_among x y z is ([], e) = let u = ap length e in absurd (omega arith)
ends_among x y z is (b ∷ bs, e) = (bs, cc)

pub ends_decides : (plan : List Instruction) (x : Instruction) → Decides (ends_with x plan) (EndsWith plan x)
ends_decides [] x = (λ h. never (cc), λ h. let u = ap length h.1 ∙ length-append h.0 (x ∷ []) in absurd (omega arith))
ends_decides (y ∷ []) x = Decides-like _ (λ e. ([], ap (λ u. u ∷ []) (sym e))) (ends_alone x y) (same_decides x y)
ends_decides (y ∷ z ∷ is) x = Decides-like _ (λ h. (y ∷ h.0, ap (λ l. y ∷ l) h.1)) (ends_among x y z is) (ends_decides (z ∷ is) x)

-- how often it stands in a plan
abbrev times : Instruction → List Instruction → ℕ
times x [] = 0
times x (y ∷ is) = cond (same_instruction x y) (1 + times x is) (times x is)

never_counted : (x : Instruction) (plan : List Instruction) → eqb (times x plan) 0 ≡ not (stands x plan)
never_counted x [] = refl
never_counted x (y ∷ is) = by (same_instruction x y) (never_counted x is)
  where
    by : (t : Bool) → eqb (times x is) 0 ≡ not (stands x is) → eqb (cond t (1 + times x is) (times x is)) 0 ≡ not (t || stands x is)
    by true h = ne_eqb (1 + times x is) 0 (λ e. omega arith)
    by false h = h

once_told : (x : Instruction) (plan : List Instruction) → eqb (times x plan) 1 ≡ once x plan
once_told x [] = refl
once_told x (y ∷ is) = by (same_instruction x y) (once_told x is)
  where
    less : (n : ℕ) → eqb (1 + n) 1 ≡ eqb n 0
    less n = grind (arith, nat_tests)

    by : (t : Bool) → eqb (times x is) 1 ≡ once x is → eqb (cond t (1 + times x is) (times x is)) 1 ≡ once_or t x is (once x is)
    by true h = less (times x is) ∙ never_counted x is
    by false h = h

-- it stands once where it is counted once
pub once_counted : (x : Instruction) (plan : List Instruction) → eqb (count_by (same_instruction x) plan) 1 ≡ once x plan
once_counted x plan = ap (λ n. eqb n 1) (sym (is_count_by (times x) (same_instruction x) refl (λ _ _. refl) plan)) ∙ once_told x plan

-- how many stand before the first place of it; of all, where it stands nowhere
abbrev ahead : Instruction → List Instruction → ℕ
ahead x [] = 0
ahead x (y ∷ is) = cond (same_instruction x y) 0 (1 + ahead x is)

less_more : (m n : ℕ) → ltb (1 + m) (suc n) ≡ ltb m n
less_more m n = grind (arith, nat_tests)

behind_first : (x : Instruction) (plan : List Instruction) → cond (ltb (ahead x plan) (length plan)) (not (stands x (drop (1 + ahead x plan) plan))) false ≡ once x plan
behind_first x [] = refl
behind_first x (y ∷ is) = by (same_instruction x y) (behind_first x is)
  where
    by : (t : Bool) → cond (ltb (ahead x is) (length is)) (not (stands x (drop (1 + ahead x is) is))) false ≡ once x is
        → cond (ltb (cond t 0 (1 + ahead x is)) (length (y ∷ is))) (not (stands x (drop (1 + cond t 0 (1 + ahead x is)) (y ∷ is)))) false ≡ once_or t x is (once x is)
    by true h = ap (λ b. cond b (not (stands x is)) false) (lt-ltb 0 (suc (length is)) (omega arith))
    by false h =
        ap (λ b. cond b (not (stands x (drop (1 + (1 + ahead x is)) (y ∷ is)))) false) (less_more (ahead x is) (length is))
        ∙ ap (λ n. cond (ltb (ahead x is) (length is)) (not (stands x (drop n (y ∷ is)))) false) (one-add (1 + ahead x is))
        ∙ h

-- it stands once where it stands somewhere and nowhere behind its first place
pub once_behind : (x : Instruction) (plan : List Instruction) → cond (ltb (position_or_len (same_instruction x) plan) (length plan)) (not (stands x (drop (1 + position_or_len (same_instruction x) plan) plan))) false ≡ once x plan
once_behind x plan = ap (λ n. cond (ltb n (length plan)) (not (stands x (drop (1 + n) plan))) false) (sym (is_position_or_len (ahead x) (same_instruction x) refl (λ _ _. refl) plan)) ∙ behind_first x plan

pub once_nowhere : (x : Instruction) (plan : List Instruction) → position (same_instruction x) plan ≡ None → once x plan ≡ false
once_nowhere x plan e = by (ltb (position_or_len (same_instruction x) plan) (length plan)) e (once_behind x plan)
  where
    by : (t : Bool) → cond t (Some (position_or_len (same_instruction x) plan)) None ≡ None → cond t (not (stands x (drop (1 + position_or_len (same_instruction x) plan) plan))) false ≡ once x plan → once x plan ≡ false
    by true e h = never (cc)
    by false e h = sym h

pub once_after : (x : Instruction) (plan : List Instruction) (i : ℕ) → position (same_instruction x) plan ≡ Some i → once x plan ≡ not (stands x (drop (i + 1) plan))
once_after x plan i e = by (ltb (position_or_len (same_instruction x) plan) (length plan)) e (once_behind x plan)
  where
    by : (t : Bool) → cond t (Some (position_or_len (same_instruction x) plan)) None ≡ Some i → cond t (not (stands x (drop (1 + position_or_len (same_instruction x) plan) plan))) false ≡ once x plan → once x plan ≡ not (stands x (drop (i + 1) plan))
    by true e h = let k : position_or_len (same_instruction x) plan ≡ i = cc in sym h ∙ ap (λ n. not (stands x (drop n plan))) (omega arith)
    by false e h = never (cc)

less_one : (n : ℕ) → suc n - 1 ≡ n
less_one n = omega arith

-- a plan ends with what stands at its last place
pub last_ends : (plan : List Instruction) (x : Instruction) → slice_get plan (length plan - 1) ≡ Some x → EndsWith plan x
last_ends [] x e = never (cc)
last_ends (y ∷ []) x e = let same : y ≡ x = cc in ([], ap (λ u. u ∷ []) same)
last_ends (y ∷ z ∷ is) x e =
    let h = last_ends (z ∷ is) x (ap (slice_get (z ∷ is)) (less_one (length is)) ∙ sym (ap (slice_get (y ∷ z ∷ is)) (less_one (suc (length is)))) ∙ e) in
    (y ∷ h.0, ap (λ l. y ∷ l) h.1)

pub ends_last : (plan : List Instruction) (x : Instruction) → EndsWith plan x → slice_get plan (length plan - 1) ≡ Some x
ends_last plan x (before, e) =
    let last : length (before ++ x ∷ []) - 1 ≡ length before + 0 = omega (arith, length-append before (x ∷ [])) in
    ap (λ l. slice_get l (length l - 1)) e ∙ ap (slice_get (before ++ x ∷ [])) last ∙ slice_get-get_or (before ++ x ∷ []) (length before + 0) x (omega (arith, length-append before (x ∷ []))) ∙ ap Some (get_or-append-add before (x ∷ []) 0 x)
