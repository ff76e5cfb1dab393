-- The segments of a plan, and the returns that end them.
use Rattle.std.proofs.Common.{◌≡◌, ℕ, zero, suc, ◌+◌, ◌<◌, ◌≤◌, cond, ◌⊎◌, List, [], ◌∷◌, ◌++◌, count_by, refl, ap, ◌∙◌, subst, inl, inr, append_assoc, arith}
use Rattle.std.proofs.lemmas.List.Sums.{sum_by-cons}
use Rattle.plans.specs.PlanRules.{is_return}
use Rattle.tour.specs.Runs.{In}
use Rattle.grammar.specs.declared.terms.Instruction.{Instruction}
use Rattle.tour.proofs.Ruled.{returns}
use Rattle.grammar.specs.declared.terms.Instruction.TheVariants.{Evaluate, Visit, Return}
use Rattle.tour.specs.Trees.{up_to, behind, part}
use Rattle.tour.proofs.Lists.{in_cases}

pub returns_counted : (is : List Instruction) → count_by is_return is ≡ returns is
returns_counted [] = refl
returns_counted (Evaluate o a ∷ is) = let h = returns_counted is in omega arith
returns_counted (Visit k j ∷ is) = let h = returns_counted is in omega arith
returns_counted (Return j ∷ is) = sum_by-cons (λ x. cond (is_return x) 1 0) (Return j) is ∙ (let h = returns_counted is in omega arith)

pub returns_append : (xs ys : List Instruction) → returns (xs ++ ys) ≡ returns xs + returns ys
returns_append [] ys = omega arith
returns_append (Evaluate o a ∷ xs) ys = returns_append xs ys
returns_append (Visit k j ∷ xs) ys = returns_append xs ys
returns_append (Return j ∷ xs) ys = let h = returns_append xs ys in omega arith

pub returns_cons : (i : Instruction) (is : List Instruction) → returns (i ∷ is) ≡ returns (i ∷ []) + returns is
returns_cons i is = returns_append (i ∷ []) is

pub returns_up_to : (is : List Instruction) → returns (up_to is) ≡ 0
returns_up_to [] = refl
returns_up_to (Evaluate o a ∷ is) = returns_up_to is
returns_up_to (Visit k j ∷ is) = returns_up_to is
returns_up_to (Return j ∷ is) = refl

pub returns_part : (k : ℕ) (is : List Instruction) → returns (part k is) ≡ 0
returns_part zero is = returns_up_to is
returns_part (suc k) is = returns_part k (behind is)

-- the return between a segment and the next, if it is there
abbrev pub mark : List Instruction → List Instruction
mark [] = []
mark (Evaluate o a ∷ is) = mark is
mark (Visit k j ∷ is) = mark is
mark (Return j ∷ is) = Return j ∷ []

pub apart_at : (is : List Instruction) → is ≡ up_to is ++ (mark is ++ behind is)
apart_at [] = refl
apart_at (Evaluate o a ∷ is) = ap (λ z. Evaluate o a ∷ z) (apart_at is)
apart_at (Visit k j ∷ is) = ap (λ z. Visit k j ∷ z) (apart_at is)
apart_at (Return j ∷ is) = refl

mark_few : (is : List Instruction) → returns (mark is) ≤ 1
mark_few [] = omega arith
mark_few (Evaluate o a ∷ is) = mark_few is
mark_few (Visit k j ∷ is) = mark_few is
mark_few (Return j ∷ is) = omega arith

-- i is no return
abbrev pub Works : Instruction → Type 0
Works i = returns (i ∷ []) ≡ 0

not_marked : (i : Instruction) (is : List Instruction) → Works i → In i (mark is) → ⊥
not_marked i [] w m = m
not_marked i (Evaluate o a ∷ is) w m = not_marked i is w m
not_marked i (Visit k j ∷ is) w m = not_marked i is w m
not_marked i (Return j ∷ is) w (inl e) = let z : returns (Return j ∷ []) ≡ 0 = subst (λ x. returns (x ∷ []) ≡ 0) e w in omega arith
not_marked i (Return j ∷ is) w (inr m) = m

-- where a segment stands, and what stands before it
pub record Cut (k : ℕ) (is : List Instruction) : Type 0 where
  pub pre : List Instruction
  pub post : List Instruction
  pub whole : is ≡ pre ++ (part k is ++ post)
  pub few : returns pre ≤ k
  pub earlier : (x : Instruction) → Works x → In x pre → (i : ℕ) × (i < k) × In x (part i is)

pub cut : (k : ℕ) (is : List Instruction) → Cut k is
cut zero is = record { pre = []; post = mark is ++ behind is; whole = apart_at is; few = omega arith; earlier = λ x w m. absurd m }
cut (suc k) is = step (cut k (behind is))
  where
    step : Cut k (behind is) → Cut (suc k) is
    step c = record {
      pre = up_to is ++ (mark is ++ c.pre);
      post = c.post;
      whole = apart_at is ∙ ap (λ z. up_to is ++ (mark is ++ z)) c.whole ∙ regroup;
      few = fewer;
      earlier = λ x w m. find x w (in_cases x (up_to is) (mark is ++ c.pre) m);
    }
      where
        regroup : up_to is ++ (mark is ++ (c.pre ++ (part k (behind is) ++ c.post))) ≡ (up_to is ++ (mark is ++ c.pre)) ++ (part k (behind is) ++ c.post)
        regroup = simp append_assoc

        fewer : returns (up_to is ++ (mark is ++ c.pre)) ≤ suc k
        fewer = omega (arith, returns_append (up_to is) (mark is ++ c.pre), returns_append (mark is) c.pre, returns_up_to is, mark_few is, c.few)

        find : (x : Instruction) → Works x → In x (up_to is) ⊎ In x (mark is ++ c.pre) → (i : ℕ) × (i < suc k) × In x (part i is)
        find x w (inl m) = (zero, omega arith, m)
        find x w (inr m) = elim (in_cases x (mark is) c.pre m)
            [ inl n ↦ absurd (not_marked x is w n) | inr n ↦ let r = c.earlier x w n in (suc r.0, omega (arith, r.1), r.2) ]

-- the return of each visit
pub return_at : (k : ℕ) (is : List Instruction) → k < returns is → (pre : List Instruction) × (j : ℕ) × (post : List Instruction) × (is ≡ pre ++ Return j ∷ post) × (returns pre ≡ k)
return_at k [] h = absurd (omega arith)
return_at k (Evaluate o a ∷ is) h = let r = return_at k is h in (Evaluate o a ∷ r.0, r.1, r.2, ap (λ z. Evaluate o a ∷ z) r.3, r.4)
return_at k (Visit o a ∷ is) h = let r = return_at k is h in (Visit o a ∷ r.0, r.1, r.2, ap (λ z. Visit o a ∷ z) r.3, r.4)
return_at zero (Return j ∷ is) h = ([], j, is, refl, refl)
return_at (suc k) (Return j ∷ is) h = let r = return_at k is (omega arith) in (Return j ∷ r.0, r.1, r.2, ap (λ z. Return j ∷ z) r.3, ap suc r.4)

in_part_evaluate : (x : Instruction) (o a i : ℕ) (is : List Instruction) → In x (part i is) → In x (part i (Evaluate o a ∷ is))
in_part_evaluate x o a zero is m = inr m
in_part_evaluate x o a (suc i) is m = m

in_part_visit : (x : Instruction) (o a i : ℕ) (is : List Instruction) → In x (part i is) → In x (part i (Visit o a ∷ is))
in_part_visit x o a zero is m = inr m
in_part_visit x o a (suc i) is m = m

-- what stands before a return stands in a segment up to it
pub in_part : (x : Instruction) → Works x → (pre post : List Instruction) → In x pre → (i : ℕ) × (i ≤ returns pre) × In x (part i (pre ++ post))
in_part x w [] post m = absurd m
in_part x w (Evaluate o a ∷ pre) post (inl e) = (zero, omega arith, inl e)
in_part x w (Evaluate o a ∷ pre) post (inr m) = let r = in_part x w pre post m in (r.0, r.1, in_part_evaluate x o a r.0 (pre ++ post) r.2)
in_part x w (Visit o a ∷ pre) post (inl e) = (zero, omega arith, inl e)
in_part x w (Visit o a ∷ pre) post (inr m) = let r = in_part x w pre post m in (r.0, r.1, in_part_visit x o a r.0 (pre ++ post) r.2)
in_part x w (Return j ∷ pre) post (inl e) = let z : returns (Return j ∷ []) ≡ 0 = subst (λ y. returns (y ∷ []) ≡ 0) e w in absurd (omega arith)
in_part x w (Return j ∷ pre) post (inr m) = let r = in_part x w pre post m in (suc r.0, omega (arith, r.1), r.2)
