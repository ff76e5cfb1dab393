-- Sums over lists, and counting in lists without repeats.
use Rattle.std.proofs.Common.{◌≡◌, ℕ, zero, suc, ◌+◌, ◌<◌, ◌≤◌, ◌⊎◌, List, [], ◌∷◌, ◌++◌, map, length, sym, refl, ap, ◌∙◌, subst, inl, inr, arith}
use mathlib.Core.Logic.{ite, if_pos, if_neg}
use Rattle.tour.specs.Runs.{In, Apart}
use Rattle.tour.proofs.Lists.{in_cases, in_split, apart_out, in_out, out_in}

abbrev pub sum_of : {X : Type 0} → (X → ℕ) → List X → ℕ
sum_of g [] = 0
sum_of g (x ∷ xs) = g x + sum_of g xs

module _ {X : Type 0} where
  pub sum_append : (g : X → ℕ) (xs ys : List X) → sum_of g (xs ++ ys) ≡ sum_of g xs + sum_of g ys
  sum_append g [] ys = omega arith
  sum_append g (x ∷ xs) ys = let h = sum_append g xs ys in omega arith

  pub sum_map : {Y : Type 0} (g : X → ℕ) (f : Y → X) (ys : List Y) → sum_of g (map f ys) ≡ sum_of (λ y. g (f y)) ys
  sum_map g f [] = refl
  sum_map g f (y ∷ ys) = ap (λ n. g (f y) + n) (sum_map g f ys)

  pub sum_same : (g h : X → ℕ) → ((x : X) → g x ≡ h x) → (xs : List X) → sum_of g xs ≡ sum_of h xs
  sum_same g h e [] = refl
  sum_same g h e (x ∷ xs) = let l = sum_same g h e xs in let k = e x in omega arith

  pub sum_none : (g : X → ℕ) → ((x : X) → g x ≡ 0) → (xs : List X) → sum_of g xs ≡ 0
  sum_none g e [] = refl
  sum_none g e (x ∷ xs) = let l = sum_none g e xs in let k = e x in omega arith

  sum_out : (g : X → ℕ) (x : X) (p q : List X) → sum_of g (p ++ x ∷ q) ≡ g x + sum_of g (p ++ q)
  sum_out g x [] q = refl
  sum_out g x (y ∷ p) q = let h = sum_out g x p q in omega arith

  -- lists without repetition that have the same elements have the same sums
  pub same_sum : (g : X → ℕ) (xs ys : List X) → Apart xs → Apart ys → ((x : X) → In x xs → In x ys) → ((x : X) → In x ys → In x xs) → sum_of g xs ≡ sum_of g ys
  same_sum g [] [] a b f h = refl
  same_sum g [] (y ∷ ys) a b f h = absurd (h y (inl refl))
  same_sum g (x ∷ xs) ys (n, a) b f h = step (in_split x ys (f x (inl refl))) (same_sum g xs)
    where
      step : (r : (p : List X) × (q : List X) × (ys ≡ p ++ x ∷ q)) → ((zs : List X) → Apart xs → Apart zs → ((z : X) → In z xs → In z zs) → ((z : X) → In z zs → In z xs) → sum_of g xs ≡ sum_of g zs) → g x + sum_of g xs ≡ sum_of g ys
      step (p, q, e) below =
          let o = apart_out x p q (subst Apart e b) in
          ap (λ m. g x + m) (below (p ++ q) a o.0 (λ z m. in_out z x p q (λ k. n (subst (λ w. In w xs) k m)) (subst (λ w. In z w) e (f z (inr m))))
          (λ z m. elim (h z (subst (λ w. In z w) (sym e) (out_in z x p q m))) [ inl k ↦ absurd (o.1 (subst (λ w. In w (p ++ q)) k m)) | inr k ↦ k ]))
          ∙ sym (sum_out g x p q) ∙ ap (sum_of g) (sym e)

  pub apart_append : (xs ys : List X) → Apart xs → Apart ys → ((x : X) → In x xs → In x ys → ⊥) → Apart (xs ++ ys)
  apart_append [] ys a b d = b
  apart_append (x ∷ xs) ys (n, a) b d =
      ((λ m. elim (in_cases x xs ys m) [ inl k ↦ n k | inr k ↦ d x (inl refl) k ]), apart_append xs ys a b (λ z m k. d z (inr m) k))

  -- counting
  module _ (dec : Discrete X) where
    abbrev pub one_at : X → X → ℕ
    one_at x y = ite (dec y x) 1 0

    pub in_count : (x : X) (xs : List X) → In x xs → 1 ≤ sum_of (one_at x) xs
    in_count x [] m = absurd m
    in_count x (y ∷ xs) (inl e) = omega (arith, if_pos {C = ℕ} (dec y x) (sym e) 1 0)
    in_count x (y ∷ xs) (inr m) = let h = in_count x xs m in omega arith

    pub count_in : (x : X) (xs : List X) → 1 ≤ sum_of (one_at x) xs → In x xs
    count_in x [] h = absurd (omega arith)
    count_in x (y ∷ xs) h = go (dec y x) (λ n. count_in x xs (omega (arith, if_neg {C = ℕ} (dec y x) n 1 0)))
      where
        go : Dec (y ≡ x) → ((y ≡ x → ⊥) → In x xs) → (x ≡ y) ⊎ In x xs
        go (yes e) f = inl (sym e)
        go (no n) f = inr (f n)

    pub apart_count : (x : X) (xs : List X) → Apart xs → sum_of (one_at x) xs ≤ 1
    apart_count x [] a = omega arith
    apart_count x (y ∷ xs) (n, a) = go (dec y x) (apart_count x xs a)
      where
        none : (y ≡ x) → sum_of (one_at x) xs < 1 ⊎ (1 ≤ sum_of (one_at x) xs) → sum_of (one_at x) xs ≡ 0
        none e (inl h) = omega arith
        none e (inr h) = absurd (n (subst (λ z. In z xs) (sym e) (count_in x xs h)))

        low : (k : ℕ) → (k < 1) ⊎ (1 ≤ k)
        low zero = inl (omega arith)
        low (suc k) = inr (omega arith)

        go : Dec (y ≡ x) → sum_of (one_at x) xs ≤ 1 → one_at x y + sum_of (one_at x) xs ≤ 1
        go (yes e) h = omega (arith, if_pos {C = ℕ} (dec y x) e 1 0, none e (low (sum_of (one_at x) xs)))
        go (no k) h = omega (arith, if_neg {C = ℕ} (dec y x) k 1 0)

    pub count_apart : (xs : List X) → ((x : X) → sum_of (one_at x) xs ≤ 1) → Apart xs
    count_apart [] h = tt
    count_apart (y ∷ xs) h = (
      (λ m. absurd (omega (arith, h y, in_count y xs m, if_pos {C = ℕ} (dec y y) refl 1 0))),
      count_apart xs (λ x. omega (arith, h x)),
    )

length_sum : {X : Type 0} (xs : List X) → length xs ≡ sum_of (λ x. 1) xs
length_sum [] = refl
length_sum (x ∷ xs) = let h = length_sum xs in omega arith

pub same_length : {X : Type 0} (xs ys : List X) → Apart xs → Apart ys → ((x : X) → In x xs → In x ys) → ((x : X) → In x ys → In x xs) → length xs ≡ length ys
same_length xs ys a b f h = length_sum xs ∙ same_sum (λ x. 1) xs ys a b f h ∙ sym (length_sum ys)
