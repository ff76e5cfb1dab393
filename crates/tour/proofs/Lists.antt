-- What stands in a list, and lists without repeats.
use Rattle.std.proofs.Common.{◌≡◌, Bool, true, false, cond, ◌⊎◌, List, [], ◌∷◌, ◌++◌, map, filter, sym, refl, ap, ◌∙◌, subst, inl, inr}
use Rattle.tour.specs.Runs.{In, Apart}

module _ {X : Type 0} where
  pub in_left : (x : X) (xs ys : List X) → In x xs → In x (xs ++ ys)
  in_left x [] ys h = absurd h
  in_left x (y ∷ xs) ys (inl e) = inl e
  in_left x (y ∷ xs) ys (inr h) = inr (in_left x xs ys h)

  pub in_right : (x : X) (xs ys : List X) → In x ys → In x (xs ++ ys)
  in_right x [] ys h = h
  in_right x (y ∷ xs) ys h = inr (in_right x xs ys h)

  pub in_cases : (x : X) (xs ys : List X) → In x (xs ++ ys) → In x xs ⊎ In x ys
  in_cases x [] ys h = inr h
  in_cases x (y ∷ xs) ys (inl e) = inl (inl e)
  in_cases x (y ∷ xs) ys (inr h) = elim (in_cases x xs ys h) [ inl m ↦ inl (inr m) | inr m ↦ inr m ]

  -- a list taken apart at a member
  pub in_split : (x : X) (xs : List X) → In x xs → (p : List X) × (q : List X) × (xs ≡ p ++ x ∷ q)
  in_split x [] h = absurd h
  in_split x (y ∷ xs) (inl e) = ([], xs, ap (λ z. z ∷ xs) (sym e))
  in_split x (y ∷ xs) (inr h) = let r = in_split x xs h in (y ∷ r.0, r.1, ap (λ z. y ∷ z) r.2)

  pub apart_front : (xs ys : List X) (x : X) → Apart (xs ++ x ∷ ys) → In x xs → ⊥
  apart_front [] ys x a m = m
  apart_front (z ∷ xs) ys x (n, a) (inl e) = n (subst (λ w. In w (xs ++ x ∷ ys)) e (in_right x xs (x ∷ ys) (inl refl)))
  apart_front (z ∷ xs) ys x (n, a) (inr m) = apart_front xs ys x a m

  pub head_same : (x y : X) (xs ys : List X) → x ∷ xs ≡ y ∷ ys → x ≡ y
  head_same x y xs ys e = cc

  pub tail_same : (x y : X) (xs ys : List X) → x ∷ xs ≡ y ∷ ys → xs ≡ ys
  tail_same x y xs ys e = cc

  -- an element taken out
  pub apart_out : (x : X) (p q : List X) → Apart (p ++ x ∷ q) → Apart (p ++ q) × (In x (p ++ q) → ⊥)
  apart_out x [] q a = (a.1, a.0)
  apart_out x (y ∷ p) q (n, a) =
      let r = apart_out x p q a in (
        (λ m. n (elim (in_cases y p q m) [ inl k ↦ in_left y p (x ∷ q) k | inr k ↦ in_right y p (x ∷ q) (inr k) ]), r.0),
        λ m. elim m [ inl e ↦ n (subst (λ z. In z (p ++ x ∷ q)) e (in_right x p (x ∷ q) (inl refl))) | inr k ↦ r.1 k ],
      )

  pub in_out : (z x : X) (p q : List X) → (z ≡ x → ⊥) → In z (p ++ x ∷ q) → In z (p ++ q)
  in_out z x p q n m = elim (in_cases z p (x ∷ q) m)
      [ inl k ↦ in_left z p q k | inr (inl e) ↦ absurd (n e) | inr (inr k) ↦ in_right z p q k ]

  pub out_in : (z x : X) (p q : List X) → In z (p ++ q) → In z (p ++ x ∷ q)
  out_in z x p q m = elim (in_cases z p q m) [ inl k ↦ in_left z p (x ∷ q) k | inr k ↦ in_right z p (x ∷ q) (inr k) ]

  pub in_map : {Y : Type 0} (f : Y → X) (y : Y) (ys : List Y) → In y ys → In (f y) (map f ys)
  in_map f y [] m = m
  in_map f y (z ∷ ys) (inl e) = inl (ap f e)
  in_map f y (z ∷ ys) (inr m) = inr (in_map f y ys m)

  pub map_in : {Y : Type 0} (f : Y → X) (x : X) (ys : List Y) → In x (map f ys) → (y : Y) × In y ys × (x ≡ f y)
  map_in f x [] m = absurd m
  map_in f x (z ∷ ys) (inl e) = (z, inl refl, e)
  map_in f x (z ∷ ys) (inr m) = let r = map_in f x ys m in (r.0, inr r.1, r.2)

  pub apart_map : {Y : Type 0} (f : Y → X) (back : X → Y) → ((y : Y) → back (f y) ≡ y) → (ys : List Y) → Apart ys → Apart (map f ys)
  apart_map f back e [] a = tt
  apart_map f back e (y ∷ ys) (n, a) = (
    (λ m. let r = map_in f (f y) ys m in n (subst (λ z. In z ys) (sym (sym (e y) ∙ ap back r.2 ∙ e r.0)) r.1)),
    apart_map f back e ys a,
  )

  pub kept_in : (p : X → Bool) (x : X) (xs : List X) → In x (filter p xs) → In x xs × (p x ≡ true)
  kept_in p x [] m = absurd m
  kept_in p x (y ∷ xs) m = go (p y) refl m (kept_in p x xs)
    where
      go : (b : Bool) → p y ≡ b → In x (cond b (y ∷ filter p xs) (filter p xs)) → (In x (filter p xs) → In x xs × (p x ≡ true)) → ((x ≡ y) ⊎ In x xs) × (p x ≡ true)
      go true e (inl q) f = (inl q, ap p q ∙ e)
      go true e (inr h) f = let r = f h in (inr r.0, r.1)
      go false e h f = let r = f h in (inr r.0, r.1)

  pub in_kept : (p : X → Bool) (x : X) (xs : List X) → In x xs → p x ≡ true → In x (filter p xs)
  in_kept p x [] m e = m
  in_kept p x (y ∷ xs) (inl q) e = subst (λ b. In x (cond b (y ∷ filter p xs) (filter p xs))) (sym (ap p (sym q) ∙ e)) (inl q)
  in_kept p x (y ∷ xs) (inr m) e = go (p y) (in_kept p x xs m e)
    where
      go : (b : Bool) → In x (filter p xs) → In x (cond b (y ∷ filter p xs) (filter p xs))
      go true h = inr h
      go false h = h
