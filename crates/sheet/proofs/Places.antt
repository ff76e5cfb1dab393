-- Places in a list.
use Rattle.std.proofs.Common.{◌≡◌, ℕ, zero, suc, ◌⊎◌, List, [], ◌∷◌, ◌++◌, length, Some, refl, ap, subst, inl, inr, arith}
use Rattle.std.specs.List.{AllByRecursion, slice_get}
pub use Rattle.std.proofs.lemmas.Option.{slice_get_within as nth_below}

pub nth_front : {X : Type 0} (xs ys : List X) (k : ℕ) (x : X) → slice_get xs k ≡ Some x → slice_get (xs ++ ys) k ≡ Some x
nth_front [] ys k x e = absurd (grind arith)
nth_front (y ∷ xs) ys zero x e = e
nth_front (y ∷ xs) ys (suc k) x e = nth_front xs ys k x e

pub nth_at : {X : Type 0} (xs ys : List X) (y : X) → slice_get (xs ++ y ∷ ys) (length xs) ≡ Some y
nth_at [] ys y = refl
nth_at (x ∷ xs) ys y = nth_at xs ys y

-- an element of a list with one more stands in the list, or is the one
pub nth_push : {X : Type 0} (xs : List X) (y : X) (k : ℕ) (x : X) → slice_get (xs ++ y ∷ []) k ≡ Some x → (slice_get xs k ≡ Some x) ⊎ ((k ≡ length xs) × (y ≡ x))
nth_push [] y zero x e = inr (refl, (cc))
nth_push [] y (suc k) x e = absurd (grind arith)
nth_push (z ∷ xs) y zero x e = inl e
nth_push (z ∷ xs) y (suc k) x e = elim (nth_push xs y k x e) [ inl h ↦ inl h | inr h ↦ inr (ap suc h.0, h.1) ]

pub all_nth : {X : Type 0} (P : X → Type 0) (xs : List X) (k : ℕ) (x : X) → AllByRecursion P xs → slice_get xs k ≡ Some x → P x
all_nth P [] k x h e = absurd (grind arith)
all_nth P (y ∷ xs) zero x h e = let is : y ≡ x = cc in subst P is h.0
all_nth P (y ∷ xs) (suc k) x h e = all_nth P xs k x h.1 e
