-- What holds at each place of a list, and at each place before one.
use Rattle.std.proofs.Common.{◌≡◌, ℕ, zero, suc, ◌+◌, ◌<◌, ◌≤◌, Bool, true, List, [], ◌∷◌, map, length, get_or, take, Some, None, Decides, Option, sym, refl, ap, ◌∙◌, subst, ⊎_elim, arith}
use Rattle.std.specs.Option.{option_map}
use Rattle.std.specs.List.{AllByRecursion, slice_get}
use Rattle.std.proofs.lemmas.Option.{slice_get-get_or}
use Rattle.std.proofs.lemmas.Bool.{cases_lt}
use Rattle.std.proofs.lemmas.Bool.Decides.{Decides-below_and, Decides-like}
use Rattle.grammar.specs.Tests.{every_below}
use Rattle.grammar.proofs.Elements.{nth_map}
use Rattle.plans.proofs.Deciding.{never}

-- P holds at each place of the list
abbrev pub Throughout : {X : Type 0} → (ℕ → X → Type 0) → List X → Type 0
Throughout {X} P xs = (m : ℕ) (x : X) → slice_get xs m ≡ Some x → P m x

-- P holds at each place before n
abbrev pub Upto : {X : Type 0} → (ℕ → X → Type 0) → List X → ℕ → Type 0
Upto {X} P xs n = (m : ℕ) (x : X) → m < n → slice_get xs m ≡ Some x → P m x

-- what stands at a place stands within the list
pub nth_within : {X : Type 0} (xs : List X) (i : ℕ) (x : X) → slice_get xs i ≡ Some x → i < length xs
nth_within [] i x e = never (cc)
nth_within (y ∷ ys) zero x e = omega arith
nth_within (y ∷ ys) (suc i) x e = let h = nth_within ys i x e in omega arith

pub nth_at : {X : Type 0} (xs : List X) (i : ℕ) (x d : X) → slice_get xs i ≡ Some x → get_or xs i d ≡ x
nth_at xs i x d e = let h = slice_get-get_or xs i d (nth_within xs i x e) in cc

module _ {X : Type 0} (P : ℕ → X → Type 0) (xs : List X) where
  pub upto_more : (i : ℕ) (d : X) → i < length xs → Upto P xs i → P i (get_or xs i d) → Upto P xs (i + 1)
  upto_more i d in' before here m x h e =
      ⊎_elim (λ l. before m x l e) (λ g. let same : m ≡ i = omega arith in at same) (cases_lt m i)
    where
      at : m ≡ i → P m x
      at same = subst (λ k. P k x) (sym same) (subst (P i) (nth_at xs i x d (ap (slice_get xs) (sym same) ∙ e)) here)

  pub upto_all : (i : ℕ) → length xs ≤ i → Upto P xs i → Throughout P xs
  upto_all i all h m x e = h m x (let l = nth_within xs m x e in omega arith) e

  pub upto_here : (i : ℕ) (d : X) → i < length xs → Throughout P xs → P i (get_or xs i d)
  upto_here i d in' h = h i (get_or xs i d) (slice_get-get_or xs i d in')

  -- x was read at place i
  pub upto_read : (i : ℕ) (x : X) → i < length xs → x ≡ get_or xs i x → Upto P xs i → P i x → Upto P xs (i + 1)
  upto_read i x in' read before here = upto_more i x in' before (subst (P i) read here)

  pub here_read : (i : ℕ) (x : X) → i < length xs → x ≡ get_or xs i x → Throughout P xs → P i x
  here_read i x in' read h = subst (P i) (sym read) (upto_here i x in' h)

-- a test at each place tells whether P holds throughout
pub decides_throughout : {X : Type 0} (t : ℕ → Option X → Bool) (P : ℕ → X → Type 0) (xs : List X) → ((i : ℕ) → t i None ≡ true) → ((i : ℕ) (x : X) → Decides (t i (Some x)) (P i x)) → Decides (every_below (λ i. t i (slice_get xs i)) (length xs)) (Throughout P xs)
decides_throughout {X} t P xs none each =
    Decides-like _
    (λ h m x e. h m (nth_within xs m x e) x e)
    (λ h m l x e. h m x e)
    (Decides-below_and (λ i. t i (slice_get xs i)) (λ i. (x : X) → slice_get xs i ≡ Some x → P i x) (every_below (λ i. t i (slice_get xs i))) (λ i. by i (slice_get xs i)) refl (λ _. refl) (length xs))
  where
    by : (i : ℕ) (o : Option X) → Decides (t i o) ((x : X) → o ≡ Some x → P i x)
    by i None = (λ r x e. never (cc), λ _. none i)
    by i (Some y) = (λ r x e. let same : y ≡ x = cc in subst (P i) same ((each i y).0 r), λ h. (each i y).1 (h y refl))

-- what holds of each element holds at each place
pub all_throughout : {X : Type 0} (P : X → Type 0) (xs : List X) → AllByRecursion P xs → Throughout (λ _ x. P x) xs
all_throughout P [] h m x e = never (cc)
all_throughout P (y ∷ ys) h zero x e = let same : y ≡ x = cc in subst P same h.0
all_throughout P (y ∷ ys) h (suc m) x e = all_throughout P ys h.1 m x e

pub throughout_all : {X : Type 0} (P : X → Type 0) (xs : List X) → Throughout (λ _ x. P x) xs → AllByRecursion P xs
throughout_all P [] h = tt
throughout_all P (y ∷ ys) h = (h 0 y refl, throughout_all P ys (λ m x e. h (suc m) x e))

-- what holds through a list of rows holds through the list of what they mean
pub throughout_map : {X Y : Type 0} (f : X → Y) (P : ℕ → Y → Type 0) (xs : List X) → Throughout (λ m x. P m (f x)) xs → Throughout P (map f xs)
throughout_map {X} f P xs h m y e = by (slice_get xs m) refl (sym (nth_map f xs m) ∙ e)
  where
    by : (o : Option X) → slice_get xs m ≡ o → option_map f o ≡ Some y → P m y
    by None is k = never (cc)
    by (Some x) is k = let same : f x ≡ y = cc in subst (P m) same (h m x is)

pub map_throughout : {X Y : Type 0} (f : X → Y) (P : ℕ → Y → Type 0) (xs : List X) → Throughout P (map f xs) → Throughout (λ m x. P m (f x)) xs
map_throughout f P xs h m x e = h m (f x) (nth_map f xs m ∙ ap (option_map f) e)

-- what stands in the front part of a list stands there in the list
pub nth_front : {X : Type 0} (n : ℕ) (xs : List X) (m : ℕ) → m < n → slice_get (take n xs) m ≡ slice_get xs m
nth_front zero xs m h = absurd (omega arith)
nth_front (suc n) [] m h = refl
nth_front (suc n) (x ∷ xs) zero h = refl
nth_front (suc n) (x ∷ xs) (suc m) h = nth_front n xs m (omega arith)
