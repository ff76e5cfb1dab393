-- The tests of the specification, as `all` and `any` ask them of lists.
use Rattle.std.proofs.Common.{◌≡◌, ℕ, ◌+◌, ◌<◌, Bool, true, ◌&&◌, ◌||◌, List, [], ◌∷◌, length, get_or, Some, None, Decides, Option, sym, refl, ap, ◌∙◌, subst, arith}
use denote.Param.Members.{Mut}
use denote.Ref.{Bor}
use Rattle.std.specs.declared.ops.Range.{Range}
use Rattle.std.specs.declared.slice.Iter.{Iter}
use Rattle.std.specs.Fn.{Called}
use Rattle.std.specs.Iterator.{ChecksAll, ChecksAny}
use Rattle.std.specs.Slice.Iter.{iter_rest}
use Rattle.std.proofs.iter.Yields.{fronts, nat_range_steps}
use Rattle.std.proofs.lemmas.Iterator.{YieldsList-from_slice, YieldsList-from_range}
use Rattle.std.proofs.lemmas.Iterator.Search.{all_from_yields_List, any_from_yields_List}
use Rattle.std.specs.List.{All, list_all, list_any, range_with_len, enumerate_from, slice_get}
use Rattle.std.proofs.lemmas.Bool.Decides.{Decides-by_and, Decides-below_and, Decides-like, same_from_decides}
use Rattle.std.proofs.lemmas.List.FromFn.{length-range_with_len, get_or-range_with_len, length-enumerate_from, get_or-enumerate_from}
use Rattle.std.proofs.lemmas.Option.{slice_get-get_or}
use Rattle.grammar.specs.Tests.{every, some, every_below}
use Rattle.plans.proofs.Places.{Throughout, decides_throughout, nth_within, nth_at}

abbrev Passes : {X : Type 0} → (X → Bool) → X → Type 0
Passes p x = p x ≡ true

same : {X : Type 0} (p : X → Bool) (x : X) → Decides (p x) (Passes p x)
same p x = (λ h. h, λ h. h)

pub all_of_list : {X : Type 0} (p : X → Bool) (xs : List X) → list_all p xs ≡ every p xs
all_of_list p [] = refl
all_of_list p (x ∷ xs) = ap (λ b. p x && b) (all_of_list p xs)

pub any_of_list : {X : Type 0} (p : X → Bool) (xs : List X) → list_any p xs ≡ some p xs
any_of_list p [] = refl
any_of_list p (x ∷ xs) = ap (λ b. p x || b) (any_of_list p xs)

-- what `all` answered over a list, where the closure computes a test
pub every_asked : {A F : Type 0} {g : Mut F (Bor A × Unit {0}) Bool} {s : Iter A} (test : A → Bool) (xs : List A) (u : Iter A) (f : F) (r : Bool) → ChecksAll fronts g s f r u → iter_rest s ≡ xs → ((x : Bor A) (b : Bool) (q : F) → Called g f (x, tt) b q → (q ≡ f) × (b ≡ test x.now)) → r ≡ every test xs
every_asked test xs u f r ran is told = all_from_yields_List test u f r ran (YieldsList-from_slice xs is) told ∙ all_of_list test xs

-- and what `any` answered
pub some_asked : {A F : Type 0} {g : Mut F (Bor A × Unit {0}) Bool} {s : Iter A} (test : A → Bool) (xs : List A) (u : Iter A) (f : F) (r : Bool) → ChecksAny fronts g s f r u → iter_rest s ≡ xs → ((x : Bor A) (b : Bool) (q : F) → Called g f (x, tt) b q → (q ≡ f) × (b ≡ test x.now)) → r ≡ some test xs
some_asked test xs u f r ran is told = any_from_yields_List test u f r ran (YieldsList-from_slice xs is) told ∙ any_of_list test xs

all_decides : {X : Type 0} (p : X → Bool) (xs : List X) → Decides (list_all p xs) (All (Passes p) xs)
all_decides p xs = Decides-by_and p (Passes p) (list_all p) (same p) refl (λ _ _. refl) xs

pub all_below : (p : ℕ → Bool) (n : ℕ) → list_all p (range_with_len 0 n) ≡ every_below p n
all_below p n =
    same_from_decides _ _
    (Decides-like _
    (λ h k l. subst (Passes p) (get_or-range_with_len 0 n k 0 l ∙ omega arith) (h k 0 (subst (λ m. k < m) (sym (length-range_with_len 0 n)) l)))
    (λ h k d l. let g = subst (λ m. k < m) (length-range_with_len 0 n) l in subst (Passes p) (sym (get_or-range_with_len 0 n k d g ∙ omega arith)) (h k g))
    (all_decides p (range_with_len 0 n)))
    (Decides-below_and p (Passes p) (every_below p) (same p) refl (λ _. refl) n)

-- what `all` answered over the numbers below n
pub below_asked : {F : Type 0} {g : Mut F (ℕ × Unit {0}) Bool} {s : Range ℕ} (test : ℕ → Bool) (n : ℕ) (u : Range ℕ) (f : F) (r : Bool) → ChecksAll nat_range_steps g s f r u → s ≡ record { start = 0; end = n } → ((x : ℕ) (b : Bool) (q : F) → Called g f (x, tt) b q → (q ≡ f) × (b ≡ test x)) → r ≡ every_below test n
below_asked test n u f r ran is told = all_from_yields_List test u f r ran (YieldsList-from_range 0 n n is (omega arith)) told ∙ all_below test n

-- a test of each element at its place
pub all_places : {X : Type 0} (t : ℕ → Option X → Bool) (xs : List X) → ((i : ℕ) → t i None ≡ true) → list_all (λ p. t p.0 (Some p.1)) (enumerate_from 0 xs) ≡ every_below (λ i. t i (slice_get xs i)) (length xs)
all_places {X} t xs none =
    same_from_decides _ _
    (Decides-like _ there back (all_decides test (enumerate_from 0 xs)))
    (decides_throughout t (λ i x. t i (Some x) ≡ true) xs none (λ i x. same (λ y. t i (Some y)) x))
  where
    test : ℕ × X → Bool
    test p = t p.0 (Some p.1)

    there : All (Passes test) (enumerate_from 0 xs) → Throughout (λ i x. t i (Some x) ≡ true) xs
    there h i x e =
        let l = nth_within xs i x e in
        let at : get_or (enumerate_from 0 xs) i (0, x) ≡ (i, x) = get_or-enumerate_from 0 xs i (0, x) l ∙ ap (λ y. (0 + i, y)) (nth_at xs i x x e) ∙ ap (λ n. (n, x)) (omega arith) in
        subst (Passes test) at (h i (0, x) (subst (λ m. i < m) (sym (length-enumerate_from 0 xs)) l))

    back : Throughout (λ i x. t i (Some x) ≡ true) xs → All (Passes test) (enumerate_from 0 xs)
    back h i d l =
        let g = subst (λ m. i < m) (length-enumerate_from 0 xs) l in
        let at : get_or (enumerate_from 0 xs) i d ≡ (i, get_or xs i d.1) = get_or-enumerate_from 0 xs i d g ∙ ap (λ n. (n, get_or xs i d.1)) (omega arith) in
        subst (Passes test) (sym at) (h i (get_or xs i d.1) (slice_get-get_or xs i d.1 g))
