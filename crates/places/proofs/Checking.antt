-- What a test of each element with its number tells, and a search over a range of numbers.
use Rattle.std.proofs.Common.{◌≡◌, ℕ, ◌+◌, ◌-◌, ◌<◌, ◌≤◌, Bool, true, false, List, length, get_or, Some, None, Option, MatchBool, MatchOption, IfSome, IsSomeAnd, IsTrue, Decides, refl, ap, ◌∙◌, subst, arith, zero-add}
use mathlib.Core.Bool.{false≢true}
use denote.Param.Members.{Mut}
use Rattle.std.specs.Fn.{Called}
use Rattle.std.specs.Iterator.Runs.{Run, SomeRun, CallKeepsClosure, AllItemsGive, IsFirstToGive}
use Rattle.std.specs.List.{enumerate_from, AllWithin, HoldsAt}
use Rattle.std.specs.Option.{option_map}
use Rattle.std.specs.declared.ops.Range.{Range}
use Rattle.std.proofs.iter.Yields.{nat_range_steps}
use Rattle.std.proofs.iter.runs.Sources.{range_runs}
use Rattle.std.proofs.lemmas.List.FromFn.{length-enumerate_from, get_or-enumerate_from}

-- each element, by its number
pub all_numbered : {X : Type 0} (P : ℕ → X → Type 0) (xs : List X) (d : X) (r : Bool)
    → MatchBool r (AllWithin (λ x. P x.0 x.1) (enumerate_from 0 xs) 0 (length (enumerate_from 0 xs))) ((k : ℕ) × (k < length (enumerate_from 0 xs)) × HoldsAt (λ x. P x.0 x.1 → ⊥) (enumerate_from 0 xs) k)
    → Decides r ((k : ℕ) → k < length xs → P k (get_or xs k d))
all_numbered {X} P xs d true all = (
  (λ _ k h. subst (λ x. P x.0 x.1) (numbered k h) (all k (0, d) (omega arith) (omega (arith, length-enumerate_from 0 xs)))),
  λ _. refl,
)
  where
    numbered : (k : ℕ) → k < length xs → get_or (enumerate_from 0 xs) k (0, d) ≡ (k, get_or xs k d)
    numbered k h = get_or-enumerate_from 0 xs k (0, d) h ∙ ap (λ n. (n, get_or xs k d)) (zero-add k)
all_numbered {X} P xs d false (k, h, fails) = (
  (λ e. absurd (false≢true e)),
  λ all. absurd (subst (λ x. P x.0 x.1 → ⊥) (numbered (omega (arith, length-enumerate_from 0 xs))) (fails (0, d)) (all k (omega (arith, length-enumerate_from 0 xs)))),
)
  where
    numbered : k < length xs → get_or (enumerate_from 0 xs) k (0, d) ≡ (k, get_or xs k d)
    numbered l = get_or-enumerate_from 0 xs k (0, d) l ∙ ap (λ n. (n, get_or xs k d)) (zero-add k)

-- `find_map` over a range, whose closure leaves what it holds as it was
module _ {F B : Type 0} {g : Mut F (ℕ × Unit {0}) (Option B)} (f : F) (keeps : CallKeepsClosure g f) (No : ℕ → Type 0) (Yes : ℕ → B → Type 0)
    (nothing : (x : ℕ) → Called g f (x, tt) None f → No x) (something : (x : ℕ) (y : B) → Called g f (x, tt) (Some y) f → Yes x y) where
  itself : (o : Option ℕ) (n : ℕ) → option_map (λ y. y) o ≡ Some n → o ≡ Some n
  itself None n e = e
  itself (Some x) n e = e

  item : (p : Run nat_range_steps) (k : ℕ) → k < p.len → p.at k ≡ Some (p.from.start + k)
  item p k l = itself (p.at k) (p.from.start + k) ((range_runs p p.seen).3 k l)

  before : (p : Run nat_range_steps) (a n : ℕ) → p.from.start ≡ a → n ≤ p.len → ((k : ℕ) → k < n → IfSome (p.at k) (λ x. Called g f (x, tt) None f)) → (k : ℕ) → a ≤ k → k < a + n → No k
  before p a n e l h k b c =
      let j : k - a < n = omega arith in
      let at_k : p.at (k - a) ≡ Some k = item p (k - a) (omega arith) ∙ ap Some (omega arith) in
      nothing k (subst (λ o. IfSome o (λ x. Called g f (x, tt) None f)) at_k (h (k - a) j))

  if_some : (o : Option ℕ) → IsSomeAnd o (λ x. Called g f (x, tt) None f) → IfSome o (λ x. Called g f (x, tt) None f)
  if_some None h = absurd h
  if_some (Some x) h = h

  pub first_mapped_from_Range : (s : Range ℕ) (r : Option B)
      → SomeRun nat_range_steps s (λ p. MatchOption r (IsTrue p.whole × AllItemsGive p g f None) (λ y. (i : ℕ) × (i < p.len) × (p.len ≡ i + 1) × IsFirstToGive p g f (Some y) None i))
      → MatchOption r ((k : ℕ) → s.start ≤ k → k < s.end → No k) (λ y. (i : ℕ) × (i < s.end) × Yes i y × ((k : ℕ) → s.start ≤ k → k < i → No k))
  first_mapped_from_Range s None (p, e, (w, all)) =
      let start = ap (λ (z : Range ℕ). z.start) e in
      λ k a b. before p s.start p.len start (omega arith) (λ j l. all keeps j) k a (omega (arith, start, ap (λ (z : Range ℕ). z.end) e, (range_runs p p.seen).1 w))
  first_mapped_from_Range s (Some y) (p, e, (i, l, n, h)) =
      let start = ap (λ (z : Range ℕ). z.start) e in (
        s.start + i,
        omega (arith, start, ap (λ (z : Range ℕ). z.end) e, (range_runs p p.seen).0),
        something (s.start + i) y (subst (λ o. IsSomeAnd o (λ x. Called g f (x, tt) (Some y) f)) (item p i l ∙ ap (λ a. Some (a + i)) start) (h keeps).0),
        before p s.start i start (omega arith) (λ k b. if_some (p.at k) ((h keeps).1 k b)),
      )
