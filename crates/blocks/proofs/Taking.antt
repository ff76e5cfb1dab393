-- The places that a block takes.
use Rattle.std.proofs.Common.{◌≡◌, ℕ, zero, suc, ◌+◌, ◌<◌, List, [], ◌∷◌, ◌++◌, length, take, drop, Some, None, Option, sym, refl, ap, ◌∙◌, inl, inr, ⊎_elim, arith}
use Rattle.std.proofs.lemmas.List.{length-take-le, take-append-drop}
use Rattle.tour.specs.Runs.{In, Apart}
use Rattle.places.specs.Places.{at}
use Rattle.places.specs.declared.node.Node.{Node}
use Rattle.places.specs.Totals.{free_from, free}
use Rattle.blocks.specs.Taken.{taken, TakenLaw}

in_take : {X : Type 0} (x : X) (n : ℕ) (xs : List X) → In x (take n xs) → In x xs
in_take x zero xs h = absurd h
in_take x (suc n) [] h = absurd h
in_take x (suc n) (y ∷ xs) h = ⊎_elim inl (λ k. inr (in_take x n xs k)) h

apart_take : {X : Type 0} (n : ℕ) (xs : List X) → Apart xs → Apart (take n xs)
apart_take zero xs h = tt
apart_take (suc n) [] h = tt
apart_take (suc n) (x ∷ xs) h = ((λ k. h.0 (in_take x n xs k)), apart_take n xs h.1)

-- a free place lies in the table
record Lies (i : ℕ) (ps : List (Option Node)) (p : ℕ) : Type 0 where
  pub from : ℕ
  pub number : p ≡ i + from
  pub inside : from < length ps
  pub empty : at ps from ≡ None

lies_on : (i : ℕ) (o : Option Node) (ps : List (Option Node)) (p : ℕ) → Lies (suc i) ps p → Lies i (o ∷ ps) p
lies_on i o ps p l = record { from = suc l.from; number = omega (arith, l.number); inside = omega (arith, l.inside); empty = l.empty }

lies : (i : ℕ) (ps : List (Option Node)) (p : ℕ) → In p (free_from i ps) → Lies i ps p
lies i [] p h = absurd h
lies i (None ∷ ps) p (inl e) = record { from = 0; number = omega (arith, e); inside = omega arith; empty = refl }
lies i (None ∷ ps) p (inr h) = lies_on i None ps p (lies (suc i) ps p h)
lies i (Some n ∷ ps) p h = lies_on i (Some n) ps p (lies (suc i) ps p h)

free_apart : (i : ℕ) (ps : List (Option Node)) → Apart (free_from i ps)
free_apart i [] = tt
free_apart i (None ∷ ps) = ((λ h. let l = lies (suc i) ps i h in absurd (omega (arith, l.number))), free_apart (suc i) ps)
free_apart i (Some n ∷ ps) = free_apart (suc i) ps

pub taken_takes : TakenLaw
unfolding taken
taken_takes ps n l = record {
  many = length-take-le n (free ps) l;
  apart = apart_take n (free ps) (free_apart 0 ps);
  inside = λ p h. let k = lies 0 ps p (in_take p n (free ps) h) in omega (arith, k.number, k.inside);
  free_so_far = λ p h. let k = lies 0 ps p (in_take p n (free ps) h) in let e : p ≡ k.from = omega (arith, k.number) in ap (at ps) e ∙ k.empty;
}

-- the free places are the taken ones and those that are left
pub taken_first : (ps : List (Option Node)) (n : ℕ) → free ps ≡ taken ps n ++ drop n (free ps)
unfolding taken
taken_first ps n = sym (take-append-drop n (free ps))
