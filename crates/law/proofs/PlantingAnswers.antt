-- Whether a planting is accepted, by the book alone.
use Rattle.std.proofs.Common.{◌≡◌, ℕ, zero, suc, ◌+◌, cond, List, [], ◌∷◌, length, Some, None, Ok, Err, count_by, Option, Result, sym, refl, ap, ◌∙◌, subst, inl, inr, arith}
use Rattle.std.proofs.lemmas.List.Sums.{sum_by-cons}
use Rattle.grammar.specs.Model.{Grammar}
use Rattle.tour.specs.Runs.{In, Apart}
use Rattle.tour.proofs.Sums.{same_length}
use Rattle.places.specs.Places.{at}
use Rattle.places.specs.Shape.{InShape}
use Rattle.places.specs.declared.node.Node.{Node}
use Rattle.places.specs.Totals.{is_free}
use Rattle.law.specs.Handed.{Archive, Rundown, Ticket, Piece}
use Rattle.law.specs.Conditions.{ShortValues, FewCells, BadLength, Formless, TooDeep, TooFew, Checks, passed, check}
use Rattle.law.specs.Calls.{plant_checks, Plants}
use Rattle.law.specs.Book.{Book, all_places}
use Rattle.law.specs.Histories.Event.{plant}
use Rattle.law.specs.Law.{ShowsBook, book_free, ByBook}
use Rattle.law.specs.declared.decline.Decline.{Decline}
use Rattle.law.specs.declared.decline.Decline.TheVariants.{Tables, Length, Form, Depth, Full, Shape, Cells}
use Rattle.law.proofs.Right.{Right}
use Rattle.law.proofs.LayingSound.{some_none, in_either}

-- the used places of a table whose first place has number i
abbrev used_from : ℕ → List (Option Node) → List ℕ
used_from i [] = []
used_from i (None ∷ ps) = used_from (suc i) ps
used_from i (Some n ∷ ps) = i ∷ used_from (suc i) ps

-- each place is used or free
used_count : (i : ℕ) (ps : List (Option Node)) → length (used_from i ps) + count_by is_free ps ≡ length ps
used_count i [] = refl
used_count i (None ∷ ps) = let h = used_count (suc i) ps in let s = sum_by-cons (λ o. cond (is_free o) 1 0) None ps in omega arith
used_count i (Some n ∷ ps) = let h = used_count (suc i) ps in let s = sum_by-cons (λ o. cond (is_free o) 1 0) (Some n) ps in omega arith

in_used : (i p : ℕ) (ps : List (Option Node)) → In p (used_from i ps) → (j : ℕ) × (p ≡ i + j) × (at ps j ≡ None → ⊥)
in_used i p [] m = absurd m
in_used i p (None ∷ ps) m = let r = in_used (suc i) p ps m in (suc r.0, omega (arith, r.1), r.2)
in_used i p (Some n ∷ ps) (inl e) = (0, omega arith, λ z. some_none (Some n) n z refl)
in_used i p (Some n ∷ ps) (inr m) = let r = in_used (suc i) p ps m in (suc r.0, omega (arith, r.1), r.2)

used_in_lem : (i j : ℕ) (ps : List (Option Node)) → (at ps j ≡ None → ⊥) → In (i + j) (used_from i ps)
used_in_lem i j [] n = absurd (n refl)
used_in_lem i zero (None ∷ ps) n = absurd (n refl)
used_in_lem i (suc j) (None ∷ ps) n = let e : suc i + j ≡ i + suc j = omega arith in subst (λ z. In z (used_from (suc i) ps)) e (used_in_lem (suc i) j ps n)
used_in_lem i zero (Some m ∷ ps) n = inl (omega arith)
used_in_lem i (suc j) (Some m ∷ ps) n = let e : suc i + j ≡ i + suc j = omega arith in inr (subst (λ z. In z (used_from (suc i) ps)) e (used_in_lem (suc i) j ps n))

used_apart : (i : ℕ) (ps : List (Option Node)) → Apart (used_from i ps)
used_apart i [] = tt
used_apart i (None ∷ ps) = used_apart (suc i) ps
used_apart i (Some n ∷ ps) = ((λ m. let r = in_used (suc i) i ps m in absurd (omega (arith, r.1))), used_apart (suc i) ps)

-- checks that are not met, that stay, and that say the same otherwise
pub skip : (c : Type 0) (d : Decline) (later : Checks) (o : Option Decline) → (c → ⊥) → check c d later o → later o
skip c d later None n h = h.1
skip c d later (Some e) n (inl h) = absurd (n h.0)
skip c d later (Some e) n (inr h) = h.1

pub keep : (c : Type 0) (d : Decline) (later others : Checks) (o : Option Decline) → (later o → others o) → check c d later o → check c d others o
keep c d later others None f h = (h.0, f h.1)
keep c d later others (Some e) f (inl h) = inl h
keep c d later others (Some e) f (inr h) = inr (h.0, f h.1)

pub rephrase : (c c' : Type 0) (d : Decline) (later : Checks) (o : Option Decline) → (c → c') → (c' → c) → check c d later o → check c' d later o
rephrase c c' d later None to from h = ((λ x. h.0 (from x)), h.1)
rephrase c c' d later (Some e) to from (inl h) = inl (to h.0, h.1)
rephrase c c' d later (Some e) to from (inr h) = inr ((λ x. h.0 (from x)), h.1)

abbrev block_checks : Grammar → ℕ → List Piece → Checks
block_checks g free b = check (BadLength b) Length (check (Formless g b) Form (check (TooDeep g b) Depth (check (TooFew free b) Full passed)))

module _ {V : Type 0} (g : Grammar) (m : Archive V) where
  -- the free places of a table that shows the book are all but the book's
  pub free_by_book : (r : Rundown V) (k : Book) → ShowsBook g m r k → count_by is_free r.places ≡ book_free g m r k
  free_by_book r k sb =
      let e : length (all_places k) ≡ length (used_from 0 r.places) = same_length (all_places k) (used_from 0 r.places) sb.no_place_twice (used_apart 0 r.places) to from in
      omega (arith, used_count 0 r.places)
    where
      to : (p : ℕ) → In p (all_places k) → In p (used_from 0 r.places)
      to p n = let e : 0 + p ≡ p = omega arith in subst (λ z. In z (used_from 0 r.places)) e (used_in_lem 0 p r.places (λ z. (sb.free_places p).0 z n))

      from : (p : ℕ) → In p (used_from 0 r.places) → In p (all_places k)
      from p n = elim (in_either p (all_places k)) [
        | inl h ↦ h
        | inr h ↦ (let w = in_used 0 p r.places n in let e : p ≡ w.0 = omega (arith, w.1) in absurd (w.2 (ap (at r.places) (sym e) ∙ (sb.free_places p).1 h)))
      ]

  -- a planting is accepted just if the book says so
  pub plant_by_book : (r r' : Rundown V) (k : Book) (b : List Piece) (cells : ℕ) (ps : List ℕ) (answer : Result Ticket Decline) → Right g m r k → Plants g m b cells r answer r' → ByBook g m r k (plant b cells ps answer)
  plant_by_book r r' k b cells ps answer ri h = by answer h
    where
      book : (o : Option Decline) → plant_checks g m r b cells o → check (FewCells cells) Cells (block_checks g (book_free g m r k) b) o
      book o c =
          let long : ShortValues r.places r.values → ⊥ = λ s. absurd (omega (arith, ri.long)) in
          let a = skip (InShape g r.places r.root → ⊥) Shape (check (FewCells cells) Cells (check (ShortValues r.places r.values) Tables (block_checks g (count_by is_free r.places) b))) o (λ n. n ri.shape) c in
          subst (λ n. check (FewCells cells) Cells (block_checks g n b) o) (free_by_book r k ri.shows)
          (keep (FewCells cells) Cells (check (ShortValues r.places r.values) Tables (block_checks g (count_by is_free r.places) b)) (block_checks g (count_by is_free r.places) b) o (skip (ShortValues r.places r.values) Tables (block_checks g (count_by is_free r.places) b) o long) a)

      by : (a : Result Ticket Decline) → Plants g m b cells r a r' → ByBook g m r k (plant b cells ps a)
      by (Ok t) w = book None w.0
      by (Err d) w = book (Some d) w.0
