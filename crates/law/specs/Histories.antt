-- Histories of calls after an opening, declined calls among them, and the book that is kept of them.
use Rattle.std.specs.Prelude.{◌≡◌, ℕ, ◌+◌, Bool, List, [], ◌∷◌, ◌++◌, map, length, Some, None, Ok, Err, Option, Result}
use Rattle.grammar.specs.Model.{Grammar}
use Rattle.tour.specs.Runs.{In}
use Rattle.tour.specs.Trees.{Instance, Forest}
use Rattle.blocks.specs.Taken.{taken}
use Rattle.law.specs.Handed.{Archive, Rundown, Ticket, Piece}
use Rattle.law.specs.Calls.{Plants, Drops, Discards, Steps, Settles, Reads, Question, Reading}
use Rattle.law.specs.Book.{Book, planted, dropped, discarded, evaluated_once, evaluated_all, TreeAtPlaces}
use Rattle.law.specs.declared.decline.Decline.{Decline}

-- a call with what it was handed and what it answered; plant with the places that it took, settle with what it evaluated
pub data Event (V : Type 0) : Type 0 where
  plant : (b : List Piece) (cells : ℕ) (ps : List ℕ) (answer : Result Ticket Decline) → Event V
  drop : (t : Ticket) (p : ℕ) (answer : Result Ticket (Decline × Ticket)) → Event V
  discard : (t : Ticket) (cells : ℕ) (answer : Result (Unit {0}) (Decline × Ticket)) → Event V
  step : (cells : ℕ) (answer : Result (Option (ℕ × ℕ × Bool)) Decline) → Event V
  settle : (budget cells : ℕ) (evaluated : List (Instance × Bool)) (answer : Result (ℕ × Bool) Decline) → Event V
  read : (q : Question) (answer : Result (Reading V) Decline) → Event V

-- the call was made on the one rundown, and left the other
abbrev pub Happens : {V : Type 0} → Grammar → Archive V → Rundown V → Event V → Rundown V → Type 0
Happens g m r (plant b cells ps answer) r' = Plants g m b cells r answer r' × (ps ≡ taken r.places (length b))
Happens g m r (drop t p answer) r' = Drops g m t p r answer r'
Happens g m r (discard t cells answer) r' = Discards g m t cells r answer r'
Happens g m r (step cells answer) r' = Steps g m cells r answer r'
Happens g m r (settle budget cells evaluated answer) r' = Settles g m budget cells evaluated r answer r'
Happens g m r (read q answer) r' = Reads g m q r answer × (r' ≡ r)

-- a list of calls, one after the other
abbrev pub History : {V : Type 0} → Grammar → Archive V → Rundown V → List (Event V) → Rundown V → Type 0
History g m r [] r' = r' ≡ r
History {V} g m r (e ∷ es) r' = (s : Rundown V) × Happens g m r e s × History g m s es r'

-- what is entered in the book for a call: for a declined one, and for a reader, nothing
abbrev pub Enters : {V : Type 0} → Grammar → Book → Event V → Book → Type 0
Enters g k (plant b cells ps (Ok t)) k' = (f : Forest) × TreeAtPlaces g b ps f × (k' ≡ planted g k t f)
Enters g k (plant b cells ps (Err d)) k' = k' ≡ k
Enters g k (drop t p (Ok given)) k' = (f : Forest) × In (record { ticket = t; block = f }) k.held × (k' ≡ dropped g k t f p given)
Enters g k (drop t p (Err e)) k' = k' ≡ k
Enters g k (discard t cells (Ok u)) k' = (f : Forest) × In (record { ticket = t; block = f }) k.held × (k' ≡ discarded g k t f)
Enters g k (discard t cells (Err e)) k' = k' ≡ k
Enters g k (step cells (Ok None)) k' = k' ≡ k
Enters g k (step cells (Ok (Some e))) k' = k' ≡ evaluated_once g k ((e.0, e.1), e.2)
Enters g k (step cells (Err d)) k' = k' ≡ k
Enters g k (settle budget cells evaluated answer) k' = k' ≡ evaluated_all g k evaluated
Enters g k (read q answer) k' = k' ≡ k

abbrev pub Keeps : {V : Type 0} → Grammar → Book → List (Event V) → Book → Type 0
Keeps g k [] k' = k' ≡ k
Keeps g k (e ∷ es) k' = (l : Book) × Enters g k e l × Keeps g l es k'

-- no drop among the calls was accepted
abbrev pub NoDrop : {V : Type 0} → List (Event V) → Type 0
NoDrop [] = Unit {0}
NoDrop (drop t p (Ok given) ∷ es) = ⊥
NoDrop (drop t p (Err e) ∷ es) = NoDrop es
NoDrop (plant b cells ps answer ∷ es) = NoDrop es
NoDrop (discard t cells answer ∷ es) = NoDrop es
NoDrop (step cells answer ∷ es) = NoDrop es
NoDrop (settle budget cells evaluated answer ∷ es) = NoDrop es
NoDrop (read q answer ∷ es) = NoDrop es

-- the instances that a call has evaluated
abbrev pub evaluated_by : {V : Type 0} → Event V → List Instance
evaluated_by (plant b cells ps answer) = []
evaluated_by (drop t p answer) = []
evaluated_by (discard t cells answer) = []
evaluated_by (step cells (Ok None)) = []
evaluated_by (step cells (Ok (Some e))) = (e.0, e.1) ∷ []
evaluated_by (step cells (Err d)) = []
evaluated_by (settle budget cells evaluated answer) = map (λ e. e.0) evaluated
evaluated_by (read q answer) = []

abbrev pub evaluated_in : {V : Type 0} → List (Event V) → List Instance
evaluated_in [] = []
evaluated_in (e ∷ es) = evaluated_by e ++ evaluated_in es

-- settle's counts, and one for each step that evaluates
abbrev pub counted : {V : Type 0} → Event V → ℕ
counted (plant b cells ps answer) = 0
counted (drop t p answer) = 0
counted (discard t cells answer) = 0
counted (step cells (Ok None)) = 0
counted (step cells (Ok (Some e))) = 1
counted (step cells (Err d)) = 0
counted (settle budget cells evaluated (Ok e)) = e.0
counted (settle budget cells evaluated (Err d)) = 0
counted (read q answer) = 0

abbrev pub counted_in : {V : Type 0} → List (Event V) → ℕ
counted_in [] = 0
counted_in (e ∷ es) = counted e + counted_in es
