-- The law over whole runs, from what drops and discards promise.
use Rattle.std.proofs.Common.{ℕ, List, [], ◌∷◌, Some, None, Ok, Err, Result, refl}
use Rattle.grammar.specs.Model.{Grammar}
use Rattle.sheet.specs.Meaning.{Sound}
use Rattle.blocks.proofs.Taking.{taken_takes}
use Rattle.law.specs.Handed.{Archive, Rundown, Ticket}
use Rattle.law.specs.Calls.{Drops, Discards}
use Rattle.law.specs.Book.{Book, evaluated_once, evaluated_all}
use Rattle.law.specs.Histories.{Event, Happens, Enters, History, Keeps}
use Rattle.law.specs.Histories.Event.{plant, drop, discard, step, settle, read}
use Rattle.law.specs.Law.{ByBook, Upheld, WholeRuns}
use Rattle.law.specs.declared.decline.Decline.{Decline}
use Rattle.law.proofs.Right.{Right}
use Rattle.law.proofs.Opening.{opening_right}
use Rattle.law.proofs.PlantingAnswers.{plant_by_book}
use Rattle.law.proofs.PlantingEvents.{plant_enters}
use Rattle.law.proofs.SteppingCalls.{ExchangesKeep, history_right, call_right}
use Rattle.law.proofs.Settled.{settled_values}
use Rattle.law.proofs.SettledAnswers.{step_by_book, settle_by_book, read_by_book}
use Rattle.law.proofs.SettledHistories.{exactly_evaluated}

-- a drop or a discard has a book that is kept of it, every such book is right, and it is answered as the book says
pub record Exchanges {V : Type 0} (g : Grammar) (m : Archive V) : Type 0 where
  pub keep : ExchangesKeep g m
  pub drop_enters :
      (r r' : Rundown V) (k : Book) (t : Ticket) (p : ℕ) (answer : Result Ticket (Decline × Ticket)) → Right g m r k →
      Drops g m t p r answer r' → (k' : Book) × Enters {V = V} g k (drop t p answer) k'
  pub discard_enters :
      (r r' : Rundown V) (k : Book) (t : Ticket) (cells : ℕ) (answer : Result (Unit {0}) (Decline × Ticket)) → Right g m r k →
      Discards g m t cells r answer r' → (k' : Book) × Enters {V = V} g k (discard t cells answer) k'
  pub drop_by_book :
      (r r' : Rundown V) (k : Book) (t : Ticket) (p : ℕ) (answer : Result Ticket (Decline × Ticket)) → Right g m r k →
      Drops g m t p r answer r' → ByBook g m r k (drop t p answer)
  pub discard_by_book :
      (r r' : Rundown V) (k : Book) (t : Ticket) (cells : ℕ) (answer : Result (Unit {0}) (Decline × Ticket)) → Right g m r k →
      Discards g m t cells r answer r' → ByBook g m r k (discard t cells answer)

module _ (g : Grammar) (so : Sound g) {V : Type 0} (m : Archive V) (exchanges : Exchanges g m) where
  -- every call has a book that is kept of it
  pub call_enters : (e : Event V) (r r' : Rundown V) (k : Book) → Right g m r k → Happens g m r e r' → (k' : Book) × Enters g k e k'
  call_enters (plant b cells ps answer) r r' k ri h = let w = plant_enters g m so taken_takes r r' k b cells ps answer ri h in (w.0, w.1)
  call_enters (drop t p answer) r r' k ri h = exchanges.drop_enters r r' k t p answer ri h
  call_enters (discard t cells answer) r r' k ri h = exchanges.discard_enters r r' k t cells answer ri h
  call_enters (step cells (Ok None)) r r' k ri h = (k, refl)
  call_enters (step cells (Ok (Some e))) r r' k ri h = (evaluated_once g k ((e.0, e.1), e.2), refl)
  call_enters (step cells (Err d)) r r' k ri h = (k, refl)
  call_enters (settle budget cells es answer) r r' k ri h = (evaluated_all g k es, refl)
  call_enters (read q answer) r r' k ri h = (k, refl)

  -- and so has every list of calls
  pub history_enters : (es : List (Event V)) (r r' : Rundown V) (k : Book) → Right g m r k → History g m r es r' → (k' : Book) × Keeps g k es k'
  history_enters [] r r' k ri h = (k, refl)
  history_enters (e ∷ es) r r' k ri (s, h, hs) =
      let l = call_enters e r s k ri h in
      let w = history_enters es s r' l.0 (call_right g so m exchanges.keep e r s k l.0 ri h l.1) hs in
      (w.0, (l.0, l.1, w.1))

  -- every call is answered as the book says
  pub call_by_book : (e : Event V) (r r' : Rundown V) (k : Book) → Right g m r k → Happens g m r e r' → ByBook g m r k e
  call_by_book (plant b cells ps answer) r r' k ri h = plant_by_book g m r r' k b cells ps answer ri h.0
  call_by_book (drop t p answer) r r' k ri h = exchanges.drop_by_book r r' k t p answer ri h
  call_by_book (discard t cells answer) r r' k ri h = exchanges.discard_by_book r r' k t cells answer ri h
  call_by_book (step cells answer) r r' k ri h = step_by_book g so m r k ri r' cells answer h
  call_by_book (settle budget cells es answer) r r' k ri h = settle_by_book g so m r k ri r' budget cells es answer h
  call_by_book (read q answer) r r' k ri h = read_by_book g so m r k ri q answer h.0

  -- tables that are right uphold the law
  pub right_upholds : (r : Rundown V) (k : Book) → Right g m r k → Upheld g m r k
  right_upholds r k ri = record {
    shows_book = ri.shows;
    marks_are_owed = ri.marks;
    settled_values = settled_values g so m r k ri;
    exactly_evaluated = λ es r' k' h w n s. exactly_evaluated g so m exchanges.keep es r r' k k' ri h w n s;
    answers_by_book = λ e r' h. call_by_book e r r' k ri h;
  }

-- the law over whole runs
pub whole_runs : (g : Grammar) {V : Type 0} (m : Archive V) → (Sound g → Exchanges g m) → WholeRuns g m
whole_runs g m known so tag b cells handed r k o es r' h =
    let x = known so in
    let ri = opening_right g m so taken_takes tag b cells handed r k o in
    let w = history_enters g so m x es r r' k ri h in
    (w.0, w.1, right_upholds g so m x r' w.0 (history_right g so m x.keep es r r' k w.0 ri h w.1))
