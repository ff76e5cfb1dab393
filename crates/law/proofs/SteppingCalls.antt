-- What every call keeps, from what drops and discards keep.
use Rattle.std.proofs.Common.{◌≡◌, ℕ, List, [], ◌∷◌, Some, None, Ok, Err, Result, sym, ap, ◌∙◌, subst}
use Rattle.grammar.specs.Model.{Grammar}
use Rattle.sheet.specs.Meaning.{Sound}
use Rattle.law.specs.Handed.{Archive, Rundown, Ticket}
use Rattle.law.specs.Book.{Book, evaluated_all}
use Rattle.law.specs.Histories.{Event, Happens, Enters, History, Keeps}
use Rattle.law.specs.Histories.Event.{plant, drop, discard, step, settle, read}
use Rattle.law.proofs.Right.{Right}
use Rattle.blocks.proofs.Taking.{taken_takes}
use Rattle.law.specs.declared.decline.Decline.{Decline}
use Rattle.law.proofs.PlantingEvents.{plant_entered}
use Rattle.law.proofs.Stepping.{step_right, run_right}

-- drops and discards, accepted or declined, keep the tables right by every book that is kept of them
pub record ExchangesKeep {V : Type 0} (g : Grammar) (m : Archive V) : Type 0 where
  pub drops :
      (r r' : Rundown V) (k k' : Book) (t : Ticket) (p : ℕ) (answer : Result Ticket (Decline × Ticket)) → Right g m r k →
      Happens g m r (drop t p answer) r' → Enters {V = V} g k (drop t p answer) k' → Right g m r' k'
  pub discards :
      (r r' : Rundown V) (k k' : Book) (t : Ticket) (cells : ℕ) (answer : Result (Unit {0}) (Decline × Ticket)) → Right g m r k →
      Happens g m r (discard t cells answer) r' → Enters {V = V} g k (discard t cells answer) k' → Right g m r' k'

module _ (g : Grammar) (so : Sound g) {V : Type 0} (m : Archive V) (exchanges : ExchangesKeep g m) where
  same : (r r' : Rundown V) (k k' : Book) → Right g m r k → r' ≡ r → k' ≡ k → Right g m r' k'
  same r r' k k' ri a b = subst (λ (z : Rundown V × Book). Right g m z.0 z.1) (let c = sym a in let d = sym b in λ i. (c i, d i)) ri

  -- every call keeps the tables right by the book
  pub call_right : (e : Event V) (r r' : Rundown V) (k k' : Book) → Right g m r k → Happens g m r e r' → Enters g k e k' → Right g m r' k'
  call_right (plant b cells ps answer) r r' k k' ri h e = plant_entered g m so taken_takes r r' k k' b cells ps answer ri h e
  call_right (drop t p answer) r r' k k' ri h e = exchanges.drops r r' k k' t p answer ri h e
  call_right (discard t cells answer) r r' k k' ri h e = exchanges.discards r r' k k' t cells answer ri h e
  call_right (step cells (Ok None)) r r' k k' ri (c, (s, a)) e = same r r' k k' ri a e
  call_right (step cells (Ok (Some x))) r r' k k' ri (c, s) e = subst (λ z. Right g m r' z) (sym e) (step_right g m so r r' k ri (x.0, x.1) x.2 s)
  call_right (step cells (Err d)) r r' k k' ri (c, a) e = same r r' k k' ri a e
  call_right (settle budget cells es (Ok x)) r r' k k' ri (c, s) e = subst (λ z. Right g m r' z) (sym e) (run_right g m so es r r' k ri s.run)
  call_right (settle budget cells es (Err d)) r r' k k' ri (c, n, a) e = same r r' k k' ri a (e ∙ ap (evaluated_all g k) n)
  call_right (read q answer) r r' k k' ri (c, a) e = same r r' k k' ri a e

  -- and so does every list of calls
  pub history_right : (es : List (Event V)) (r r' : Rundown V) (k k' : Book) → Right g m r k → History g m r es r' → Keeps g k es k' → Right g m r' k'
  history_right [] r r' k k' ri a e = same r r' k k' ri a e
  history_right (e ∷ es) r r' k k' ri (s, h, hs) (l, n, ns) = history_right es s r' l k' (call_right e r s k l ri h n) hs ns
