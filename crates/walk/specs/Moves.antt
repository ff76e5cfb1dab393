-- What a move of a walk does, and what it meets.
use Rattle.std.specs.Prelude.{ℕ, zero, suc, ◌-◌, List, [], ◌∷◌, Some, None, Option}
use Rattle.std.specs.List.{slice_get}
use Rattle.grammar.specs.Model.{Grammar}
use Rattle.grammar.specs.declared.terms.Instruction.{Instruction}
use Rattle.grammar.specs.declared.terms.Instruction.TheVariants.{Evaluate, Visit, Return}
use Rattle.places.specs.declared.pushdown.Frame.{Frame}
use Rattle.tour.specs.Nodes.{Table}
use Rattle.tour.specs.Trees.{at_of}
use Rattle.tour.specs.Walks.{plan_at}
use Rattle.walk.specs.Stands.{Stand}
use Rattle.walk.specs.declared.walker.Met.{Met}
use Rattle.walk.specs.declared.walker.Mode.{Mode}
use Rattle.walk.specs.declared.walker.Mode.TheVariants.{InPlan, Entering, Returning, Done}

-- so many returns are to be passed
abbrev pub passing : ℕ → Mode
passing zero = InPlan
passing (suc n) = Entering (suc n)

-- before the first instruction at the root
abbrev pub starting : ℕ → ℕ → Stand
starting root n = record { mode = InPlan; place = root; next = 0; frames = []; room = n }

-- one instruction on
abbrev pub onward : Mode → Stand → Stand
onward m s = record { mode = m; place = s.place; next = suc s.next; frames = s.frames; room = s.room }

-- into visit j of the child at q, past the returns of the visits before
abbrev pub inside : ℕ → ℕ → Stand → Stand
inside q j s = record {
  mode = passing (j - 1);
  place = q;
  next = 0;
  frames = record { place = s.place; instruction = s.next } ∷ s.frames;
  room = s.room;
}

-- out of a visit: back to where it began, or to the end
abbrev pub left : List Frame → Stand → Stand
left [] s = record { mode = Done; place = s.place; next = s.next; frames = []; room = s.room }
left (f ∷ fs) s = record { mode = Returning; place = f.place; next = f.instruction; frames = fs; room = s.room }

-- the move at an instruction
abbrev pub moved_by : Table → Mode → Instruction → Stand → Stand
moved_by T InPlan (Evaluate o a) s = onward InPlan s
moved_by T InPlan (Visit k j) s = inside (at_of s.place (T s.place).kids k) j s
moved_by T InPlan (Return j) s = left s.frames s
moved_by T (Entering n) (Evaluate o a) s = onward (Entering n) s
moved_by T (Entering n) (Visit k j) s = onward (Entering n) s
moved_by T (Entering n) (Return j) s = onward (passing (n - 1)) s
moved_by T Returning (Evaluate o a) s = s
moved_by T Returning (Visit k j) s = onward InPlan s
moved_by T Returning (Return j) s = s
moved_by T Done i s = s

abbrev pub moved_at : Table → Option Instruction → Stand → Stand
moved_at T None s = s
moved_at T (Some i) s = moved_by T s.mode i s

-- one move, by the instruction where the walk stands
abbrev pub moved : Grammar → Table → Stand → Stand
moved g T s = moved_at T (slice_get (plan_at g T s.place) s.next) s

-- an evaluation in the plan is met
abbrev pub met_by : Table → Mode → Instruction → ℕ → Option Met
met_by T InPlan (Evaluate o a) p = Some (record { rule_place = p; occurrence = o; attribute = a; place = at_of p (T p).kids o })
met_by T InPlan (Visit k j) p = None
met_by T InPlan (Return j) p = None
met_by T (Entering n) i p = None
met_by T Returning i p = None
met_by T Done i p = None

abbrev pub met_at : Table → Option Instruction → Stand → Option Met
met_at T None s = None
met_at T (Some i) s = met_by T s.mode i s.place

-- what that move meets
abbrev pub meets : Grammar → Table → Stand → Option Met
meets g T s = met_at T (slice_get (plan_at g T s.place) s.next) s
