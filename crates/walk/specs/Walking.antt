-- When a walk is under way in a table of places.
use Rattle.std.specs.Prelude.{◌≡◌, ℕ, ◌<◌, ◌≤◌, Bool, true, false, List, [], ◌∷◌, ◌++◌, length, Some, Option, ◌≢◌}
use Rattle.std.specs.List.{AllByRecursion, slice_get}
use Rattle.grammar.specs.Model.{Grammar}
use Rattle.grammar.specs.declared.terms.Instruction.TheVariants.{Evaluate, Visit}
use Rattle.places.specs.Places.{used, table, owed_at}
use Rattle.places.specs.Shape.{SoundPlaces}
use Rattle.places.specs.declared.node.Node.{Node}
use Rattle.tour.specs.Runs.{In}
use Rattle.tour.specs.Shapes.{tree_from}
use Rattle.tour.specs.Touring.{tour}
use Rattle.tour.specs.Trees.{Instance, at_of}
use Rattle.tour.specs.Walks.{plan_at, Framed}
use Rattle.walk.specs.Ahead.{stops, depth_left, ahead, effort, instance_of, instance_in}
use Rattle.walk.specs.Moves.{meets, moved}
use Rattle.walk.specs.Stands.{Stand}
use Rattle.sheet.specs.Meaning.{Sound}
use Rattle.walk.specs.declared.walker.Met.{Met}
use Rattle.walk.specs.declared.walker.Mode.{Mode}
use Rattle.walk.specs.declared.walker.Mode.TheVariants.{InPlan, Entering, Returning, Done}

-- a visit stands there
pub record Visits (g : Grammar) (ps : List (Option Node)) (p n : ℕ) : Type 0 where
  pub place_used : used ps p ≡ true
  pub child : ℕ
  pub visit : ℕ
  pub stands : slice_get (plan_at g (table g ps) p) n ≡ Some (Visit child visit)

-- coming back it stands at a visit; entering it has a return to pass
abbrev pub Fits : Grammar → List (Option Node) → Mode → ℕ → ℕ → Type 0
Fits g ps InPlan p n = Unit {0}
Fits g ps (Entering m) p n = 1 ≤ m
Fits g ps Returning p n = Visits g ps p n
Fits g ps Done p n = Unit {0}

-- The walk stands at an instruction of the plan at a used place, its frames at visits, and what it has still to go down
-- fits into the cells.
pub record Walking (g : Grammar) (ps : List (Option Node)) (s : Stand) : Type 0 where
  pub sound : Sound g
  pub places_sound : SoundPlaces g ps
  pub place_used : used ps s.place ≡ true
  pub next_there : s.next < length (plan_at g (table g ps) s.place)
  pub mode_fits : Fits g ps s.mode s.place s.next
  pub frames_visit : AllByRecursion (λ f. Visits g ps f.place f.instruction) s.frames
  -- no visit finds all cells taken
  pub few_frames : length s.frames ≤ 63
  pub enough_room : 64 ≤ s.room
  pub framed : Framed g (table g ps) (depth_left s) (stops g (table g ps) s)

-- at the start all of the tour is ahead
pub record Started (g : Grammar) (ps : List (Option Node)) (root : ℕ) (s : Stand) : Type 0 where
  pub walking : Walking g ps s
  pub whole : ahead g (table g ps) s ≡ tour g (tree_from (table g ps) 63 root)

-- what a walk met: an evaluation that stands in the plan at a used place, and where its occurrence stands
pub record Meeting (g : Grammar) (ps : List (Option Node)) (m : Met) : Type 0 where
  pub rule_place_used : used ps m.rule_place ≡ true
  pub stands : In (Evaluate m.occurrence m.attribute) (plan_at g (table g ps) m.rule_place)
  pub place_is : m.place ≡ at_of m.rule_place (table g ps m.rule_place).kids m.occurrence

-- a move: it meets at most one instance, the first of those ahead, and takes some of the effort
pub record Moves (g : Grammar) (ps : List (Option Node)) (s : Stand) (o : Option Met) (t : Stand) : Type 0 where
  pub walking : Walking g ps t
  pub lists : ahead g (table g ps) s ≡ instance_in o ++ ahead g (table g ps) t
  pub meeting : (m : Met) → o ≡ Some m → Meeting g ps m
  pub falls : effort g (table g ps) t < effort g (table g ps) s

-- to the next instance: the first of those ahead
pub record Reached (g : Grammar) (ps : List (Option Node)) (s : Stand) (m : Met) (t : Stand) : Type 0 where
  pub walking : Walking g ps t
  pub meeting : Meeting g ps m
  pub lists : ahead g (table g ps) s ≡ instance_of m ∷ ahead g (table g ps) t

-- to the end: nothing was ahead
pub record Ended (g : Grammar) (ps : List (Option Node)) (s : Stand) (t : Stand) : Type 0 where
  pub walking : Walking g ps t
  pub lists : ahead g (table g ps) s ≡ []
  pub rests : ahead g (table g ps) t ≡ []

-- none of these instances is owed
abbrev pub Unowed : List (Option Node) → List Instance → Type 0
Unowed ps xs = (x : Instance) → In x xs → owed_at ps x ≢ true

-- to the next owed instance, past those that are not owed
pub record OwedNext (g : Grammar) (ps : List (Option Node)) (s : Stand) (m : Met) (t : Stand) : Type 0 where
  pub walking : Walking g ps t
  pub meeting : Meeting g ps m
  pub between : List Instance
  pub unowed : Unowed ps between
  pub due : owed_at ps (instance_of m) ≡ true
  pub lists : ahead g (table g ps) s ≡ between ++ instance_of m ∷ ahead g (table g ps) t

-- to the end: none ahead was owed
pub record NoneOwed (g : Grammar) (ps : List (Option Node)) (s : Stand) (t : Stand) : Type 0 where
  pub walking : Walking g ps t
  pub unowed : Unowed ps (ahead g (table g ps) s)
  pub rests : ahead g (table g ps) t ≡ []

-- whether nothing is left to walk
abbrev pub at_end : Mode → Bool
at_end InPlan = false
at_end (Entering n) = false
at_end Returning = false
at_end Done = true

-- every move of a walk that is not at its end
abbrev pub MovesLaw : Type 0
MovesLaw = (g : Grammar) (ps : List (Option Node)) (s : Stand) → Walking g ps s → at_end s.mode ≡ false → Moves g ps s (meets g (table g ps) s) (moved g (table g ps) s)
