-- What a walk has still to list.
use Rattle.std.specs.Prelude.{ℕ, suc, ◌+◌, ◌-◌, ◌*◌, List, [], ◌∷◌, map, length, drop, Some, None, Option}
use Rattle.grammar.specs.Model.{Grammar}
use Rattle.grammar.specs.declared.terms.Instruction.{Instruction}
use Rattle.places.specs.declared.pushdown.Frame.{Frame}
use Rattle.tour.specs.Nodes.{Table}
use Rattle.tour.specs.Trees.{Instance}
use Rattle.tour.specs.Walks.{plan_at, begins, left_over, moves_left}
use Rattle.walk.specs.Stands.{Stand}
use Rattle.walk.specs.declared.walker.Met.{Met}
use Rattle.walk.specs.declared.walker.Mode.{Mode}
use Rattle.walk.specs.declared.walker.Mode.TheVariants.{InPlan, Entering, Returning, Done}

-- how many instructions are passed without being listed
abbrev pub passed : List Instruction → Mode → ℕ → ℕ
passed plan InPlan n = 0
passed plan (Entering m) n = begins m (drop n plan)
passed plan Returning n = 1
passed plan Done n = 0

-- after a visit it goes on behind it
abbrev pub behind_visit : Frame → ℕ × ℕ
behind_visit f = (f.place, suc f.instruction)

-- the place and the instruction from which on it lists, and those behind the visits that it is in
abbrev pub goes_on : List Instruction → Mode → ℕ → ℕ → List (ℕ × ℕ) → List (ℕ × ℕ)
goes_on plan InPlan p n rest = (p, n) ∷ rest
goes_on plan (Entering m) p n rest = (p, n + passed plan (Entering m) n) ∷ rest
goes_on plan Returning p n rest = (p, suc n) ∷ rest
goes_on plan Done p n rest = []

abbrev pub stops : Grammar → Table → Stand → List (ℕ × ℕ)
stops g T s = goes_on (plan_at g T s.place) s.mode s.place s.next (map behind_visit s.frames)

-- 64 places stand on a way down at most
abbrev pub depth_left : Stand → ℕ
depth_left s = 63 - length s.frames

-- the instances that the walk has still to meet, in their order
abbrev pub ahead : Grammar → Table → Stand → List Instance
ahead g T s = left_over g T (depth_left s) (stops g T s)

-- it falls with each move: no plan has 2048 instructions
abbrev pub effort : Grammar → Table → Stand → ℕ
effort g T s = 2048 * moves_left g T (depth_left s) (stops g T s) + passed (plan_at g T s.place) s.mode s.next

abbrev pub instance_of : Met → Instance
instance_of m = (m.place, m.attribute)

abbrev pub instance_in : Option Met → List Instance
instance_in None = []
instance_in (Some m) = instance_of m ∷ []
