-- A walk through the tour of a tree in a table, with a frame for each node on the way down.
use Rattle.std.specs.Prelude.{◌≡◌, ℕ, zero, suc, ◌+◌, ◌<◌, Bool, List, [], ◌∷◌, ◌++◌, length, drop, Some, slice_index}
use Rattle.std.specs.List.{slice_get}
use Rattle.grammar.specs.Model.{Grammar}
use Rattle.grammar.specs.declared.terms.Instruction.{Instruction}
use Rattle.grammar.specs.declared.terms.Instruction.TheVariants.{Evaluate, Visit, Return}
use Rattle.sheet.specs.Meaning.{Sound}
use Rattle.tour.specs.Rules.{rule}
use Rattle.tour.specs.Trees.{Instance, Forest, places, Agrees, at_of, segment, up_to, behind, listed}
use Rattle.tour.specs.Trees.Forest.{none, node}
use Rattle.tour.specs.Touring.{tour}
use Rattle.tour.specs.Nodes.{Table, Shows}
use Rattle.tour.specs.Nodes.Link.{under}
use Rattle.tour.specs.Shapes.{Shape, tree_from}

-- the plan of the rule at a place
abbrev pub plan_at : Grammar → Table → ℕ → List Instruction
plan_at σ T p = (rule σ (T p).rule).plan

-- what the visits of the children list
abbrev pub below : (ℕ → ℕ → List Instance) → List ℕ → ℕ → ℕ → List Instance
below V kids zero j = []
below V kids (suc k) j = V (slice_index kids k) j

-- what visit j of the place p lists, read off the table to a depth
abbrev pub deep : Grammar → Table → ℕ → ℕ → ℕ → List Instance
deep σ T zero p j = []
deep σ T (suc d) p j = listed (at_of p (T p).kids) (below (deep σ T d) (T p).kids) (segment j (plan_at σ T p))

-- no path of the trees is longer than d
abbrev pub Within : Forest → ℕ → Type 0
Within none d = Unit {0}
Within (node p r c kids rest) zero = ⊥
Within (node p r c kids rest) (suc d) = Within kids d × Within rest (suc d)

-- where the part of a plan behind j returns begins
abbrev pub begins : ℕ → List Instruction → ℕ
begins zero is = 0
begins (suc j) is = suc (length (up_to is)) + begins j (behind is)

-- what a walk has still to list: its frames are places with the instruction to come, the innermost first; the children of
-- the first go d deep
abbrev pub left_over : Grammar → Table → ℕ → List (ℕ × ℕ) → List Instance
left_over σ T d [] = []
left_over σ T d ((p, n) ∷ fs) =
    listed (at_of p (T p).kids) (below (deep σ T d) (T p).kids) (up_to (drop n (plan_at σ T p))) ++ left_over σ T (suc d) fs

-- the frames of a walk: each place has its children as trees, no more than d deep, and an instruction to come
abbrev pub Framed : Grammar → Table → ℕ → List (ℕ × ℕ) → Type 0
Framed σ T d [] = Unit {0}
Framed σ T d ((p, n) ∷ fs) =
    ((kids : Forest) × ((T p).kids ≡ places kids) × Shows T kids (under p) 1 × Agrees σ kids (rule σ (T p).rule).right × Within kids d × ((T p).rule < length σ.rules) × (n < length (plan_at σ T p)))
    × Framed σ T (suc d) fs

-- how many moves a visit takes, its return among them
abbrev pub weight : (ℕ → ℕ → ℕ) → List ℕ → Instruction → ℕ
weight W kids (Evaluate o a) = 1
weight W kids (Visit zero j) = 1
weight W kids (Visit (suc k) j) = suc (W (slice_index kids k) j)
weight W kids (Return j) = 1

abbrev pub weights : (Instruction → ℕ) → List Instruction → ℕ
weights w [] = 0
weights w (i ∷ is) = w i + weights w is

abbrev pub moves : Grammar → Table → ℕ → ℕ → ℕ → ℕ
moves σ T zero p j = 0
moves σ T (suc d) p j = suc (weights (weight (moves σ T d) (T p).kids) (segment j (plan_at σ T p)))

-- how many moves a walk has still to make
abbrev pub moves_left : Grammar → Table → ℕ → List (ℕ × ℕ) → ℕ
moves_left σ T d [] = 0
moves_left σ T d ((p, n) ∷ fs) = suc (weights (weight (moves σ T d) (T p).kids) (up_to (drop n (plan_at σ T p)))) + moves_left σ T (suc d) fs

-- what a walk has listed, and what it has still to list, make up the tour; it has at most 64 frames
pub record Walking (σ : Grammar) (T : Table) (t : Forest) (d : ℕ) (fs : List (ℕ × ℕ)) (done : List Instance) : Type 0 where
  pub framed : Framed σ T d fs
  pub parts : done ++ left_over σ T d fs ≡ tour σ t
  pub room : length fs + d ≡ 64

-- the walk after a move, with one move less to make
pub record MovedOn (σ : Grammar) (T : Table) (t : Forest) (before d : ℕ) (fs : List (ℕ × ℕ)) (done : List Instance) : Type 0 where
  pub walking : Walking σ T t d fs done
  pub fewer : before ≡ suc (moves_left σ T d fs)

-- the walk after visit k.j: at a child that is there, where the part of its plan for that visit begins
pub record Visited (σ : Grammar) (T : Table) (t : Forest) (d p n k j : ℕ) (fs : List (ℕ × ℕ)) (done : List Instance) : Type 0 where
  pub kid : ℕ
  pub turn : ℕ
  pub depth : ℕ
  pub kid_is : k ≡ suc kid
  pub turn_is : j ≡ suc turn
  pub depth_is : d ≡ suc depth
  pub there : kid < length (T p).kids
  pub on :
      MovedOn σ T t (moves_left σ T d ((p, n) ∷ fs)) depth
      ((slice_index (T p).kids kid, begins turn (plan_at σ T (slice_index (T p).kids kid))) ∷ (p, suc n) ∷ fs) done

-- the moves of a walk, by the instruction of its innermost frame
pub record Moves (σ : Grammar) (T : Table) (t : Forest) : Type 0 where
  -- an evaluation lists its instance
  pub evaluates :
      (d p n o a : ℕ) (fs : List (ℕ × ℕ)) (done : List Instance) → Walking σ T t d ((p, n) ∷ fs) done →
      slice_get (plan_at σ T p) n ≡ Some (Evaluate o a) →
      MovedOn σ T t (moves_left σ T d ((p, n) ∷ fs)) d ((p, suc n) ∷ fs) (done ++ (at_of p (T p).kids o, a) ∷ [])
  -- a visit goes to a child
  pub visits :
      (d p n k j : ℕ) (fs : List (ℕ × ℕ)) (done : List Instance) → Walking σ T t d ((p, n) ∷ fs) done →
      slice_get (plan_at σ T p) n ≡ Some (Visit k j) → Visited σ T t d p n k j fs done
  -- a return goes back to the node above
  pub returns :
      (d p n j : ℕ) (fs : List (ℕ × ℕ)) (done : List Instance) → Walking σ T t d ((p, n) ∷ fs) done →
      slice_get (plan_at σ T p) n ≡ Some (Return j) →
      MovedOn σ T t (moves_left σ T d ((p, n) ∷ fs)) (suc d) fs done
  -- without frames the tour is done
  pub ends : (d : ℕ) (done : List Instance) → Walking σ T t d [] done → done ≡ tour σ t

-- a walk with frames begins at the root and keeps to the tour
pub record WalkLaw : Type 0 where
  pub starts :
      (σ : Grammar) → Sound σ → (T : Table) (used : ℕ → Bool) (root : ℕ) → Shape σ T used root →
      Walking σ T (tree_from T 63 root) 63 ((root, 0) ∷ []) []
  pub moves : (σ : Grammar) → Sound σ → (T : Table) (t : Forest) → Moves σ T t
