-- A walk that comes to a visit's part of a plan by passing the returns before it, one instruction at a time.
use Rattle.std.specs.Prelude.{◌≡◌, ℕ, zero, suc, ◌+◌, ◌<◌, Bool, List, [], ◌∷◌, ◌++◌, length, drop, Some, count_by, slice_index}
use Rattle.std.specs.List.{slice_get}
use Rattle.grammar.specs.Model.{Grammar}
use Rattle.grammar.specs.declared.terms.Instruction.{Instruction}
use Rattle.grammar.specs.declared.terms.Instruction.TheVariants.{Evaluate, Visit, Return}
use Rattle.plans.specs.PlanRules.{is_return}
use Rattle.sheet.specs.Meaning.{Sound}
use Rattle.tour.specs.Trees.{Instance, Forest, at_of, part, up_to, listed}
use Rattle.tour.specs.Touring.{tour}
use Rattle.tour.specs.Nodes.{Table}
use Rattle.tour.specs.Shapes.{Shape, tree_from}
use Rattle.tour.specs.Walks.{plan_at, below, deep, begins, left_over, Framed, weight, weights}

-- its frames stand at the visits under way, and go on behind them
abbrev pub behind_visits : List (ℕ × ℕ) → List (ℕ × ℕ)
behind_visits [] = []
behind_visits ((p, n) ∷ fs) = (p, suc n) ∷ behind_visits fs

-- what it has still to list at instruction n of the plan at p, where it has k returns to pass first
abbrev pub to_list : Grammar → Table → (d k p n : ℕ) → List (ℕ × ℕ) → List Instance
to_list σ T d k p n fs =
    listed (at_of p (T p).kids) (below (deep σ T d) (T p).kids) (part k (drop n (plan_at σ T p)))
    ++ left_over σ T (suc d) (behind_visits fs)

-- how many moves it makes for visit j of the place p, the instructions that it passes and the return among them
abbrev pub entry_moves : Grammar → Table → (d p j : ℕ) → ℕ
entry_moves σ T zero p j = 0
entry_moves σ T (suc d) p zero = 0
entry_moves σ T (suc d) p (suc i) =
    begins i (plan_at σ T p) + suc (weights (weight (entry_moves σ T d) (T p).kids) (part i (plan_at σ T p)))

abbrev pub frame_moves : Grammar → Table → (d : ℕ) → List (ℕ × ℕ) → ℕ
frame_moves σ T d [] = 0
frame_moves σ T d ((p, n) ∷ fs) =
    suc (weights (weight (entry_moves σ T d) (T p).kids) (up_to (drop (suc n) (plan_at σ T p)))) + frame_moves σ T (suc d) fs

-- how many it has still to make
abbrev pub moves_to_make : Grammar → Table → (d k p n : ℕ) → List (ℕ × ℕ) → ℕ
moves_to_make σ T d k p n fs =
    (begins k (drop n (plan_at σ T p))
    + suc (weights (weight (entry_moves σ T d) (T p).kids) (part k (drop n (plan_at σ T p)))))
    + frame_moves σ T (suc d) fs

-- what it has listed, and what it has still to list, make up the tour
pub record Entering (σ : Grammar) (T : Table) (t : Forest) (d k p n : ℕ) (fs : List (ℕ × ℕ)) (done : List Instance) : Type 0 where
  pub framed : Framed σ T d ((p, n) ∷ behind_visits fs)
  -- the returns to pass are still to come, and one more that ends the visit
  pub ahead : k < count_by is_return (drop n (plan_at σ T p))
  pub parts : done ++ to_list σ T d k p n fs ≡ tour σ t
  pub room : suc (length fs) + d ≡ 64

-- the walk after a move, with one move less to make
pub record Entered (σ : Grammar) (T : Table) (t : Forest) (before d k p n : ℕ) (fs : List (ℕ × ℕ)) (done : List Instance) : Type 0 where
  pub entering : Entering σ T t d k p n fs done
  pub fewer : before ≡ suc (moves_to_make σ T d k p n fs)

-- the walk after visit k.j: at the first instruction of a child that is there
pub record Descended (σ : Grammar) (T : Table) (t : Forest) (d p n k j : ℕ) (fs : List (ℕ × ℕ)) (done : List Instance) : Type 0 where
  pub kid : ℕ
  pub turn : ℕ
  pub depth : ℕ
  pub kid_is : k ≡ suc kid
  pub turn_is : j ≡ suc turn
  pub depth_is : d ≡ suc depth
  pub there : kid < length (T p).kids
  pub on : Entered σ T t (moves_to_make σ T d 0 p n fs) depth turn (slice_index (T p).kids kid) 0 ((p, n) ∷ fs) done

-- the moves, by the instruction to come and whether returns are to be passed
pub record Entries (σ : Grammar) (T : Table) (t : Forest) : Type 0 where
  -- there is always an instruction
  pub instruction :
      (d k p n : ℕ) (fs : List (ℕ × ℕ)) (done : List Instance) → Entering σ T t d k p n fs done →
      (i : Instruction) × (slice_get (plan_at σ T p) n ≡ Some i)
  -- with returns to pass it lists nothing
  pub passes_evaluation :
      (d k p n o a : ℕ) (fs : List (ℕ × ℕ)) (done : List Instance) → Entering σ T t d (suc k) p n fs done →
      slice_get (plan_at σ T p) n ≡ Some (Evaluate o a) →
      Entered σ T t (moves_to_make σ T d (suc k) p n fs) d (suc k) p (suc n) fs done
  pub passes_visit :
      (d k p n o j : ℕ) (fs : List (ℕ × ℕ)) (done : List Instance) → Entering σ T t d (suc k) p n fs done →
      slice_get (plan_at σ T p) n ≡ Some (Visit o j) →
      Entered σ T t (moves_to_make σ T d (suc k) p n fs) d (suc k) p (suc n) fs done
  pub passes_return :
      (d k p n j : ℕ) (fs : List (ℕ × ℕ)) (done : List Instance) → Entering σ T t d (suc k) p n fs done →
      slice_get (plan_at σ T p) n ≡ Some (Return j) →
      Entered σ T t (moves_to_make σ T d (suc k) p n fs) d k p (suc n) fs done
  -- with none to pass it lists what it evaluates, goes down at a visit and up at a return
  pub evaluates :
      (d p n o a : ℕ) (fs : List (ℕ × ℕ)) (done : List Instance) → Entering σ T t d 0 p n fs done →
      slice_get (plan_at σ T p) n ≡ Some (Evaluate o a) →
      Entered σ T t (moves_to_make σ T d 0 p n fs) d 0 p (suc n) fs (done ++ (at_of p (T p).kids o, a) ∷ [])
  pub visits :
      (d p n k j : ℕ) (fs : List (ℕ × ℕ)) (done : List Instance) → Entering σ T t d 0 p n fs done →
      slice_get (plan_at σ T p) n ≡ Some (Visit k j) → Descended σ T t d p n k j fs done
  pub returns :
      (d p n j q m : ℕ) (fs : List (ℕ × ℕ)) (done : List Instance) → Entering σ T t d 0 p n ((q, m) ∷ fs) done →
      slice_get (plan_at σ T p) n ≡ Some (Return j) →
      Entered σ T t (moves_to_make σ T d 0 p n ((q, m) ∷ fs)) (suc d) 0 q (suc m) fs done
  -- at the return of the root the tour is done
  pub ends :
      (d p n j : ℕ) (done : List Instance) → Entering σ T t d 0 p n [] done → slice_get (plan_at σ T p) n ≡ Some (Return j) →
      done ≡ tour σ t

pub record EntryLaw : Type 0 where
  pub starts :
      (σ : Grammar) → Sound σ → (T : Table) (used : ℕ → Bool) (root : ℕ) → Shape σ T used root →
      Entering σ T (tree_from T 63 root) 63 0 root 0 [] []
  pub moves : (σ : Grammar) → Sound σ → (T : Table) (t : Forest) → Entries σ T t
