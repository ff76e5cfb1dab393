-- A walk looks at no marks.
use Rattle.std.proofs.Common.{◌≡◌, ℕ, ◌<◌, true, List, length, Some, Option, sym, ap, ◌∙◌, subst}
use Rattle.std.specs.List.{slice_get}
use Rattle.std.proofs.ByRecursion.{All-weaker}
use Rattle.grammar.specs.Model.{Grammar}
use Rattle.grammar.specs.declared.terms.Instruction.TheVariants.{Visit}
use Rattle.places.specs.Places.{used, table}
use Rattle.places.specs.declared.node.Node.{Node}
use Rattle.tour.specs.Walks.{plan_at, Framed}
use Rattle.walk.specs.Ahead.{ahead, depth_left, stops}
use Rattle.walk.specs.Marked.{Remarked, MarksLaw}
use Rattle.walk.specs.Stands.{Stand}
use Rattle.walk.specs.Walking.{Visits, Fits, Walking}
use Rattle.walk.specs.declared.walker.Mode.{Mode}
use Rattle.walk.proofs.Remarking.{same_used, same_cells, places_too}
use Rattle.walk.specs.declared.walker.Mode.TheVariants.{InPlan, Entering, Returning, Done}

module _ (g : Grammar) (ps qs : List (Option Node)) (same : Remarked g ps qs) where
  tables : table g ps ≡ table g qs
  tables = λ i p. sym (same_cells g ps qs same p) i

  used_too : (p : ℕ) → used ps p ≡ true → used qs p ≡ true
  used_too p u = same_used g ps qs same p ∙ u

  visits_too : (p n : ℕ) → Visits g ps p n → Visits g qs p n
  visits_too p n v = record {
    place_used = used_too p v.place_used;
    child = v.child;
    visit = v.visit;
    stands = subst (λ T. slice_get (plan_at g T p) n ≡ Some (Visit v.child v.visit)) tables v.stands;
  }

  fits_too : (m : Mode) (p n : ℕ) → Fits g ps m p n → Fits g qs m p n
  fits_too InPlan p n h = tt
  fits_too (Entering k) p n h = h
  fits_too Returning p n h = visits_too p n h
  fits_too Done p n h = tt

  walking_too : (s : Stand) → Walking g ps s → Walking g qs s
  walking_too s w = record {
    sound = w.sound;
    places_sound = places_too g ps qs same w.places_sound;
    place_used = used_too s.place w.place_used;
    next_there = subst (λ T. s.next < length (plan_at g T s.place)) tables w.next_there;
    mode_fits = fits_too s.mode s.place s.next w.mode_fits;
    frames_visit = All-weaker (λ f. Visits g ps f.place f.instruction) (λ f. Visits g qs f.place f.instruction) (λ f. visits_too f.place f.instruction) s.frames w.frames_visit;
    few_frames = w.few_frames;
    enough_room = w.enough_room;
    framed = subst (λ T. Framed g T (depth_left s) (stops g T s)) tables w.framed;
  }

  same_left : (s : Stand) → ahead g (table g qs) s ≡ ahead g (table g ps) s
  same_left s = ap (λ T. ahead g T s) (sym tables)

pub marks_passed : MarksLaw
marks_passed g ps qs s same = record {
  sound = places_too g ps qs same;
  walking = walking_too g ps qs same s;
  same_table = sym (tables g ps qs same);
  same_ahead = same_left g ps qs same s;
}
