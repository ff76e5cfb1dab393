-- A move keeps the walk under way, lists what it meets, and takes some of the effort.
use Rattle.tour.proofs.Accepted.{sound_accepted}
use Rattle.std.proofs.Common.{◌≡◌, ℕ, zero, suc, ◌+◌, ◌-◌, ◌≤◌, false, List, [], ◌∷◌, map, length, get_or, drop, Some, None, Option, sym, refl, ap, ◌∙◌, subst, add-zero, zero-add, arith, drop-cons}
use Rattle.std.specs.List.{slice_get}
use Rattle.std.proofs.lemmas.Option.{slice_get-get_or}
use Rattle.grammar.specs.Model.{Grammar}
use Rattle.grammar.specs.declared.terms.Instruction.{Instruction}
use Rattle.grammar.specs.declared.terms.Instruction.TheVariants.{Evaluate, Visit, Return}
use Rattle.places.specs.Places.{table}
use Rattle.places.specs.declared.node.Node.{Node}
use Rattle.places.specs.declared.pushdown.Frame.{Frame}
use Rattle.sheet.proofs.Places.{nth_below}
use Rattle.tour.specs.Trees.{at_of}
use Rattle.tour.specs.Walks.{plan_at, begins, left_over, moves_left, Framed}
use Rattle.tour.proofs.Walks.{walk_evaluate, walk_visit, walk_return, moves_evaluate, moves_visit, moves_return, framed_evaluate, framed_visit}
use Rattle.walk.specs.Ahead.{passed, goes_on, behind_visit}
use Rattle.walk.specs.Moves.{passing, inside, moved_by, moved_at, moved, met_by, met_at, meets}
use Rattle.walk.specs.Stands.{Stand}
use Rattle.walk.specs.Walking.{Fits, Walking, Meeting, Moves, at_end}
use Rattle.walk.specs.declared.walker.Met.{Met}
use Rattle.walk.specs.declared.walker.Mode.{Mode}
use Rattle.walk.specs.declared.walker.Mode.TheVariants.{InPlan, Entering, Returning, Done}
use Rattle.walk.proofs.Bounds.{short_plan}
use Rattle.walk.proofs.Naming.{in_nth, child_used, visit_names}

read_there : (is : List Instruction) (n : ℕ) (i : Instruction) → slice_get is n ≡ Some i → get_or is n i ≡ i
read_there is n i e = let h = slice_get-get_or is n i (nth_below is n i e) in cc

drop_there : (is : List Instruction) (n : ℕ) (i : Instruction) → slice_get is n ≡ Some i → drop n is ≡ i ∷ drop (suc n) is
drop_there is n i e = drop-cons is n i (nth_below is n i e) ∙ ap (λ z. z ∷ drop (suc n) is) (read_there is n i e)

abbrev stood : Mode → ℕ → ℕ → List Frame → ℕ → Stand
stood m p n fs r = record { mode = m; place = p; next = n; frames = fs; room = r }

-- passing an instruction
passes_evaluate : (is : List Instruction) (n o a m : ℕ) → slice_get is n ≡ Some (Evaluate o a) → begins (suc m) (drop n is) ≡ suc (begins (suc m) (drop (suc n) is))
passes_evaluate is n o a m e = ap (begins (suc m)) (drop_there is n (Evaluate o a) e) ∙ omega arith

passes_visit : (is : List Instruction) (n k j m : ℕ) → slice_get is n ≡ Some (Visit k j) → begins (suc m) (drop n is) ≡ suc (begins (suc m) (drop (suc n) is))
passes_visit is n k j m e = ap (begins (suc m)) (drop_there is n (Visit k j) e) ∙ omega arith

passes_return : (is : List Instruction) (n j m : ℕ) → slice_get is n ≡ Some (Return j) → begins (suc m) (drop n is) ≡ suc (begins m (drop (suc n) is))
passes_return is n j m e = ap (begins (suc m)) (drop_there is n (Return j) e) ∙ omega arith

passing_stops : (m p n : ℕ) (plan : List Instruction) (rest : List (ℕ × ℕ)) → goes_on plan (passing m) p n rest ≡ (p, n + begins m (drop n plan)) ∷ rest
passing_stops zero p n plan rest = ap (λ z. (p, z) ∷ rest) (sym (add-zero n))
passing_stops (suc m) p n plan rest = refl

passing_passed : (m n : ℕ) (plan : List Instruction) → passed plan (passing m) n ≡ begins m (drop n plan)
passing_passed zero n plan = refl
passing_passed (suc m) n plan = refl

module _ (g : Grammar) (ps : List (Option Node)) where
  passing_fits : (m p n : ℕ) → Fits g ps (passing m) p n
  passing_fits zero p n = tt
  passing_fits (suc m) p n = omega arith

  no_meeting : (m : Met) → None ≡ Some m → Meeting g ps m
  no_meeting m h = let z : ◌≡◌ {A = ℕ} 0 1 = cc in absurd (omega arith)

  evaluating : (p n : ℕ) (fs : List Frame) (r o a : ℕ) → Walking g ps (stood InPlan p n fs r) → slice_get (plan_at g (table g ps) p) n ≡ Some (Evaluate o a)
      → Moves g ps (stood InPlan p n fs r) (met_by (table g ps) InPlan (Evaluate o a) p) (stood InPlan p (suc n) fs r)
  evaluating p n fs r o a w e =
      let d : ℕ = 63 - length fs in
      let is = read_there (plan_at g (table g ps) p) n (Evaluate o a) e in
      let fr = framed_evaluate g (table g ps) (sound_accepted g w.sound) d p n o a (map behind_visit fs) w.framed is in
      let l = moves_evaluate g (table g ps) d p n o a (map behind_visit fs) w.next_there is in
      record {
        walking = record {
          sound = w.sound;
          places_sound = w.places_sound;
          place_used = w.place_used;
          next_there = fr.0.6;
          mode_fits = tt;
          frames_visit = w.frames_visit;
          few_frames = w.few_frames;
          enough_room = w.enough_room;
          framed = fr;
        };
        lists = walk_evaluate g (table g ps) d p n o a (map behind_visit fs) w.next_there is;
        meeting = λ m h. subst (Meeting g ps) (cc) (record { rule_place_used = w.place_used; stands = in_nth (plan_at g (table g ps) p) n (Evaluate o a) e; place_is = refl });
        falls = omega (arith, l);
      }

  ending : (p n r j : ℕ) → Walking g ps (stood InPlan p n [] r) → slice_get (plan_at g (table g ps) p) n ≡ Some (Return j) → Moves g ps (stood InPlan p n [] r) None (stood Done p n [] r)
  ending p n r j w e =
      let is = read_there (plan_at g (table g ps) p) n (Return j) e in
      let l = moves_return g (table g ps) 63 p n j [] w.next_there is in
      record {
        walking = record {
          sound = w.sound;
          places_sound = w.places_sound;
          place_used = w.place_used;
          next_there = w.next_there;
          mode_fits = tt;
          frames_visit = tt;
          few_frames = w.few_frames;
          enough_room = w.enough_room;
          framed = tt;
        };
        lists = walk_return g (table g ps) 63 p n j [] w.next_there is;
        meeting = no_meeting;
        falls = omega (arith, l);
      }

  returning : (p n : ℕ) (f : Frame) (fs : List Frame) (r j : ℕ) → Walking g ps (stood InPlan p n (f ∷ fs) r) → slice_get (plan_at g (table g ps) p) n ≡ Some (Return j)
      → Moves g ps (stood InPlan p n (f ∷ fs) r) None (stood Returning f.place f.instruction fs r)
  returning p n f fs r j w e =
      let d : ℕ = 63 - suc (length fs) in
      let is = read_there (plan_at g (table g ps) p) n (Return j) e in
      let up : suc d ≡ 63 - length fs = (let h = w.few_frames in omega arith) in
      let l = moves_return g (table g ps) d p n j (map behind_visit (f ∷ fs)) w.next_there is in
      let m = ap (λ z. moves_left g (table g ps) z (map behind_visit (f ∷ fs))) up in
      let v = w.frames_visit.0 in
      record {
        walking = record {
          sound = w.sound;
          places_sound = w.places_sound;
          place_used = v.place_used;
          next_there = nth_below (plan_at g (table g ps) f.place) f.instruction (Visit v.child v.visit) v.stands;
          mode_fits = v;
          frames_visit = w.frames_visit.1;
          few_frames = let h = w.few_frames in omega arith;
          enough_room = w.enough_room;
          framed = subst (λ z. Framed g (table g ps) z (map behind_visit (f ∷ fs))) up w.framed.1;
        };
        lists = walk_return g (table g ps) d p n j (map behind_visit (f ∷ fs)) w.next_there is ∙ ap (λ z. left_over g (table g ps) z (map behind_visit (f ∷ fs))) up;
        meeting = no_meeting;
        falls = omega (arith, l, m);
      }

  resuming : (p n : ℕ) (fs : List Frame) (r : ℕ) → Walking g ps (stood Returning p n fs r) → Moves g ps (stood Returning p n fs r) None (stood InPlan p (suc n) fs r)
  resuming p n fs r w = record {
    walking = record {
      sound = w.sound;
      places_sound = w.places_sound;
      place_used = w.place_used;
      next_there = w.framed.0.6;
      mode_fits = tt;
      frames_visit = w.frames_visit;
      few_frames = w.few_frames;
      enough_room = w.enough_room;
      framed = w.framed;
    };
    lists = refl;
    meeting = no_meeting;
    falls = omega arith;
  }

  -- in looking for a visit, one instruction on
  skipping : (m k p n : ℕ) (fs : List Frame) (r : ℕ) → Walking g ps (stood (Entering (suc m)) p n fs r) → begins (suc m) (drop n (plan_at g (table g ps) p)) ≡ suc (begins k (drop (suc n) (plan_at g (table g ps) p)))
      → Moves g ps (stood (Entering (suc m)) p n fs r) None (stood (passing k) p (suc n) fs r)
  skipping m k p n fs r w e =
      let plan = plan_at g (table g ps) p in
      let far : n + begins (suc m) (drop n plan) ≡ suc n + begins k (drop (suc n) plan) = omega (arith, e) in
      let same : (p, n + begins (suc m) (drop n plan)) ∷ map behind_visit fs ≡ goes_on plan (passing k) p (suc n) (map behind_visit fs) = ap (λ z. (p, z) ∷ map behind_visit fs) far ∙ sym (passing_stops k p (suc n) plan (map behind_visit fs)) in
      let l = ap (λ z. moves_left g (table g ps) (63 - length fs) z) same in
      record {
        walking = record {
          sound = w.sound;
          places_sound = w.places_sound;
          place_used = w.place_used;
          next_there = omega (arith, far, w.framed.0.6);
          mode_fits = passing_fits k p (suc n);
          frames_visit = w.frames_visit;
          few_frames = w.few_frames;
          enough_room = w.enough_room;
          framed = subst (λ z. Framed g (table g ps) (63 - length fs) z) same w.framed;
        };
        lists = ap (λ z. left_over g (table g ps) (63 - length fs) z) same;
        meeting = no_meeting;
        falls = omega (arith, l, e, passing_passed k (suc n) plan);
      }

  -- down into a visit, and to the first instruction there
  visiting : (p n : ℕ) (fs : List Frame) (r k j : ℕ) → Walking g ps (stood InPlan p n fs r) → slice_get (plan_at g (table g ps) p) n ≡ Some (Visit (suc k) (suc j))
      → Moves g ps (stood InPlan p n fs r) None (stood (passing j) (get_or (table g ps p).kids k 0) 0 (record { place = p; instruction = n } ∷ fs) r)
  visiting p n fs r k j w e =
      let T = table g ps in
      let q : ℕ = get_or (table g ps p).kids k 0 in
      let rest = map behind_visit fs in
      let is = read_there (plan_at g T p) n (Visit (suc k) (suc j)) e in
      let fr = framed_visit g T (sound_accepted g w.sound) (63 - length fs) p n k j rest w.framed is in
      let deep : fr.0 ≡ 63 - suc (length fs) = omega (arith, fr.1) in
      let start : (q, begins j (plan_at g T q)) ∷ (p, suc n) ∷ rest ≡ goes_on (plan_at g T q) (passing j) q 0 ((p, suc n) ∷ rest) =
      ap (λ z. (q, z) ∷ (p, suc n) ∷ rest) (sym (zero-add (begins j (plan_at g T q)))) ∙ sym (passing_stops j q 0 (plan_at g T q) ((p, suc n) ∷ rest)) in
      let fr' = subst (λ z. Framed g T z ((q, begins j (plan_at g T q)) ∷ (p, suc n) ∷ rest)) deep fr.2 in
      let kid = (visit_names g ps p n (suc k) (suc j) w.sound w.places_sound w.place_used e).1 in
      let down = ap (λ z. left_over g T z ((p, n) ∷ rest)) fr.1 ∙ walk_visit g T fr.0 p n k j rest w.next_there is in
      let less = ap (λ z. moves_left g T z ((p, n) ∷ rest)) fr.1 ∙ moves_visit g T fr.0 p n k j rest w.next_there is in
      let far = ap (λ z. moves_left g T z ((q, begins j (plan_at g T q)) ∷ (p, suc n) ∷ rest)) deep ∙ ap (λ z. moves_left g T (63 - suc (length fs)) z) start in
      record {
        walking = record {
          sound = w.sound;
          places_sound = w.places_sound;
          place_used = child_used g ps p k w.places_sound w.place_used kid;
          next_there = omega (arith, fr.2.0.6);
          mode_fits = passing_fits j q 0;
          frames_visit = (record { place_used = w.place_used; child = suc k; visit = suc j; stands = e }, w.frames_visit);
          few_frames = omega (arith, fr.1);
          enough_room = w.enough_room;
          framed = subst (λ z. Framed g T (63 - suc (length fs)) z) start fr';
        };
        lists = down ∙ ap (λ z. left_over g T z ((q, begins j (plan_at g T q)) ∷ (p, suc n) ∷ rest)) deep ∙ ap (λ z. left_over g T (63 - suc (length fs)) z) start;
        meeting = no_meeting;
        falls = omega (arith, less, far, passing_passed j 0 (plan_at g T q), fr.2.0.6, short_plan g w.sound (T q).rule);
      }

  sub_one : (j : ℕ) → suc j - 1 ≡ j
  sub_one j = omega arith

  one_of : (o : Option Instruction) (i j : Instruction) → o ≡ Some i → o ≡ Some j → i ≡ j
  one_of o i j e f = cc

  moving_by : (m : Mode) (p n : ℕ) (fs : List Frame) (r : ℕ) (i : Instruction) → Walking g ps (stood m p n fs r) → slice_get (plan_at g (table g ps) p) n ≡ Some i → at_end m ≡ false
      → Moves g ps (stood m p n fs r) (met_by (table g ps) m i p) (moved_by (table g ps) m i (stood m p n fs r))
  moving_by InPlan p n fs r (Evaluate o a) w e z = evaluating p n fs r o a w e
  moving_by InPlan p n fs r (Visit k j) w e z = into k j e (visit_names g ps p n k j w.sound w.places_sound w.place_used e)
    where
      into : (k j : ℕ) → slice_get (plan_at g (table g ps) p) n ≡ Some (Visit k j) → (1 ≤ k) × (k ≤ length (table g ps p).kids) × (1 ≤ j) → Moves g ps (stood InPlan p n fs r) None (inside (at_of p (table g ps p).kids k) j (stood InPlan p n fs r))
      into zero j e h = absurd (omega (arith, h.0))
      into (suc k) zero e h = absurd (omega (arith, h.2))
      into (suc k) (suc j) e h =
          subst (λ x. Moves g ps (stood InPlan p n fs r) None (stood (passing x) (get_or (table g ps p).kids k 0) 0 (record { place = p; instruction = n } ∷ fs) r)) (sym (sub_one j)) (visiting p n fs r k j w e)
  moving_by InPlan p n [] r (Return j) w e z = ending p n r j w e
  moving_by InPlan p n (f ∷ fs) r (Return j) w e z = returning p n f fs r j w e
  moving_by (Entering zero) p n fs r i w e z = absurd (let h = w.mode_fits in omega arith)
  moving_by (Entering (suc m)) p n fs r (Evaluate o a) w e z = skipping m (suc m) p n fs r w (passes_evaluate (plan_at g (table g ps) p) n o a m e)
  moving_by (Entering (suc m)) p n fs r (Visit k j) w e z = skipping m (suc m) p n fs r w (passes_visit (plan_at g (table g ps) p) n k j m e)
  moving_by (Entering (suc m)) p n fs r (Return j) w e z =
      subst (λ x. Moves g ps (stood (Entering (suc m)) p n fs r) None (stood (passing x) p (suc n) fs r)) (sym (sub_one m)) (skipping m m p n fs r w (passes_return (plan_at g (table g ps) p) n j m e))
  moving_by Returning p n fs r (Evaluate o a) w e z = let v = w.mode_fits in let same = one_of (slice_get (plan_at g (table g ps) p) n) (Evaluate o a) (Visit v.child v.visit) e v.stands in let y : ◌≡◌ {A = ℕ} 0 1 = cc in absurd (omega arith)
  moving_by Returning p n fs r (Visit k j) w e z = resuming p n fs r w
  moving_by Returning p n fs r (Return j) w e z = let v = w.mode_fits in let same = one_of (slice_get (plan_at g (table g ps) p) n) (Return j) (Visit v.child v.visit) e v.stands in let y : ◌≡◌ {A = ℕ} 0 1 = cc in absurd (omega arith)
  moving_by Done p n fs r i w e z = let y : ◌≡◌ {A = ℕ} 0 1 = cc in absurd (omega arith)

  -- an instruction stands where the walk does
  pub standing : (s : Stand) → Walking g ps s → (i : Instruction) × (slice_get (plan_at g (table g ps) s.place) s.next ≡ Some i)
  standing s w = (get_or (plan_at g (table g ps) s.place) s.next (Return 0), slice_get-get_or (plan_at g (table g ps) s.place) s.next (Return 0) w.next_there)

  pub moving : (s : Stand) → Walking g ps s → at_end s.mode ≡ false → Moves g ps s (meets g (table g ps) s) (moved g (table g ps) s)
  moving s w z =
      let i = standing s w in
      subst (λ o. Moves g ps s (met_at (table g ps) o s) (moved_at (table g ps) o s)) (sym i.1) (moving_by s.mode s.place s.next s.frames s.room i.0 w i.1 z)
