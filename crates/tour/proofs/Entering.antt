-- The moves of a walk that passes returns to come to a visit's part of a plan.
use Rattle.std.proofs.Common.{◌≡◌, ℕ, zero, suc, ◌+◌, ◌<◌, List, [], ◌∷◌, ◌++◌, length, get_or, drop, Some, count_by, sym, refl, ap, ◌∙◌, subst, ap₂, append_assoc, append-nil, arith}
use Rattle.std.specs.List.{slice_get}
use Rattle.std.proofs.lemmas.Option.{slice_get-get_or}
use Rattle.grammar.specs.Model.{Grammar}
use Rattle.grammar.specs.declared.terms.Instruction.{Instruction}
use Rattle.grammar.specs.declared.terms.Instruction.TheVariants.{Evaluate, Visit, Return}
use Rattle.plans.specs.PlanRules.{is_return}
use Rattle.plans.proofs.Deciding.{never}
use Rattle.sheet.specs.Meaning.{Sound}
use Rattle.tour.specs.Trees.{Instance, Forest, at_of, part, up_to, listed}
use Rattle.tour.specs.Touring.{tour}
use Rattle.tour.specs.Nodes.{Table}
use Rattle.tour.specs.Shapes.{tree_from}
use Rattle.tour.specs.Roots.{Rooted}
use Rattle.tour.specs.Walks.{plan_at, below, deep, begins, left_over, Framed, weight, weights}
use Rattle.tour.specs.Entering.{behind_visits, to_list, entry_moves, frame_moves, moves_to_make, Entering, Entered, Descended, Entries, EntryLaw}
use Rattle.tour.proofs.Ruled.{returns, Accepted}
use Rattle.tour.proofs.Accepted.{sound_accepted}
use Rattle.tour.proofs.Segments.{returns_counted, returns_append}
use Rattle.tour.proofs.Walks.{framed_visit, read_at, visit_there_lem, walk_starts}
use Rattle.tour.proofs.Shapes.{day_rooted}

-- a list from place n on
drop_at : {X : Type 0} (xs : List X) (n : ℕ) (x : X) → slice_get xs n ≡ Some x → drop n xs ≡ x ∷ drop (suc n) xs
drop_at [] n x e = never (cc)
drop_at (y ∷ xs) zero x e = let same : y ≡ x = cc in ap (λ z. z ∷ xs) same
drop_at (y ∷ xs) (suc n) x e = drop_at xs n x e

within_returns : (is : List Instruction) (n : ℕ) → 0 < returns (drop n is) → n < length is
within_returns [] zero h = absurd (omega arith)
within_returns [] (suc n) h = absurd (omega arith)
within_returns (x ∷ is) zero h = omega arith
within_returns (x ∷ is) (suc n) h = let w = within_returns is n h in omega arith

-- before its last instruction a plan has a return ahead
last_ahead : (pre : List Instruction) (j n : ℕ) → n < length (pre ++ Return j ∷ []) → 0 < returns (drop n (pre ++ Return j ∷ []))
last_ahead [] j zero h = omega arith
last_ahead [] j (suc n) h = absurd (omega arith)
last_ahead (x ∷ pre) j zero h = omega (arith, returns_append (x ∷ pre) (Return j ∷ []))
last_ahead (x ∷ pre) j (suc n) h = last_ahead pre j n (omega arith)

module _ (σ : Grammar) (T : Table) (t : Forest) (ac : Accepted σ) where
  counted : (p n k : ℕ) → k < count_by is_return (drop n (plan_at σ T p)) → k < returns (drop n (plan_at σ T p))
  counted p n k h = subst (λ z. k < z) (returns_counted (drop n (plan_at σ T p))) h

  uncounted : (p n k : ℕ) → k < returns (drop n (plan_at σ T p)) → k < count_by is_return (drop n (plan_at σ T p))
  uncounted p n k h = subst (λ z. k < z) (sym (returns_counted (drop n (plan_at σ T p)))) h

  -- the frames with the innermost at another instruction that is there
  reframed : (d p n m : ℕ) (fs : List (ℕ × ℕ)) → m < length (plan_at σ T p) → Framed σ T d ((p, n) ∷ fs) → Framed σ T d ((p, m) ∷ fs)
  reframed d p n m fs h ((kids, ek, sk, ag, wi, l, _), fr) = ((kids, ek, sk, ag, wi, l, h), fr)

  -- to the next instruction, with k' in place of k returns to pass
  onward : (d k k' p n : ℕ) (fs : List (ℕ × ℕ)) (done done' : List Instance) → Entering σ T t d k p n fs done
      → k' < returns (drop (suc n) (plan_at σ T p))
      → done' ++ to_list σ T d k' p (suc n) fs ≡ done ++ to_list σ T d k p n fs
      → moves_to_make σ T d k p n fs ≡ suc (moves_to_make σ T d k' p (suc n) fs)
      → Entered σ T t (moves_to_make σ T d k p n fs) d k' p (suc n) fs done'
  onward d k k' p n fs done done' w a e f = record {
    entering = record {
      framed = reframed d p n (suc n) (behind_visits fs) (within_returns (plan_at σ T p) (suc n) (omega arith)) w.framed;
      ahead = uncounted p (suc n) k' a;
      parts = e ∙ w.parts;
      room = w.room;
    };
    fewer = f;
  }

  -- what is left, and the moves to make, by the plan from instruction n on
  abbrev left : (d k p : ℕ) (fs : List (ℕ × ℕ)) → List Instruction → List Instance
  left d k p fs is = listed (at_of p (T p).kids) (below (deep σ T d) (T p).kids) (part k is) ++ left_over σ T (suc d) (behind_visits fs)

  abbrev effort : (d k p : ℕ) (fs : List (ℕ × ℕ)) → List Instruction → ℕ
  effort d k p fs is = (begins k is + suc (weights (weight (entry_moves σ T d) (T p).kids) (part k is))) + frame_moves σ T (suc d) fs

  passes_evaluation : (d k p n o a : ℕ) (fs : List (ℕ × ℕ)) (done : List Instance) → Entering σ T t d (suc k) p n fs done → slice_get (plan_at σ T p) n ≡ Some (Evaluate o a) → Entered σ T t (moves_to_make σ T d (suc k) p n fs) d (suc k) p (suc n) fs done
  passes_evaluation d k p n o a fs done w e =
      let q = drop_at (plan_at σ T p) n (Evaluate o a) e in
      onward d (suc k) (suc k) p n fs done done w (subst (λ z. suc k < returns z) q (counted p n (suc k) w.ahead))
      (ap (λ z. done ++ left d (suc k) p fs z) (sym q))
      (ap (effort d (suc k) p fs) q ∙ omega arith)

  passes_visit : (d k p n o j : ℕ) (fs : List (ℕ × ℕ)) (done : List Instance) → Entering σ T t d (suc k) p n fs done → slice_get (plan_at σ T p) n ≡ Some (Visit o j) → Entered σ T t (moves_to_make σ T d (suc k) p n fs) d (suc k) p (suc n) fs done
  passes_visit d k p n o j fs done w e =
      let q = drop_at (plan_at σ T p) n (Visit o j) e in
      onward d (suc k) (suc k) p n fs done done w (subst (λ z. suc k < returns z) q (counted p n (suc k) w.ahead))
      (ap (λ z. done ++ left d (suc k) p fs z) (sym q))
      (ap (effort d (suc k) p fs) q ∙ omega arith)

  passes_return : (d k p n j : ℕ) (fs : List (ℕ × ℕ)) (done : List Instance) → Entering σ T t d (suc k) p n fs done → slice_get (plan_at σ T p) n ≡ Some (Return j) → Entered σ T t (moves_to_make σ T d (suc k) p n fs) d k p (suc n) fs done
  passes_return d k p n j fs done w e =
      let q = drop_at (plan_at σ T p) n (Return j) e in
      let a : suc k < suc (returns (drop (suc n) (plan_at σ T p))) = subst (λ z. suc k < returns z) q (counted p n (suc k) w.ahead) in
      onward d (suc k) k p n fs done done w (omega arith)
      (ap (λ z. done ++ left d (suc k) p fs z) (sym q))
      (ap (effort d (suc k) p fs) q ∙ omega arith)

  evaluates : (d p n o a : ℕ) (fs : List (ℕ × ℕ)) (done : List Instance) → Entering σ T t d 0 p n fs done → slice_get (plan_at σ T p) n ≡ Some (Evaluate o a) → Entered σ T t (moves_to_make σ T d 0 p n fs) d 0 p (suc n) fs (done ++ (at_of p (T p).kids o, a) ∷ [])
  evaluates d p n o a fs done w e =
      let q = drop_at (plan_at σ T p) n (Evaluate o a) e in
      onward d 0 0 p n fs done (done ++ (at_of p (T p).kids o, a) ∷ []) w (subst (λ z. 0 < returns z) q (counted p n 0 w.ahead))
      (append_assoc done ((at_of p (T p).kids o, a) ∷ []) (to_list σ T d 0 p (suc n) fs) ∙ ap (λ z. done ++ left d 0 p fs z) (sym q))
      (ap (effort d 0 p fs) q ∙ omega arith)

  returns_up : (d p n j q m : ℕ) (fs : List (ℕ × ℕ)) (done : List Instance) → Entering σ T t d 0 p n ((q, m) ∷ fs) done → slice_get (plan_at σ T p) n ≡ Some (Return j) → Entered σ T t (moves_to_make σ T d 0 p n ((q, m) ∷ fs)) (suc d) 0 q (suc m) fs done
  returns_up d p n j q m fs done w e =
      let r = drop_at (plan_at σ T p) n (Return j) e in
      let b = (ac.rules (T q).rule w.framed.1.0.5).1.return_last in
      record {
        entering = record {
          framed = w.framed.1;
          ahead = uncounted q (suc m) 0 (subst (λ z. 0 < returns (drop (suc m) z)) (sym b.2) (last_ahead b.0 b.1 (suc m) (subst (λ z. suc m < length z) b.2 w.framed.1.0.6)));
          parts = ap (λ z. done ++ left d 0 p ((q, m) ∷ fs) z) (sym r) ∙ w.parts;
          room = let h = w.room in omega arith;
        };
        fewer = ap (effort d 0 p ((q, m) ∷ fs)) r ∙ omega arith;
      }

  ends : (d p n j : ℕ) (done : List Instance) → Entering σ T t d 0 p n [] done → slice_get (plan_at σ T p) n ≡ Some (Return j) → done ≡ tour σ t
  ends d p n j done w e = sym (append-nil done) ∙ ap (λ z. done ++ left d 0 p [] z) (sym (drop_at (plan_at σ T p) n (Return j) e)) ∙ w.parts

  visits : (d p n k j : ℕ) (fs : List (ℕ × ℕ)) (done : List Instance) → Entering σ T t d 0 p n fs done → slice_get (plan_at σ T p) n ≡ Some (Visit k j) → Descended σ T t d p n k j fs done
  visits d p n k j fs done w e = go (visit_there_lem σ T t ac d p n k j (behind_visits fs) w.framed e)
    where
      go : (m : ℕ) × (i : ℕ) × (k ≡ suc m) × (j ≡ suc i) × (m < length (T p).kids) → Descended σ T t d p n k j fs done
      go (m, i, ek, ej, l) = record {
        kid = m;
        turn = i;
        depth = f.0;
        kid_is = ek;
        turn_is = ej;
        depth_is = f.1;
        there = l;
        on = record {
          entering = record {
            framed = reframed f.0 q (begins i (plan_at σ T q)) 0 ((p, suc n) ∷ behind_visits fs) (within_returns (plan_at σ T q) 0 (let a = f.3 in omega arith)) f.2;
            ahead = uncounted q 0 i f.3;
            parts = down ∙ w.parts;
            room = let h = w.room in let g = f.1 in omega arith;
          };
          fewer = ap (λ z. moves_to_make σ T z 0 p n fs) f.1 ∙ shorter;
        };
      }
        where
          q : ℕ
          q = get_or (T p).kids m 0

          here : slice_get (plan_at σ T p) n ≡ Some (Visit (suc m) (suc i))
          here = e ∙ ap₂ (λ x y. Some (Visit x y)) ek ej

          f : (e : ℕ) × (d ≡ suc e) × Framed σ T e ((q, begins i (plan_at σ T q)) ∷ (p, suc n) ∷ behind_visits fs) × (i < returns (plan_at σ T q))
          f = framed_visit σ T ac d p n m i (behind_visits fs) w.framed (read_at σ T t ac p n (Visit (suc m) (suc i)) here).1

          r : drop n (plan_at σ T p) ≡ Visit (suc m) (suc i) ∷ drop (suc n) (plan_at σ T p)
          r = drop_at (plan_at σ T p) n (Visit (suc m) (suc i)) here

          down : done ++ to_list σ T f.0 i q 0 ((p, n) ∷ fs) ≡ done ++ to_list σ T d 0 p n fs
          down = ap (λ z. done ++ z)
              (sym (append_assoc (deep σ T (suc f.0) q (suc i)) (listed (at_of p (T p).kids) (below (deep σ T (suc f.0)) (T p).kids) (up_to (drop (suc n) (plan_at σ T p)))) (left_over σ T (suc (suc f.0)) (behind_visits fs)))
              ∙ ap (left (suc f.0) 0 p fs) (sym r)
              ∙ ap (λ z. to_list σ T z 0 p n fs) (sym f.1))

          shorter : moves_to_make σ T (suc f.0) 0 p n fs ≡ suc (moves_to_make σ T f.0 i q 0 ((p, n) ∷ fs))
          shorter = ap (effort (suc f.0) 0 p fs) r ∙ omega arith

  pub entries : Entries σ T t
  entries = record {
    instruction = λ d k p n fs done w. (get_or (plan_at σ T p) n (Return 0), slice_get-get_or (plan_at σ T p) n (Return 0) w.framed.0.6);
    passes_evaluation = passes_evaluation;
    passes_visit = passes_visit;
    passes_return = passes_return;
    evaluates = evaluates;
    visits = visits;
    returns = returns_up;
    ends = ends;
  }

pub entry_law : EntryLaw
entry_law = record {
  starts = λ σ so T used root sh. begin σ so T root (day_rooted σ T used root sh);
  moves = λ σ so T t. entries σ T t (sound_accepted σ so);
}
  where
    begin : (σ : Grammar) → Sound σ → (T : Table) (p : ℕ) → Rooted σ T 0 (tree_from T 63 p) → Entering σ T (tree_from T 63 p) 63 0 p 0 [] []
    begin σ so T p r =
        let w = walk_starts σ T p so r in
        let b = ((sound_accepted σ so).rules (T p).rule r.agrees.0).1.return_last in
        record {
          framed = w.framed;
          ahead = subst (λ z. 0 < z) (sym (returns_counted (plan_at σ T p))) (omega (arith, ap returns b.2 ∙ returns_append b.0 (Return b.1 ∷ [])));
          parts = w.parts;
          room = refl;
        }
