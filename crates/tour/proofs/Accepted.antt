-- A sound grammar is accepted: from places in a plan to its front parts.
use Rattle.std.proofs.Common.{◌≡◌, ℕ, zero, suc, ◌+◌, ◌<◌, ◌≤◌, List, [], ◌∷◌, ◌++◌, length, get_or, take, Some, None, count_by, Option, sym, refl, ap, ◌∙◌, subst, inl, inr, ⊎_elim, arith}
use Rattle.std.specs.List.{AllByRecursion, slice_get}
use Rattle.std.proofs.ByRecursion.{All-get_or}
use Rattle.std.proofs.lemmas.List.{get_or_past}
use Rattle.std.proofs.lemmas.Option.{slice_get-get_or}
use Rattle.std.proofs.lemmas.Bool.{cases_lt}
use Rattle.grammar.specs.Model.{Symbol, Rule, Grammar}
use Rattle.grammar.specs.Tests.{and_then}
use Rattle.grammar.specs.Scopes.{Scope, visits_in, visits_at, attribute_at, Defined, TakenAt}
use Rattle.grammar.specs.declared.terms.Flow.{Flow}
use Rattle.grammar.specs.declared.terms.Flow.TheVariants.{Inherited, Synthesized}
use Rattle.grammar.specs.declared.terms.Attribute.{Attribute}
use Rattle.grammar.specs.declared.terms.Argument.TheVariants.{Of}
use Rattle.grammar.specs.declared.terms.Instruction.{Instruction}
use Rattle.grammar.specs.declared.terms.Instruction.TheVariants.{Evaluate, Visit, Return}
use Rattle.grammar.specs.declared.refusal.PlanRule.TheVariants.{ReturnsInOrder, OneEvaluation, VisitsInOrder, InheritedBeforeVisit, SynthesizedBeforeReturn, ArgumentsFirst}
use Rattle.plans.specs.PlanRules.{InTurn, Before, is_return, KnownAt, Known}
use Rattle.plans.specs.PlanTests.{turns_of, numbers_from}
use Rattle.plans.proofs.Deciding.{never}
use Rattle.plans.proofs.Places.{nth_within, nth_at}
use Rattle.plans.proofs.TurnsByPlace.{turns_at}
use Rattle.sheet.specs.Meaning.{Sound, SoundRule, SoundSymbol, StartSymbol, SoundEquation, scope_of_rule, Taken, There}
use Rattle.tour.specs.Runs.{In}
use Rattle.tour.specs.Rules.{no_symbol, no_rule, no_attribute, symbol, rule, occurs, Has, Takes}
use Rattle.tour.proofs.Lists.{in_right}
use Rattle.tour.proofs.Ruled.{returns, Defines, Grammatical, Stands, Planned, Accepted}
use Rattle.tour.proofs.Segments.{returns_counted, returns_append}
use Rattle.tour.proofs.Ruled.Defines.{own, given}

pub all_in : {X : Type 0} (P : X → Type 0) (xs : List X) (x : X) → AllByRecursion P xs → In x xs → P x
all_in P [] x h m = absurd m
all_in P (y ∷ xs) x h (inl e) = subst P (sym e) h.0
all_in P (y ∷ xs) x h (inr m) = all_in P xs x h.1 m

-- between places and membership
pub in_at : {X : Type 0} (x : X) (xs : List X) → In x xs → (m : ℕ) × (slice_get xs m ≡ Some x)
in_at x [] m = absurd m
in_at x (y ∷ xs) (inl e) = (zero, ap Some (sym e))
in_at x (y ∷ xs) (inr m) = let r = in_at x xs m in (suc r.0, r.1)

at_in : {X : Type 0} (x : X) (xs : List X) (m : ℕ) → slice_get xs m ≡ Some x → In x xs
at_in x [] m e = never (cc)
at_in x (y ∷ xs) zero e = let same : y ≡ x = cc in inl (sym same)
at_in x (y ∷ xs) (suc m) e = inr (at_in x xs m e)

-- between places before the end of a front part and membership in it
front_in : {X : Type 0} (x : X) (pre post : List X) (m : ℕ) → m < length pre → slice_get (pre ++ post) m ≡ Some x → In x pre
front_in x [] post m h e = absurd (omega arith)
front_in x (y ∷ pre) post zero h e = let same : y ≡ x = cc in inl (sym same)
front_in x (y ∷ pre) post (suc m) h e = inr (front_in x pre post m (omega arith) e)

in_front : {X : Type 0} (x : X) (pre post : List X) → In x pre → (m : ℕ) × (m < length pre) × (slice_get (pre ++ post) m ≡ Some x)
in_front x [] post m = absurd m
in_front x (y ∷ pre) post (inl e) = (zero, omega arith, ap Some (sym e))
in_front x (y ∷ pre) post (inr m) = let r = in_front x pre post m in (suc r.0, (let h = r.1 in omega arith), r.2)

at_end_lem : {X : Type 0} (x : X) (pre post : List X) → slice_get (pre ++ x ∷ post) (length pre) ≡ Some x
at_end_lem x [] post = refl
at_end_lem x (y ∷ pre) post = at_end_lem x pre post

take_front : {X : Type 0} (pre post : List X) → take (length pre) (pre ++ post) ≡ pre
take_front [] post = refl
take_front (x ∷ pre) post = ap (λ z. x ∷ z) (take_front pre post)

-- returns that are numbered from a on
return_number : (pre post : List Instruction) (j a n : ℕ) → turns_of 0 (pre ++ Return j ∷ post) ≡ numbers_from a n → j ≡ a + returns pre
return_number [] post j a zero e = never (cc)
return_number [] post j a (suc n) e = let same : j ≡ a = cc in omega arith
return_number (Evaluate o b ∷ pre) post j a n e = return_number pre post j a n e
return_number (Visit k i ∷ pre) post j a n e = return_number pre post j a n e
return_number (Return i ∷ pre) post j a zero e = never (cc)
return_number (Return i ∷ pre) post j a (suc n) e = let h = return_number pre post j (suc a) n (cc) in omega arith

visits_there : (xs : List Symbol) (x : ℕ) → visits_in (slice_get xs x) ≡ (get_or xs x no_symbol).visits
visits_there [] x = refl
visits_there (s ∷ xs) zero = refl
visits_there (s ∷ xs) (suc x) = visits_there xs x

-- an attribute that is there
has_within : (σ : Grammar) (x a j : ℕ) (k : Flow) → Has σ x a k j → x < length σ.symbols
has_within σ x a j k h = ⊎_elim (λ l. l) (λ l. let e : length (symbol σ x).attributes ≡ 0 = ap (λ (s : Symbol). length s.attributes) (get_or_past σ.symbols x no_symbol l) in absurd (omega (arith, h.0))) (cases_lt x (length σ.symbols))

module _ (σ : Grammar) (ρ : Rule) where
  abbrev scope : Scope
  scope = scope_of_rule σ.symbols ρ

  has_attribute : (o a j : ℕ) (k : Flow) → o < length (ρ.left ∷ ρ.right) → Has σ (occurs ρ o) a k j → attribute_at scope o a ≡ Some (record { flow = k; visit = j })
  has_attribute o a j k l h =
      ap (λ z. and_then (and_then z (λ x. slice_get σ.symbols x)) (λ s. slice_get s.attributes a)) (slice_get-get_or (ρ.left ∷ ρ.right) o 0 l)
      ∙ ap (λ z. and_then z (λ s. slice_get s.attributes a)) (slice_get-get_or σ.symbols (occurs ρ o) no_symbol (has_within σ (occurs ρ o) a j k h))
      ∙ slice_get-get_or (symbol σ (occurs ρ o)).attributes a no_attribute h.0
      ∙ ap Some h.1

  attribute_has : (o a : ℕ) (x : Attribute) → attribute_at scope o a ≡ Some x → (o < length (ρ.left ∷ ρ.right)) × Has σ (occurs ρ o) a x.flow x.visit
  attribute_has o a x e = go (slice_get (ρ.left ∷ ρ.right) o) refl e
    where
      third : (y : ℕ) (s : Symbol) → slice_get (ρ.left ∷ ρ.right) o ≡ Some y → slice_get σ.symbols y ≡ Some s → slice_get s.attributes a ≡ Some x → (o < length (ρ.left ∷ ρ.right)) × Has σ (occurs ρ o) a x.flow x.visit
      third y s ey es ea =
          let here : occurs ρ o ≡ y = nth_at (ρ.left ∷ ρ.right) o y 0 ey in
          let there : symbol σ (occurs ρ o) ≡ s = ap (symbol σ) here ∙ nth_at σ.symbols y s no_symbol es in (
            nth_within (ρ.left ∷ ρ.right) o y ey,
            subst (λ (z : Symbol). (a < length z.attributes) × (get_or z.attributes a no_attribute ≡ x)) (sym there) (nth_within s.attributes a x ea, nth_at s.attributes a x no_attribute ea),
          )

      second : (y : ℕ) → slice_get (ρ.left ∷ ρ.right) o ≡ Some y → (q : Option Symbol) → slice_get σ.symbols y ≡ q → and_then q (λ s. slice_get s.attributes a) ≡ Some x → (o < length (ρ.left ∷ ρ.right)) × Has σ (occurs ρ o) a x.flow x.visit
      second y ey None es ea = never (cc)
      second y ey (Some s) es ea = third y s ey es ea

      go : (q : Option ℕ) → slice_get (ρ.left ∷ ρ.right) o ≡ q → and_then (and_then q (λ y. slice_get σ.symbols y)) (λ s. slice_get s.attributes a) ≡ Some x → (o < length (ρ.left ∷ ρ.right)) × Has σ (occurs ρ o) a x.flow x.visit
      go None ey ea = never (cc)
      go (Some y) ey ea = second y ey (slice_get σ.symbols y) refl ea

  visits_at_lem : (o : ℕ) → o < length (ρ.left ∷ ρ.right) → visits_at scope o ≡ (symbol σ (occurs ρ o)).visits
  visits_at_lem o l = ap (λ z. visits_in (and_then z (λ x. slice_get σ.symbols x))) (slice_get-get_or (ρ.left ∷ ρ.right) o 0 l) ∙ visits_there σ.symbols (occurs ρ o)

  visited_within : (o j : ℕ) → 1 ≤ j → j ≤ visits_at scope o → o < length (ρ.left ∷ ρ.right)
  visited_within o j l h = go (slice_get (ρ.left ∷ ρ.right) o) refl h
    where
      go : (q : Option ℕ) → slice_get (ρ.left ∷ ρ.right) o ≡ q → j ≤ visits_in (and_then q (λ x. slice_get σ.symbols x)) → o < length (ρ.left ∷ ρ.right)
      go None e k = absurd (omega arith)
      go (Some y) e k = nth_within (ρ.left ∷ ρ.right) o y e

  -- what a rule defines
  defined_from : (o a : ℕ) → Defines σ ρ o a → Defined scope o a
  defined_from _ a (own {j = j} h) = (j, has_attribute 0 a j Synthesized (omega arith) h)
  defined_from _ a (given {k = k} {j = j} l h) = (j, has_attribute (suc k) a j Inherited (omega arith) h)

  pub defines_from : (o a : ℕ) → Defined scope o a → Defines σ ρ o a
  defines_from zero a (j, e) = own (attribute_has 0 a (record { flow = Synthesized; visit = j }) e).1
  defines_from (suc k) a (j, e) = let r = attribute_has (suc k) a (record { flow = Inherited; visit = j }) e in given (let l = r.0 in omega arith) r.1

  module _ (sound : SoundRule σ.symbols ρ) where
    there : (i : Instruction) → In i ρ.plan → There scope i
    there i m = all_in (There scope) ρ.plan i sound.instructions_there m

    stands_at : (pre : List Instruction) (i : Instruction) → Stands ρ pre i → slice_get ρ.plan (length pre) ≡ Some i
    stands_at pre i (post, e) = ap (λ z. slice_get z (length pre)) e ∙ at_end_lem i pre post

    stands_there : (pre : List Instruction) (i : Instruction) → Stands ρ pre i → There scope i
    stands_there pre i (post, e) = there i (subst (λ z. In i z) (sym e) (in_right i pre (i ∷ post) (inl refl)))

    -- what stands before an instruction's place stands in the front part
    before_in_lem : (pre : List Instruction) (i x : Instruction) → Stands ρ pre i → Before ρ.plan (length pre) x → In x pre
    before_in_lem pre i x (post, e) (m, l, h) = front_in x pre (i ∷ post) m l (ap (λ z. slice_get z m) (sym e) ∙ h)

    in_before : (pre : List Instruction) (i x : Instruction) → Stands ρ pre i → In x pre → Before ρ.plan (length pre) x
    in_before pre i x (post, e) m = let r = in_front x pre (i ∷ post) m in (r.0, r.1, ap (λ z. slice_get z r.0) e ∙ r.2)

    visit_within : (k j : ℕ) → (1 ≤ k) × (1 ≤ j) × (j ≤ visits_at scope k) → (1 ≤ k) × (k ≤ length ρ.right) × (1 ≤ j) × (j ≤ (symbol σ (occurs ρ k)).visits)
    visit_within k j (a, b, c) =
        let l = visited_within k j b c in
        (a, omega arith, b, subst (λ z. j ≤ z) (visits_at_lem k l) c)

    turns : (k : ℕ) → 1 ≤ k → k ≤ length ρ.right → InTurn ρ.plan (Visit k) (visits_at scope k)
    turns k l h = sound.planned VisitsInOrder k l (omega arith)

    -- what an equation takes is an attribute that its rule may take
    taken : (o a p b : ℕ) → Takes ρ o a p b → TakenAt scope p b
    taken o a p b (q, m, eo, ea, n) = all_in (Taken scope) q.arguments (Of p b) (all_in (SoundEquation scope) ρ.equations q sound.equations_sound m).arguments_taken n

    grammatical : AllByRecursion SoundSymbol σ.symbols → Grammatical σ ρ
    grammatical symbols = record {
      visit_low = λ x a j k h. (timed x a j k h).0;
      visit_high = λ x a j k h. (timed x a j k h).1;
      argument_own = λ o a b t. let r = taken o a 0 b t in (r.0, (attribute_has 0 b (record { flow = Inherited; visit = r.0 }) r.1).1);
      argument_right = λ o a k b t.
          let r = taken o a (suc k) b t in
          let h = attribute_has (suc k) b (record { flow = Synthesized; visit = r.0 }) r.1 in
          ((let l = h.0 in omega arith), (r.0, h.1));
      visits_there = λ k j m. visit_within k j (there (Visit k j) m);
    }
      where
        timed : (x a j : ℕ) (k : Flow) → Has σ x a k j → (1 ≤ j) × (j ≤ (symbol σ x).visits)
        timed x a j k h =
            let s = All-get_or SoundSymbol σ.symbols x no_symbol (has_within σ x a j k h) symbols in
            subst (λ (z : Attribute). (1 ≤ z.visit) × (z.visit ≤ (symbol σ x).visits)) h.1 (All-get_or (λ (z : Attribute). (1 ≤ z.visit) × (z.visit ≤ (symbol σ x).visits)) (symbol σ x).attributes a no_attribute h.0 s.visits_there)

    return_turn : (pre : List Instruction) (j : ℕ) → Stands ρ pre (Return j) → j ≡ suc (returns pre)
    return_turn pre j (post, e) =
        let h = return_number pre post j 1 (visits_at scope 0) (ap (turns_of 0) (sym e) ∙ turns_at scope ρ.plan 0 (sound.planned ReturnsInOrder).0) in
        omega arith

    return_count : returns ρ.plan ≡ (symbol σ ρ.left).visits
    return_count =
        let r = (sound.planned ReturnsInOrder).1 in
        let n = visits_at scope 0 in
        let e : n ≡ suc (returns r.0) = return_turn r.0 n ([], r.1) in
        let c : returns ρ.plan ≡ returns r.0 + 1 = ap returns r.1 ∙ returns_append r.0 (Return n ∷ []) in
        omega (arith, visits_at_lem 0 (omega arith))

    -- where the arguments of an evaluation are known
    known : (pre : List Instruction) (o a p b j : ℕ) (k : Flow) → Stands ρ pre (Evaluate o a) → Takes ρ o a p b → p < length (ρ.left ∷ ρ.right) → Has σ (occurs ρ p) b k j → KnownAt ρ.plan (length pre) p j
    known pre o a p b j k st (q, m, eo, ea, n) l h =
        let at = in_at q ρ.equations m in
        all_in (Known scope ρ.plan (length pre)) q.arguments (Of p b)
        (sound.planned ArgumentsFirst (length pre) o a at.0 q (stands_at pre (Evaluate o a) st) at.1 eo ea) n
        (record { flow = k; visit = j }) (has_attribute p b j k l h)

    planned : Planned σ ρ
    planned = record {
      returns_in_order = return_turn;
      returns_all = return_count;
      return_last = let r = (sound.planned ReturnsInOrder).1 in (r.0, visits_at scope 0, r.1);
      evaluates_all = λ o a d. let r = (sound.planned OneEvaluation).0 o a (defined_from o a d) in at_in (Evaluate o a) ρ.plan r.0 r.1.0;
      evaluates_only = λ o a m. let r = in_at (Evaluate o a) ρ.plan m in defines_from o a ((sound.planned OneEvaluation).1 r.0 o a r.1);
      evaluates_once_lem = λ pre o a st m.
          let b = in_before pre (Evaluate o a) (Evaluate o a) st m in
          let s = stands_at pre (Evaluate o a) st in
          let r = (sound.planned OneEvaluation).0 o a ((sound.planned OneEvaluation).1 (length pre) o a s) in
          let e = r.1.1 b.0 b.2 in
          let f = r.1.1 (length pre) s in
          omega (arith, b.1);
      visits_all = λ k j l h l' h'. let r = (turns k l h).each j l' (subst (λ z. j ≤ z) (sym (visits_at_lem k (omega arith))) h') in at_in (Visit k j) ρ.plan r.0 r.1.0;
      visits_once = λ pre k j st m.
          let w = stands_there pre (Visit k j) st in
          let v = visit_within k j w in
          let b = in_before pre (Visit k j) (Visit k j) st m in
          let r = (turns k v.0 v.1).each j v.2 w.2 in
          let e = r.1.1 b.0 b.2 in
          let f = r.1.1 (length pre) (stands_at pre (Visit k j) st) in
          omega (arith, b.1);
      visits_in_order = λ pre k j i st l h.
          let w = stands_there pre (Visit k j) st in
          let v = visit_within k j w in
          let t = turns k v.0 v.1 in
          let r = t.each i l (omega (arith, w.2)) in
          before_in_lem pre (Visit k j) (Visit k i) st (r.0, t.ordered r.0 (length pre) i j r.1.0 (stands_at pre (Visit k j) st) h, r.1.0);
      visit_after_inherited = λ pre k j a st h.
          let v = visit_within k j (stands_there pre (Visit k j) st) in
          before_in_lem pre (Visit k j) (Evaluate k a) st (sound.planned InheritedBeforeVisit (length pre) k j a (stands_at pre (Visit k j) st) (has_attribute k a j Inherited (omega (arith, v.1)) h));
      return_after_synthesized = λ pre j a st h.
          before_in_lem pre (Return j) (Evaluate 0 a) st (sound.planned SynthesizedBeforeReturn (length pre) j a (stands_at pre (Return j) st) (has_attribute 0 a j Synthesized (omega arith) h));
      after_visit = λ pre o a k b j st t h.
          before_in_lem pre (Evaluate o a) (Visit (suc k) j) st (known pre o a (suc k) b j Synthesized st t (right_within o a k b t) h);
      not_before_segment = λ pre o a b i st t h.
          let w : i ≤ suc (count_by is_return (take (length pre) ρ.plan)) = known pre o a 0 b i Inherited st t (omega arith) h in
          let e : count_by is_return (take (length pre) ρ.plan) ≡ returns pre = ap (count_by is_return) (ap (take (length pre)) st.1 ∙ take_front pre (Evaluate o a ∷ st.0)) ∙ returns_counted pre in
          omega arith;
    }
      where
        right_within : (o a k b : ℕ) → Takes ρ o a (suc k) b → suc k < length (ρ.left ∷ ρ.right)
        right_within o a k b t = let r = taken o a (suc k) b t in (attribute_has (suc k) b (record { flow = Synthesized; visit = r.0 }) r.1).0

pub sound_accepted : (σ : Grammar) → Sound σ → Accepted σ
sound_accepted σ sound = record {
  rules = λ r l. let ok = All-get_or (SoundRule σ.symbols) σ.rules r no_rule l sound.rules_sound in (grammatical σ (rule σ r) ok sound.symbols_sound, planned σ (rule σ r) ok);
  start_visits = begin.one_visit;
  start_free = λ a i h.
      let s = All-get_or (λ (x : Attribute). x.flow ≡ Synthesized) (symbol σ 0).attributes a no_attribute h.0 begin.synthesized in
      let e = ap (λ (x : Attribute). x.flow) h.1 in
      never (cc);
}
  where
    begin : StartSymbol (symbol σ 0)
    begin = sound.start (symbol σ 0) (slice_get-get_or σ.symbols 0 no_symbol sound.some_symbol)
