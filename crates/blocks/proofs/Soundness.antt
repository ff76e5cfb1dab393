-- A table stays sound when a block is written.
use Rattle.std.proofs.Common.{◌≡◌, ℕ, zero, suc, ◌+◌, ◌-◌, ◌<◌, ◌≤◌, true, ◌⊎◌, List, [], ◌∷◌, ◌++◌, length, get_or, replicate, Some, None, Option, sym, refl, ap, ◌∙◌, subst, inl, inr, ⊎_elim, append_assoc, append-nil, arith, pow_pos}
use mathlib.Core.Bool.{false≢true}
use Rattle.std.proofs.lemmas.Bool.{cases_eq}
use Rattle.std.proofs.lemmas.List.{get_or-take, get_or_append_left, get_or_at, length-append, length-replicate}
use Rattle.grammar.specs.Model.{Grammar}
use Rattle.tour.specs.Runs.{In, Apart}
use Rattle.tour.specs.Rules.{rule}
use Rattle.tour.specs.Trees.{Forest, Agrees, places, places_in}
use Rattle.tour.specs.Trees.Forest.{none, node}
use Rattle.tour.specs.Blocks.{pieces}
use Rattle.tour.specs.Walks.{Within}
use Rattle.tour.proofs.Lists.{in_cases}
use Rattle.places.specs.Places.{at, parent_in, parent_at, arity, attributes}
use Rattle.places.specs.Shape.{climbs, ChildThere, ParentThere, HangsBelow, SoundNode, SoundPlaces}
use Rattle.places.specs.declared.node.Node.{Node}
use Rattle.places.specs.declared.node.Parent.{Parent}
use Rattle.blocks.specs.Block.{deepest, own_symbol}
use Rattle.blocks.specs.Planted.{four_of, fresh, next_to, first_below}
use Rattle.blocks.specs.Sound.{SoundLaw, EmptyLaw}
use Rattle.places.specs.Totals.{free_from}
use Rattle.blocks.specs.Taken.{taken}
use Rattle.blocks.proofs.Laying.{Narrow, Stand, laid_length, laid_stand, agrees_many}
use Rattle.blocks.proofs.Depths.{within}
use Rattle.blocks.proofs.Taking.{taken_takes}
use Rattle.blocks.proofs.Writing.{narrow}

length_four : (xs : List ℕ) → length (four_of xs) ≡ 4
length_four [] = refl
length_four (a ∷ []) = refl
length_four (a ∷ b ∷ []) = refl
length_four (a ∷ b ∷ c ∷ []) = refl
length_four (a ∷ b ∷ c ∷ d ∷ xs) = refl

-- the children of a new node
four_at : (xs : List ℕ) (k : ℕ) → length xs ≤ 4 → k < length xs → get_or (four_of xs) k 0 ≡ get_or xs k 0
four_at xs k l m =
    let h : k < 4 = omega arith in
    get_or-take 4 (xs ++ (0 ∷ 0 ∷ 0 ∷ 0 ∷ [])) k 0 h ∙ get_or_append_left xs (0 ∷ 0 ∷ 0 ∷ 0 ∷ []) 0 k m

-- climbing goes on with more to go
pub climbs_more : (ps : List (Option Node)) (n m p : ℕ) → n ≤ m → climbs ps n p ≡ true → climbs ps m p ≡ true
climbs_more ps zero m p l e = absurd (false≢true e)
climbs_more ps (suc n) zero p l e = absurd (omega arith)
climbs_more ps (suc n) (suc m) p l e = by (parent_at ps p) e (λ q. climbs_more ps n m q (omega arith))
  where
    by : (o : Option Parent) → elim o [ None ↦ true | Some u ↦ climbs ps n u.place ] ≡ true → ((q : ℕ) → climbs ps n q ≡ true → climbs ps m q ≡ true) → elim o [ None ↦ true | Some u ↦ climbs ps m u.place ] ≡ true
    by None h more = refl
    by (Some u) h more = more u.place h

module _ (g : Grammar) where
  module _ (few : Narrow g) (ps : List (Option Node)) where
    -- the k-th tree of a row below p, whose first is child number j
    kid_there : (f : Forest) (xs : List ℕ) (p j k : ℕ) → Agrees g f xs → Stand g f (Some (record { place = p; position = suc j })) ps → k < length xs → ChildThere g p (j + k) (get_or xs k 0) (at ps (get_or (places f) k 0))
    kid_there none [] p j k ag h l = absurd (omega arith)
    kid_there none (x ∷ xs) p j k ag h l = absurd ag
    kid_there (node q r c kids rest) [] p j k ag h l = absurd ag
    kid_there (node q r c kids rest) (x ∷ xs) p j zero ag h l =
        let e : suc j ≡ suc (j + 0) = omega arith in
        subst (ChildThere g p (j + 0) x) (sym h.0) (record { hangs = ap (λ z. Some (record { place = p; position = z })) e; symbol_is = ag.1 })
    kid_there (node q r c kids rest) (x ∷ xs) p j (suc k) ag h l =
        let e : suc j + k ≡ j + suc k = omega arith in
        subst (λ z. ChildThere g p z (get_or xs k 0) (at ps (get_or (places rest) k 0))) e (kid_there rest xs p (suc j) k ag.3 h.2 (omega arith))

    -- each root of a row hangs from its parent
    abbrev Hang : Forest → Option Parent → Type 0
    Hang none up = Unit {0}
    Hang (node p r c kids rest) up = HangsBelow g ps p up × Hang rest (next_to up)

    kids_hang : (p r c : ℕ) (up : Option Parent) (kids : Forest) → at ps p ≡ Some (fresh g r c up (places kids)) → length (places kids) ≡ arity g r → arity g r ≤ 4
        → (f : Forest) (before : List ℕ) → places kids ≡ before ++ places f → Hang f (Some (record { place = p; position = suc (length before) }))
    kids_hang p r c up kids there many l none before e = tt
    kids_hang p r c up kids there many l (node q s d ks rest) before e =
        let long : length (places kids) ≡ length before + suc (length (places rest)) = ap length e ∙ length-append before (q ∷ places rest) in
        let z : suc (length before) - 1 ≡ length before = omega arith in
        let low : length before < length (places kids) = omega (arith, long) in
        let small : length (places kids) ≤ 4 = omega (arith, many) in
        let last : suc (length before) ≤ arity g r = omega (arith, low, many) in
        let points : get_or (four_of (places kids)) (suc (length before) - 1) 0 ≡ q =
        ap (λ m. get_or (four_of (places kids)) m 0) z ∙ four_at (places kids) (length before) small low ∙ ap (λ w. get_or w (length before) 0) e ∙ get_or_at before q (places rest) 0 (length before) refl in
        let onward : length (before ++ q ∷ []) ≡ suc (length before) = length-append before (q ∷ []) ∙ (omega arith) in (
          subst (ParentThere g q (suc (length before))) (sym there) (record { first = omega arith; last = last; points = points }),
          subst (λ n. Hang rest (Some (record { place = p; position = suc n }))) onward (kids_hang p r c up kids there many l rest (before ++ q ∷ []) (e ∙ sym (append_assoc before (q ∷ []) (places rest)))),
        )

    -- climbing from the parent of a row ends within e places
    abbrev Ends : Option Parent → ℕ → Type 0
    Ends None e = Unit {0}
    Ends (Some u) e = climbs ps e u.place ≡ true

    ends_here : (p e : ℕ) (n : Node) (up : Option Parent) → at ps p ≡ Some n → n.parent ≡ up → Ends up e → climbs ps (suc e) p ≡ true
    ends_here p e n None there is h = ap (λ o. elim o [ None ↦ true | Some u ↦ climbs ps e u.place ]) (ap parent_in there ∙ is)
    ends_here p e n (Some u) there is h = ap (λ o. elim o [ None ↦ true | Some v ↦ climbs ps e v.place ]) (ap parent_in there ∙ is) ∙ h

    ends_next : (up : Option Parent) (e : ℕ) → Ends up e → Ends (next_to up) e
    ends_next None e h = tt
    ends_next (Some u) e h = h

    -- the node of a new place
    new_node : (p r c e n : ℕ) (up : Option Parent) (kids : Forest) → at ps p ≡ Some (fresh g r c up (places kids)) → r < length g.rules → Agrees g kids (rule g r).right → Stand g kids (first_below p) ps → HangsBelow g ps p up → Ends up e → e < 64
        → SoundNode g ps p (fresh g r c up (places kids))
    new_node p r c e n up kids there known ag stand hang ends deep =
        let many : length (places kids) ≡ arity g r = agrees_many g kids (rule g r).right ag in
        let small : length (places kids) ≤ 4 = omega (arith, many, few r known) in
        record {
          rule_there = known;
          row = length_four (places kids);
          children_there = λ k l.
              subst (λ q. ChildThere g p k (get_or (rule g r).right k 0) (at ps q)) (sym (four_at (places kids) k small (omega (arith, many))))
              (let z : 0 + k ≡ k = omega arith in subst (λ i. ChildThere g p i (get_or (rule g r).right k 0) (at ps (get_or (places kids) k 0))) z (kid_there kids (rule g r).right p 0 k ag stand l));
          parent_there = hang;
          ends = climbs_more ps (suc e) 64 p (omega arith) (ends_here p e (fresh g r c up (places kids)) up there refl ends);
          marks_there = omega (arith, pow_pos (attributes g r));
        }

    some_same : (n m : Node) → Some n ≡ Some m → n ≡ m
    some_same n m e = cc

    new_nodes : (f : Forest) (xs : List ℕ) (up : Option Parent) (e n : ℕ) → Agrees g f xs → Stand g f up ps → Within f n → e + n ≡ 64 → Ends up e → Hang f up
        → (p : ℕ) (m : Node) → In p (places_in f) → at ps p ≡ Some m → SoundNode g ps p m
    new_nodes none xs up e n ag st w l ends hang p m h k = absurd h
    new_nodes (node q r c kids rest) [] up e n ag st w l ends hang p m h k = absurd ag
    new_nodes (node q r c kids rest) (x ∷ xs) up e zero ag st w l ends hang p m h k = absurd w
    new_nodes (node q r c kids rest) (x ∷ xs) up e (suc n) ag st w l ends hang p m (inl i) k =
        let v = fresh g r c up (places kids) in
        let same : v ≡ m = some_same v m (sym st.0 ∙ ap (at ps) (sym i) ∙ k) in
        let new = new_node q r c e n up kids st.0 ag.0 ag.2 st.1 hang.0 ends (omega arith) in
        subst (λ z. SoundNode g ps z m) (sym i) (subst (SoundNode g ps q) same new)
    new_nodes (node q r c kids rest) (x ∷ xs) up e (suc n) ag st w l ends hang p m (inr h) k =
        let many : length (places kids) ≡ arity g r = agrees_many g kids (rule g r).right ag.2 in
        ⊎_elim
        (λ i. new_nodes kids (rule g r).right (first_below q) (suc e) n ag.2 st.1 w.0 (omega arith) (ends_here q e (fresh g r c up (places kids)) up st.0 refl ends) (kids_hang q r c up kids st.0 many (few r ag.0) kids [] refl) p m i k)
        (λ i. new_nodes rest xs (next_to up) e (suc n) ag.3 st.2 w.1 l (ends_next up e ends) hang.1 p m i k)
        (in_cases p (places_in kids) (places_in rest) h)

-- what stood in the table stands there
module _ (g : Grammar) (ps ps' : List (Option Node)) (sound : SoundPlaces g ps) (kept : (p : ℕ) (n : Node) → at ps p ≡ Some n → at ps' p ≡ Some n) where
  child_kept : (p k x q : ℕ) (o : Option Node) → at ps q ≡ o → ChildThere g p k x o → ChildThere g p k x (at ps' q)
  child_kept p k x q None e h = absurd h
  child_kept p k x q (Some m) e h = subst (ChildThere g p k x) (sym (kept q m e)) h

  parent_kept : (p k q : ℕ) (o : Option Node) → at ps q ≡ o → ParentThere g p k o → ParentThere g p k (at ps' q)
  parent_kept p k q None e h = absurd h
  parent_kept p k q (Some m) e h = subst (ParentThere g p k) (sym (kept q m e)) h

  hang_kept : (p : ℕ) (up : Option Parent) → HangsBelow g ps p up → HangsBelow g ps' p up
  hang_kept p None h = tt
  hang_kept p (Some u) h = parent_kept p u.position u.place (at ps u.place) refl h

  parent_used : (p k q : ℕ) (o : Option Node) → at ps q ≡ o → ParentThere g p k o → (m : Node) × (at ps q ≡ Some m)
  parent_used p k q None e h = absurd h
  parent_used p k q (Some m) e h = (m, e)

  climbs_kept : (k p : ℕ) (n : Node) → at ps p ≡ Some n → climbs ps k p ≡ true → climbs ps' k p ≡ true
  climbs_kept zero p n e h = absurd (false≢true h)
  climbs_kept (suc k) p n e h =
      by n.parent (ap parent_in e) (ap parent_in (kept p n e)) (sound.nodes p n e).parent_there (λ q m there rest. climbs_kept k q m there rest)
    where
      by : (up : Option Parent) → parent_at ps p ≡ up → parent_at ps' p ≡ up → HangsBelow g ps p up → ((q : ℕ) (m : Node) → at ps q ≡ Some m → climbs ps k q ≡ true → climbs ps' k q ≡ true) → climbs ps' (suc k) p ≡ true
      by None a b hang more = ap (λ o. elim o [ None ↦ true | Some u ↦ climbs ps' k u.place ]) b
      by (Some u) a b hang more =
          let w = parent_used p u.position u.place (at ps u.place) refl hang in
          let before : climbs ps k u.place ≡ true = sym (ap (λ o. elim o [ None ↦ true | Some v ↦ climbs ps k v.place ]) a) ∙ h in
          ap (λ o. elim o [ None ↦ true | Some v ↦ climbs ps' k v.place ]) b ∙ more u.place w.0 w.1 before

  old_node : (p : ℕ) (n : Node) → at ps p ≡ Some n → SoundNode g ps' p n
  old_node p n e =
      let s = sound.nodes p n e in
      record {
        rule_there = s.rule_there;
        row = s.row;
        children_there = λ k l. child_kept p k (get_or (rule g n.rule).right k 0) (get_or n.children k 0) (at ps (get_or n.children k 0)) refl (s.children_there k l);
        parent_there = hang_kept p n.parent s.parent_there;
        ends = climbs_kept 64 p n e s.ends;
        marks_there = s.marks_there;
      }

pub sound_law : SoundLaw
sound_law g ps ps' bs root gram sound room shallow w =
    let takes = taken_takes ps (length bs) room in
    let f = w.tree in
    let qs = taken ps (length bs) in
    let places_are : places_in f ≡ qs = w.means.at in
    let apart : Apart (places_in f) = subst Apart (sym places_are) takes.apart in
    let inside : (p : ℕ) → In p (places_in f) → p < length ps = λ p h. takes.inside p (subst (In p) places_are h) in
    let stand : Stand g f None ps' = subst (Stand g f None) (sym w.nodes) (laid_stand g f None ps apart inside) in
    let deep = within g f (own_symbol g bs ∷ []) 1 64 64 [] [] refl w.means.agrees (subst (λ z. deepest g (1 ∷ []) z ≤ 64) (sym (append-nil (pieces f) ∙ w.means.block)) shallow) in
    let long : length ps' ≡ length ps = ap length w.nodes ∙ laid_length g f None ps in
    let kept : (p : ℕ) (n : Node) → at ps p ≡ Some n → at ps' p ≡ Some n =
    λ p n e. w.others p (λ h. let z : ◌≡◌ {A = ℕ} 0 1 = cc (takes.free_so_far p h, e) in omega arith) ∙ e in
    record {
      some_place = subst (λ m. 1 ≤ m) (sym long) sound.some_place;
      few_places = subst (λ m. m ≤ 4096) (sym long) sound.few_places;
      nodes = λ p n e.
          ⊎_elim
          (λ h. new_nodes g (narrow g gram) ps' f (own_symbol g bs ∷ []) None 0 64 w.means.agrees stand deep.0 refl tt (hang_root f (own_symbol g bs) w.means.agrees) p n h e)
          (λ out. old_node g ps ps' sound kept p n (sym (w.others p (λ h. out (subst (In p) (sym places_are) h))) ∙ e))
          (member p (places_in f));
    }
  where
    member : (p : ℕ) (xs : List ℕ) → In p xs ⊎ (In p xs → ⊥)
    member p [] = inr (λ h. h)
    member p (x ∷ xs) = ⊎_elim (λ e. inl (inl e)) (λ d. ⊎_elim (λ h. inl (inr h)) (λ o. inr (⊎_elim d o)) (member p xs)) (cases_eq p x)

    hang_root : (f : Forest) (x : ℕ) → Agrees g f (x ∷ []) → Hang g (narrow g gram) ps' f None
    hang_root none x ag = tt
    hang_root (node p r c kids none) x ag = (tt, tt)
    hang_root (node p r c kids (node q s d ks rest)) x ag = absurd ag.3

-- an empty table
empty_at : (n p : ℕ) → at (replicate n None) p ≡ None
empty_at zero p = refl
empty_at (suc n) zero = refl
empty_at (suc n) (suc p) = empty_at n p

empty_free : (i n : ℕ) → length (free_from i (replicate n None)) ≡ n
empty_free i zero = refl
empty_free i (suc n) = ap suc (empty_free (suc i) n)

pub empty_law : EmptyLaw
empty_law g n = record {
  all_free = empty_free 0 n;
  sound = λ l m. record {
    some_place = subst (λ k. 1 ≤ k) (sym (length-replicate n None)) l;
    few_places = subst (λ k. k ≤ 4096) (sym (length-replicate n None)) m;
    nodes = λ p k e. let h = empty_at n p in let z : ◌≡◌ {A = ℕ} 0 1 = cc in absurd (omega arith);
  };
}
