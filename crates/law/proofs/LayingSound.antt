-- A table in shape is in shape after a tree was laid into free places of it.
use Rattle.std.proofs.Common.{◌≡◌, ℕ, zero, suc, ◌+◌, ◌-◌, ◌^◌, ◌<◌, ◌≤◌, true, ◌⊎◌, List, [], ◌∷◌, ◌++◌, length, get_or, Some, None, Option, sym, refl, ap, ◌∙◌, subst, inl, inr, arith}
use mathlib.Core.Bool.{false≢true}
use Rattle.std.proofs.lemmas.Bool.{cases_eq}
use Rattle.grammar.specs.Model.{Grammar}
use Rattle.sheet.specs.Meaning.{Sound}
use Rattle.tour.specs.Rules.{rule}
use Rattle.tour.specs.Runs.{In, Apart}
use Rattle.tour.specs.Trees.{Instance, Forest, places, Agrees, row, instances, places_in}
use Rattle.tour.specs.Trees.Forest.{none, node}
use Rattle.tour.specs.Walks.{Within}
use Rattle.tour.proofs.Lists.{in_cases}
use Rattle.places.specs.Places.{at, parent_in, parent_at, marks_in, arity, attributes, owed_at}
use Rattle.places.specs.Marks.{owes}
use Rattle.places.specs.Shape.{climbs, ChildThere, ParentThere, HangsBelow, SoundNode, RootThere, SoundPlaces, InShape}
use Rattle.places.specs.declared.node.Node.{Node}
use Rattle.places.specs.declared.node.Parent.{Parent}
use Rattle.places.proofs.Ascents.{climbs_up, climbs_end, climbs_more, climbs_parent, by_parent}
use Rattle.places.proofs.Tables.{get_d_firsts, child_at, parent_at_lem, root_node}
use Rattle.blocks.specs.Planted.{four_of, fresh, next_to, first_below, laid}
use Rattle.law.proofs.LayingPlaces.{all_owed, marks_fit, length_four, agrees_length, fresh_kids, Holds, length_laid, laid_other, laid_holds}

-- a number stands in a list, or does not
pub in_either : (q : ℕ) (xs : List ℕ) → In q xs ⊎ (In q xs → ⊥)
in_either q [] = inr (λ m. m)
in_either q (x ∷ xs) = go (cases_eq q x) (in_either q xs)
  where
    go : (q ≡ x) ⊎ (q ≡ x → ⊥) → In q xs ⊎ (In q xs → ⊥) → In q (x ∷ xs) ⊎ (In q (x ∷ xs) → ⊥)
    go (inl e) w = inl (inl e)
    go (inr n) (inl m) = inl (inr m)
    go (inr n) (inr k) = inr (λ m. elim m [ inl e ↦ n e | inr h ↦ k h ])

-- climbing that ends within n places ends within more
pub climbs_within : (ps : List (Option Node)) (m n p : ℕ) → n ≤ m → climbs ps n p ≡ true → climbs ps m p ≡ true
climbs_within ps zero n p l h = let e : n ≡ 0 = omega arith in subst (λ k. climbs ps k p ≡ true) e h
climbs_within ps (suc m) n p l h = elim (cases_eq n (suc m)) [
  | inl e ↦ subst (λ k. climbs ps k p ≡ true) e h
  | inr ne ↦ climbs_more ps m p (climbs_within ps m n p (omega arith) h)
]

-- the attributes of a place in a row of instances
pub in_row_below : (x : Instance) (p i n : ℕ) → In x (row p i n) → (x.0 ≡ p) × (x.1 < i + n)
in_row_below x p i zero m = absurd m
in_row_below x p i (suc n) (inl e) = (ap (λ z. z.0) e, let f : x.1 ≡ i = ap (λ z. z.1) e in omega arith)
in_row_below x p i (suc n) (inr m) = let r = in_row_below x p (suc i) n m in (r.0, omega (arith, r.1))

-- a sound node whose attributes are all owed
pub record NewNode (g : Grammar) (qs : List (Option Node)) (p : ℕ) : Type 0 where
  pub new : Node
  pub there : at qs p ≡ Some new
  pub sound : SoundNode g qs p new
  pub all_marks : new.marks ≡ 2 ^ attributes g new.rule - 1

-- all instances of trees that were laid are owed
pub holds_owed : (g : Grammar) (qs : List (Option Node)) (f : Forest) (up : Option Parent) → Holds g qs f up → (x : Instance) → In x (instances g f) → owed_at qs x ≡ true
holds_owed g qs none up h x m = absurd m
holds_owed g qs (node p r c kids rest) up (h, hk, hr) x m = go (in_cases x (row p 0 (attributes g r)) (instances g kids ++ instances g rest) m) (holds_owed g qs kids (first_below p) hk x) (holds_owed g qs rest (next_to up) hr x)
  where
    go : In x (row p 0 (attributes g r)) ⊎ In x (instances g kids ++ instances g rest) → (In x (instances g kids) → owed_at qs x ≡ true) → (In x (instances g rest) → owed_at qs x ≡ true) → owed_at qs x ≡ true
    go (inl n) a b =
        let w = in_row_below x p 0 (attributes g r) n in
        ap (λ o. owes (marks_in o) x.1) (ap (at qs) w.0 ∙ h) ∙ all_owed (attributes g r) x.1 (omega (arith, w.1))
    go (inr n) a b = elim (in_cases x (instances g kids) (instances g rest) n) [ inl k ↦ a k | inr k ↦ b k ]

module _ (g : Grammar) (so : Sound g) (qs : List (Option Node)) where
  -- the parent that trees are laid under has them as its children, and climbing from it ends within n places
  record UnderParent (f : Forest) (u : Parent) (n : ℕ) : Type 0 where
    points : (k : ℕ) → k < length (places f) → ParentThere g (get_or (places f) k 0) (u.position + k) (at qs u.place)
    ends : climbs qs n u.place ≡ true

  abbrev BelowOrTop : Forest → Option Parent → ℕ → Type 0
  BelowOrTop f None n = Unit {0}
  BelowOrTop f (Some u) n = UnderParent f u n

  climbs_new : (up : Option Parent) (n p : ℕ) (f : Forest) → parent_at qs p ≡ up → BelowOrTop f up n → climbs qs (suc n) p ≡ true
  climbs_new None n p f e h = climbs_end qs n p e
  climbs_new (Some u) n p f e h = climbs_up qs n p u e ∙ h.ends

  hangs_new : (up : Option Parent) (n p r c : ℕ) (kids rest : Forest) → BelowOrTop (node p r c kids rest) up n → HangsBelow g qs p up
  hangs_new None n p r c kids rest h = tt
  hangs_new (Some u) n p r c kids rest h = subst (λ z. ParentThere g p z (at qs u.place)) (omega arith) (h.points 0 (omega arith))

  next_new : (up : Option Parent) (n p r c : ℕ) (kids rest : Forest) → BelowOrTop (node p r c kids rest) up n → BelowOrTop rest (next_to up) n
  next_new None n p r c kids rest h = tt
  next_new (Some u) n p r c kids rest h = record {
    points = λ k l. subst (λ z. ParentThere g (get_or (places rest) k 0) z (at qs u.place)) (omega arith) (h.points (suc k) (omega arith));
    ends = h.ends;
  }

  -- child number k of a new node
  four_kid : (r k : ℕ) (kids : Forest) → r < length g.rules → Agrees g kids (rule g r).right → k < arity g r → get_or (four_of (places kids)) k 0 ≡ get_or (places kids) k 0
  four_kid r k kids l ag h =
      sym (get_d_firsts (arity g r) k (four_of (places kids)) h) ∙ ap (λ z. get_or z k 0) (fresh_kids g so r kids l ag)

  kids_new : (up : Option Parent) (n p r c : ℕ) (kids : Forest) → r < length g.rules → Agrees g kids (rule g r).right → at qs p ≡ Some (fresh g r c up (places kids)) → climbs qs n p ≡ true → BelowOrTop kids (first_below p) n
  kids_new up n p r c kids l ag h e = record {
    points = λ k w.
        let s : k < arity g r = omega (arith, agrees_length g kids (rule g r).right ag) in
        let back : 1 + k - 1 ≡ k = omega arith in
        subst (λ o. ParentThere g (get_or (places kids) k 0) (1 + k) o) (sym h)
        (record { first = omega arith; last = omega arith; points = ap (λ z. get_or (four_of (places kids)) z 0) back ∙ four_kid r k kids l ag s });
    ends = e;
  }

  kid_held : (f : Forest) (xs : List ℕ) (q i k : ℕ) → Agrees g f xs → Holds g qs f (Some (record { place = q; position = i })) → k < length (places f) → (m : Node) × (at qs (get_or (places f) k 0) ≡ Some m) × (m.parent ≡ Some (record { place = q; position = i + k })) × ((rule g m.rule).left ≡ get_or xs k 0)
  kid_held none xs q i k ag h l = absurd (omega arith)
  kid_held (node p r c kids rest) [] q i k ag h l = absurd ag
  kid_held (node p r c kids rest) (x ∷ xs) q i zero (w, e, ag, ag') (h, hk, hr) l =
      let s : i ≡ i + 0 = omega arith in
      (fresh g r c (Some (record { place = q; position = i })) (places kids), h, ap (λ z. Some (record { place = q; position = z })) s, e)
  kid_held (node p r c kids rest) (x ∷ xs) q i (suc k) (w, e, ag, ag') (h, hk, hr) l =
      let m = kid_held rest xs q (suc i) k ag' hr (omega arith) in
      let s : suc i + k ≡ i + suc k = omega arith in
      (m.0, m.1, m.2 ∙ ap (λ z. Some (record { place = q; position = z })) s, m.3)

  child_new : (p r k : ℕ) (kids : Forest) → r < length g.rules → Agrees g kids (rule g r).right → Holds g qs kids (first_below p) → k < arity g r → ChildThere g p k (get_or (rule g r).right k 0) (at qs (get_or (four_of (places kids)) k 0))
  child_new p r k kids l ag h w =
      let s : k < length (places kids) = omega (arith, agrees_length g kids (rule g r).right ag) in
      let m = kid_held kids (rule g r).right p 1 k ag h s in
      let j : 1 + k ≡ suc k = omega arith in
      subst (ChildThere g p k (get_or (rule g r).right k 0)) (sym (ap (at qs) (four_kid r k kids l ag w) ∙ m.1))
      (record { hangs = m.2 ∙ ap (λ z. Some (record { place = p; position = z })) j; symbol_is = m.3 })

  -- the nodes of trees that were laid are sound
  holds_sound : (f : Forest) (xs : List ℕ) (up : Option Parent) (n d : ℕ) → Agrees g f xs → Holds g qs f up → BelowOrTop f up n → Within f d → n + d ≤ 64 → (p : ℕ) → In p (places_in f) → NewNode g qs p
  holds_sound none xs up n d ag h b w l p m = absurd m
  holds_sound (node q r c kids rest) [] up n d ag h b w l p m = absurd ag
  holds_sound (node q r c kids rest) (x ∷ xs) up n zero ag h b w l p m = absurd w
  holds_sound (node q r c kids rest) (x ∷ xs) up n (suc d) (lr, e, ag, ag') (h, hk, hr) b (wk, wr) l p m =
      go m (holds_sound kids (rule g r).right (first_below q) (suc n) d ag hk (kids_new up (suc n) q r c kids lr ag h ends) wk (omega arith) p) (holds_sound rest xs (next_to up) n (suc d) ag' hr (next_new up n q r c kids rest b) wr l p)
    where
      ends : climbs qs (suc n) q ≡ true
      ends = climbs_new up n q (node q r c kids rest) (ap parent_in h) b

      here : NewNode g qs q
      here = record {
        new = fresh g r c up (places kids);
        there = h;
        sound = record {
          rule_there = lr;
          row = length_four (places kids);
          children_there = λ k s. child_new q r k kids lr ag hk s;
          parent_there = hangs_new up n q r c kids rest b;
          ends = climbs_within qs 64 (suc n) q (omega arith) ends;
          marks_there = marks_fit (attributes g r);
        };
        all_marks = refl;
      }

      go : In p (q ∷ (places_in kids ++ places_in rest)) → (In p (places_in kids) → NewNode g qs p) → (In p (places_in rest) → NewNode g qs p) → NewNode g qs p
      go (inl s) a z = subst (NewNode g qs) (sym s) here
      go (inr s) a z = elim (in_cases p (places_in kids) (places_in rest) s) [ inl k ↦ a k | inr k ↦ z k ]

  -- the nodes of one tree that was laid, with no parent above it
  pub tree_new : (f : Forest) (x : ℕ) → Agrees g f (x ∷ []) → Holds g qs f None → Within f 64 → (p : ℕ) → In p (places_in f) → NewNode g qs p
  tree_new f x ag h w = holds_sound f (x ∷ []) None 0 64 ag h tt w (omega arith)

-- nodes that were sound are sound in a table that holds them and others
module _ (g : Grammar) (ps qs : List (Option Node)) (sp : SoundPlaces g ps) (same : (p : ℕ) (n : Node) → at ps p ≡ Some n → at qs p ≡ Some n) where
  climbs_kept : (n p : ℕ) (m : Node) → at ps p ≡ Some m → climbs ps n p ≡ true → climbs qs n p ≡ true
  climbs_kept zero p m e h = absurd (false≢true h)
  climbs_kept (suc n) p m e h =
      let k : parent_at qs p ≡ parent_at ps p = ap parent_in (same p m e ∙ sym e) in
      by_parent ps p (λ w. climbs_end qs n p (k ∙ w))
      (λ u w.
      let q = parent_at_lem g ps sp p m u e (sym (ap parent_in e) ∙ w) in
      climbs_up qs n p u (k ∙ w) ∙ climbs_kept n u.place q.0 q.1 (climbs_parent ps n p u w h))

  -- a sound node stays sound
  pub node_kept : (p : ℕ) (n : Node) → at ps p ≡ Some n → SoundNode g qs p n
  node_kept p n e =
      let s = sp.nodes p n e in
      record {
        rule_there = s.rule_there;
        row = s.row;
        children_there = λ k l.
            let c = child_at g ps sp p k n e l in
            subst (ChildThere g p k (get_or (rule g n.rule).right k 0)) (sym (same (get_or n.children k 0) c.0 c.1)) c.2;
        parent_there = hung n.parent refl;
        ends = climbs_kept 64 p n e s.ends;
        marks_there = s.marks_there;
      }
    where
      hung : (o : Option Parent) → n.parent ≡ o → HangsBelow g qs p o
      hung None w = tt
      hung (Some u) w =
          let q = parent_at_lem g ps sp p n u e w in
          subst (ParentThere g p u.position) (sym (same u.place q.0 q.1)) q.2

-- a tree of the sheet, at free places of a table
pub record Room (g : Grammar) (ps : List (Option Node)) (x : ℕ) (f : Forest) : Type 0 where
  pub agrees : Agrees g f (x ∷ [])
  pub apart : Apart (places_in f)
  pub inside : (p : ℕ) → In p (places_in f) → p < length ps
  pub free : (p : ℕ) → In p (places_in f) → at ps p ≡ None
  pub depth : Within f 64

-- a place does not hold a node and nothing
pub some_none : (o : Option Node) (n : Node) → o ≡ None → o ≡ Some n → ⊥
some_none o n e w = let z : ◌≡◌ {A = ℕ} 0 1 = cc in omega arith

module _ (g : Grammar) (so : Sound g) (ps : List (Option Node)) (x : ℕ) (f : Forest) (ro : Room g ps x f) where
  -- each place of the tree holds a sound node, all of whose attributes are owed
  pub laid_new : (p : ℕ) → In p (places_in f) → NewNode g (laid g f None ps) p
  laid_new = tree_new g so (laid g f None ps) f x ro.agrees (laid_holds g f None ps ro.apart ro.inside) ro.depth

  -- all its instances are owed
  pub laid_owed : (i : Instance) → In i (instances g f) → owed_at (laid g f None ps) i ≡ true
  laid_owed = holds_owed g (laid g f None ps) f None (laid_holds g f None ps ro.apart ro.inside)

  -- a used place was not taken, and is as it was
  pub used_apart : (p : ℕ) (n : Node) → at ps p ≡ Some n → In p (places_in f) → ⊥
  used_apart p n e m = some_none (at ps p) n (ro.free p m) e

  pub laid_same : (p : ℕ) (n : Node) → at ps p ≡ Some n → at (laid g f None ps) p ≡ Some n
  laid_same p n e = laid_other g f None ps p (used_apart p n e) ∙ e

  -- the nodes of the table stay sound
  pub laid_places : SoundPlaces g ps → SoundPlaces g (laid g f None ps)
  laid_places sp = record {
    some_place = subst (λ l. 1 ≤ l) (sym (length_laid g f None ps)) sp.some_place;
    few_places = subst (λ l. l ≤ 4096) (sym (length_laid g f None ps)) sp.few_places;
    nodes = λ p n e. elim (in_either p (places_in f)) [
      | inl m ↦ new p n e m
      | inr k ↦ node_kept g ps (laid g f None ps) sp laid_same p n (sym (laid_other g f None ps p k) ∙ e)
    ];
  }
    where
      new : (p : ℕ) (n : Node) → at (laid g f None ps) p ≡ Some n → In p (places_in f) → SoundNode g (laid g f None ps) p n
      new p n e m =
          let w = laid_new p m in
          let s : w.new ≡ n = (let u = w.there in cc) in
          subst (SoundNode g (laid g f None ps) p) s w.sound

  -- a table in shape stays in shape, with the same root
  pub laid_shape : (root : ℕ) → InShape g ps root → InShape g (laid g f None ps) root
  laid_shape root sh =
      let n = root_node g ps root sh.root_there in
      record { places_sound = laid_places sh.places_sound; root_there = subst (RootThere g) (sym (laid_same root n.0 n.1)) (record { free_standing = n.2; start = n.3 }) }
