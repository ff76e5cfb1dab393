-- An exchange keeps the places sound, if no path grows too long.
use Rattle.std.proofs.Common.{◌≡◌, ℕ, zero, suc, ◌+◌, ◌-◌, ◌^◌, ◌<◌, ◌≤◌, Bool, true, false, cond, eqb, List, length, get_or, is_some, Some, None, Option, sym, refl, ap, ◌∙◌, subst, arith, eq-eqb, ne_eqb, eqb-true}
use borrow.Author.Tests.{eqb-false}
use Rattle.std.proofs.lemmas.List.{length-set, get_or-map}
use Rattle.std.specs.Option.{option_map}
use Rattle.grammar.specs.Model.{Grammar}
use Rattle.sheet.specs.Meaning.{Sound}
use Rattle.tour.specs.Rules.{rule}
use Rattle.tour.specs.Exchange.{swap, Exchanged}
use Rattle.places.specs.Places.{at, used, parent_in, parent_at, marks_in, arity, attributes, cell_of, table}
use Rattle.places.specs.Shape.{climbs, top_from, depth_from, ChildThere, ParentThere, HangsBelow, SoundNode, SoundPlaces}
use Rattle.places.specs.declared.node.Node.{Node}
use Rattle.places.specs.declared.node.Parent.{Parent}
use Rattle.exchange.specs.Exchanging.{hung_below, Exchangeable}
use Rattle.exchange.specs.Setting.{with_child, with_parent, changed_at}
use Rattle.exchange.proofs.Blocks.{node_there}
use Rattle.exchange.proofs.Climbing.{climbs_top, climbs_up, top_top, depth_top, depth_up, more, up}
use Rattle.exchange.proofs.Fields.{changed_keeps}
use Rattle.exchange.proofs.Hanging.{hung_length}
use Rattle.exchange.proofs.Soundness.{parent_node, Hangs, hangs}
use Rattle.exchange.proofs.Swapping.{keeps, hung_rule, hung_other, hung_target, hung_held, hung_exchanged, child_hangs}
use Rattle.exchange.proofs.Targets.{kids_at, kids_length}

-- climbing as far as a place is deep is enough, and further does no harm
climbs_depth : (ps : List (Option Node)) (n p : ℕ) → climbs ps n p ≡ true → climbs ps (depth_from ps n p) p ≡ true
climbs_depth ps zero p h = h
climbs_depth ps (suc n) p h = by (climbs_depth ps n) (parent_at ps p) refl
  where
    by : ((q : ℕ) → climbs ps n q ≡ true → climbs ps (depth_from ps n q) q ≡ true) → (u : Option Parent) → parent_at ps p ≡ u → climbs ps (depth_from ps (suc n) p) p ≡ true
    by less None e = ap (λ k. climbs ps k p) (depth_top ps n p e) ∙ climbs_top ps 0 p e
    by less (Some u) e = ap (λ k. climbs ps k p) (depth_up ps n p u e) ∙ climbs_up ps (depth_from ps n u.place) p u e ∙ less u.place (sym (climbs_up ps n p u e) ∙ h)

climbs_further : (ps : List (Option Node)) (k n p : ℕ) → climbs ps n p ≡ true → climbs ps (k + n) p ≡ true
climbs_further ps zero n p h = ap (λ i. climbs ps i p) (let e : 0 + n ≡ n = omega arith in e) ∙ h
climbs_further ps (suc k) n p h = ap (λ i. climbs ps i p) (let e : suc k + n ≡ suc (k + n) = omega arith in e) ∙ (more ps (k + n) p (climbs_further ps k n p h)).climbs_more

child_from : (g : Grammar) (p k x : ℕ) (y : Option Node) → parent_in y ≡ Some (record { place = p; position = suc k }) → (rule g (cell_of g y).rule).left ≡ x → ChildThere g p k x y
child_from g p k x None h e = let z : ◌≡◌ {A = ℕ} 0 1 = cc in absurd (omega arith)
child_from g p k x (Some n) h e = record { hangs = h; symbol_is = e }

child_symbol : (g : Grammar) (p k x : ℕ) (y : Option Node) → ChildThere g p k x y → (rule g (cell_of g y).rule).left ≡ x
child_symbol g p k x None c = absurd c
child_symbol g p k x (Some n) c = c.symbol_is

abbrev Four : Option Node → Type 0
Four None = Unit {0}
Four (Some n) = length n.children ≡ 4

four_parent : (v : Option Parent) (x : Option Node) → Four x → Four (option_map (with_parent v) x)
four_parent v None f = f
four_parent v (Some n) f = f

four_child : (i c : ℕ) (x : Option Node) → Four x → Four (option_map (with_child i c) x)
four_child i c None f = f
four_child i c (Some n) f = length-set n.children i c ∙ f

marks_parent : (v : Option Parent) (x : Option Node) → marks_in (option_map (with_parent v) x) ≡ marks_in x
marks_parent v None = refl
marks_parent v (Some n) = refl

marks_child : (i c : ℕ) (x : Option Node) → marks_in (option_map (with_child i c) x) ≡ marks_in x
marks_child i c None = refl
marks_child i c (Some n) = refl

module _ (g : Grammar) (sound : Sound g) (ps : List (Option Node)) (s : SoundPlaces g ps) (target held : ℕ) (u : Parent) (x : Exchangeable g ps target held u) where
  pub other : target ≡ held → ⊥
  other k = let z : Some u ≡ None = sym x.hanging ∙ ap (parent_at ps) k ∙ x.standing_free in let y : ◌≡◌ {A = ℕ} 0 1 = cc in omega arith

  exchange_is : Exchanged target held (table g ps) (table g (hung_below ps target held (Some u)))
  exchange_is = hung_exchanged g ps s target held u x.hanging sound x.held_used other

  hangs_not_held : (p : ℕ) (v : Parent) → parent_at ps p ≡ Some v → p ≡ held → ⊥
  hangs_not_held p v e k = let z : Some v ≡ None = sym e ∙ ap (parent_at ps) k ∙ x.standing_free in let y : ◌≡◌ {A = ℕ} 0 1 = cc in omega arith

  step_top : (p : ℕ) (v : Parent) → parent_at ps p ≡ Some v → top_from ps 64 p ≡ top_from ps 64 v.place
  step_top p v e = let n = parent_node (at ps p) v e in (up ps 64 p v (s.nodes p n.0 n.1).ends e).top_same

  outside : (n p : ℕ) → (top_from ps 64 p ≡ held → ⊥) → climbs ps n p ≡ true → climbs (hung_below ps target held (Some u)) n p ≡ true
  outside zero p ne h = h
  outside (suc n) p ne h = by (outside n) (eqb p target) refl (parent_at ps p) refl
    where
      not_held : p ≡ held → ⊥
      not_held k = ne (ap (top_from ps 64) k ∙ top_top ps 63 held x.standing_free)

      by : ((q : ℕ) → (top_from ps 64 q ≡ held → ⊥) → climbs ps n q ≡ true → climbs (hung_below ps target held (Some u)) n q ≡ true) → (b : Bool) → eqb p target ≡ b → (v : Option Parent) → parent_at ps p ≡ v → climbs (hung_below ps target held (Some u)) (suc n) p ≡ true
      by less true k v e = climbs_top (hung_below ps target held (Some u)) n p (ap (parent_at (hung_below ps target held (Some u))) (eqb-true p target k) ∙ hung_target g ps target held u other)
      by less false k None e = climbs_top (hung_below ps target held (Some u)) n p (hung_other g ps target held u p (eqb-false p target k) not_held ∙ e)
      by less false k (Some v) e =
          climbs_up (hung_below ps target held (Some u)) n p v (hung_other g ps target held u p (eqb-false p target k) not_held ∙ e)
          ∙ less v.place (λ t. ne (step_top p v e ∙ t)) (sym (climbs_up ps n p v e) ∙ h)

  inside : (j : ℕ) → climbs (hung_below ps target held (Some u)) j u.place ≡ true → (n p : ℕ) → top_from ps 64 p ≡ held → climbs ps n p ≡ true → climbs (hung_below ps target held (Some u)) (depth_from ps n p + j) p ≡ true
  inside j last zero p t h = let z : ◌≡◌ {A = ℕ} 0 1 = cc in absurd (omega arith)
  inside j last (suc n) p t h = by (inside j last n) (parent_at ps p) refl
    where
      by : ((q : ℕ) → top_from ps 64 q ≡ held → climbs ps n q ≡ true → climbs (hung_below ps target held (Some u)) (depth_from ps n q + j) q ≡ true) → (v : Option Parent) → parent_at ps p ≡ v → climbs (hung_below ps target held (Some u)) (depth_from ps (suc n) p + j) p ≡ true
      by less None e =
          let k : p ≡ held = sym (top_top ps 63 p e) ∙ t in
          let d : depth_from ps (suc n) p + j ≡ suc j = (let a = depth_top ps n p e in omega arith) in
          ap (λ i. climbs (hung_below ps target held (Some u)) i p) d
          ∙ climbs_up (hung_below ps target held (Some u)) j p u (ap (parent_at (hung_below ps target held (Some u))) k ∙ hung_held g ps target held u x.held_used)
          ∙ last
      by less (Some v) e =
          let d : depth_from ps (suc n) p + j ≡ suc (depth_from ps n v.place + j) = (let a = depth_up ps n p v e in omega arith) in
          let ne : p ≡ target → ⊥ = λ k. x.elsewhere (ap (top_from ps 64) (sym k) ∙ t) in
          ap (λ i. climbs (hung_below ps target held (Some u)) i p) d
          ∙ climbs_up (hung_below ps target held (Some u)) (depth_from ps n v.place + j) p v (hung_other g ps target held u p ne (hangs_not_held p v e) ∙ e)
          ∙ less v.place (sym (step_top p v e) ∙ t) (sym (climbs_up ps n p v e) ∙ h)

  hung_ends : (p : ℕ) → used ps p ≡ true → climbs (hung_below ps target held (Some u)) 64 p ≡ true
  hung_ends p h = by (eqb (top_from ps 64 p) held) refl
    where
      by : (b : Bool) → eqb (top_from ps 64 p) held ≡ b → climbs (hung_below ps target held (Some u)) 64 p ≡ true
      by false k = outside 64 p (eqb-false (top_from ps 64 p) held k) (s.nodes p (node_there (at ps p) h).0 (node_there (at ps p) h).1).ends
      by true k =
          let t = eqb-true (top_from ps 64 p) held k in
          let m = node_there (at ps p) h in
          let above = hangs g ps s target u x.hanging in
          let j = depth_from ps 64 u.place in
          let top_of : top_from ps 64 u.place ≡ held → ⊥ = λ z. x.elsewhere (step_top target u x.hanging ∙ z) in
          let last = outside j u.place top_of (climbs_depth ps 64 u.place (s.nodes u.place above.node above.there).ends) in
          let way = inside j last 64 p t (s.nodes p m.0 m.1).ends in
          let d = x.deep_enough p h t in
          let e : (64 - (depth_from ps 64 p + j)) + (depth_from ps 64 p + j) ≡ 64 = omega arith in
          ap (λ i. climbs (hung_below ps target held (Some u)) i p) (sym e) ∙ climbs_further (hung_below ps target held (Some u)) (64 - (depth_from ps 64 p + j)) (depth_from ps 64 p + j) p way

  pub hung_used_is : (p : ℕ) → used (hung_below ps target held (Some u)) p ≡ used ps p
  hung_used_is p =
      let a = changed_at (with_child (u.position - 1) held) ps u.place in
      let b = changed_at (with_parent None) a target in
      keeps is_some (with_parent (Some u)) (same (with_parent (Some u))) b held p
      ∙ keeps is_some (with_parent None) (same (with_parent None)) a target p
      ∙ keeps is_some (with_child (u.position - 1) held) (same (with_child (u.position - 1) held)) ps u.place p
    where
      same : (f : Node → Node) (y : Option Node) → is_some (option_map f y) ≡ is_some y
      same f None = refl
      same f (Some n) = refl

  hung_marks : (p : ℕ) → marks_in (at (hung_below ps target held (Some u)) p) ≡ marks_in (at ps p)
  hung_marks p =
      let a = changed_at (with_child (u.position - 1) held) ps u.place in
      let b = changed_at (with_parent None) a target in
      keeps marks_in (with_parent (Some u)) (marks_parent (Some u)) b held p
      ∙ keeps marks_in (with_parent None) (marks_parent None) a target p
      ∙ keeps marks_in (with_child (u.position - 1) held) (marks_child (u.position - 1) held) ps u.place p

  hung_four : (p : ℕ) → Four (at (hung_below ps target held (Some u)) p)
  hung_four p =
      let a = changed_at (with_child (u.position - 1) held) ps u.place in
      let b = changed_at (with_parent None) a target in
      changed_keeps (λ _. Four) (with_parent (Some u)) b held (four_parent (Some u) (at b held)) p
      (changed_keeps (λ _. Four) (with_parent None) a target (four_parent None (at a target)) p
      (changed_keeps (λ _. Four) (with_child (u.position - 1) held) ps u.place (four_child (u.position - 1) held (at ps u.place)) p (old p (at ps p) refl)))
    where
      old : (q : ℕ) (y : Option Node) → at ps q ≡ y → Four y
      old q None e = tt
      old q (Some n) e = (s.nodes q n e).row

  -- the children of a node, before and after
  hung_child : (p : ℕ) (n m : Node) → at ps p ≡ Some n → at (hung_below ps target held (Some u)) p ≡ Some m → (k : ℕ) → k < arity g n.rule → get_or m.children k 0 ≡ swap target held (get_or n.children k 0)
  hung_child p n m e w k h =
      let rules : m.rule ≡ n.rule = ap (λ z. (cell_of g z).rule) (sym w) ∙ hung_rule g ps target held u p ∙ ap (λ z. (cell_of g z).rule) e in
      let l : k < arity g m.rule = subst (λ r. k < arity g r) (sym rules) h in
      let long = kids_length g ps p n e in
      sym (kids_at g (hung_below ps target held (Some u)) p m w k l)
      ∙ ap (λ c. get_or c k 0) (exchange_is.kids p)
      ∙ get_or-map (swap target held) (table g ps p).kids k 0 0 (omega arith)
      ∙ ap (swap target held) (kids_at g ps p n e k h)

  -- the node at a place after, of the same rule
  hung_node : (p : ℕ) (n : Node) → at ps p ≡ Some n → (m : Node) × (at (hung_below ps target held (Some u)) p ≡ Some m) × (m.rule ≡ n.rule)
  hung_node p n e =
      let m = node_there (at (hung_below ps target held (Some u)) p) (hung_used_is p ∙ ap is_some e) in
      (m.0, m.1, ap (λ z. (cell_of g z).rule) (sym m.1) ∙ hung_rule g ps target held u p ∙ ap (λ z. (cell_of g z).rule) e)

  -- a parent has the child that has come in place of the old one
  parent_from : (p now : ℕ) (v : Parent) → Hangs g ps p v → swap target held p ≡ now → ParentThere g now v.position (at (hung_below ps target held (Some u)) v.place)
  parent_from p now v h e =
      let m = hung_node v.place h.node h.there in
      let k : v.position - 1 < arity g h.node.rule = (let a = h.below.first in let b = h.below.last in omega arith) in
      subst (ParentThere g now v.position) (sym m.1) (record {
        first = h.below.first;
        last = subst (λ r. v.position ≤ arity g r) (sym m.2) h.below.last;
        points = hung_child v.place h.node m.0 h.there m.1 (v.position - 1) k ∙ ap (swap target held) h.below.points ∙ e;
      })

  swap_not : (p : ℕ) → (p ≡ target → ⊥) → swap target held p ≡ p
  swap_not p ne = ap (λ b. cond b held p) (ne_eqb p target ne)

  hung_parent : (p : ℕ) → HangsBelow g (hung_below ps target held (Some u)) p (parent_at (hung_below ps target held (Some u)) p)
  hung_parent p = by (eqb p target) refl (eqb p held) refl (parent_at ps p) refl
    where
      by : (a : Bool) → eqb p target ≡ a → (b : Bool) → eqb p held ≡ b → (v : Option Parent) → parent_at ps p ≡ v → HangsBelow g (hung_below ps target held (Some u)) p (parent_at (hung_below ps target held (Some u)) p)
      by true k b _ v e = subst (HangsBelow g (hung_below ps target held (Some u)) p) (sym (ap (parent_at (hung_below ps target held (Some u))) (eqb-true p target k) ∙ hung_target g ps target held u other)) tt
      by false k true l v e =
          let same = eqb-true p held l in
          subst (HangsBelow g (hung_below ps target held (Some u)) p) (sym (ap (parent_at (hung_below ps target held (Some u))) same ∙ hung_held g ps target held u x.held_used))
          (parent_from target p u (hangs g ps s target u x.hanging) (ap (λ b. cond b held target) (eq-eqb target target refl) ∙ sym same))
      by false k false l None e = subst (HangsBelow g (hung_below ps target held (Some u)) p) (sym (hung_other g ps target held u p (eqb-false p target k) (eqb-false p held l) ∙ e)) tt
      by false k false l (Some v) e =
          subst (HangsBelow g (hung_below ps target held (Some u)) p) (sym (hung_other g ps target held u p (eqb-false p target k) (eqb-false p held l) ∙ e))
          (parent_from p p v (hangs g ps s p v e) (swap_not p (eqb-false p target k)))

  hung_child_there : (p : ℕ) (n : Node) → at ps p ≡ Some n → (k : ℕ) → k < arity g n.rule → ChildThere g p k (get_or (rule g n.rule).right k 0) (at (hung_below ps target held (Some u)) (swap target held (get_or n.children k 0)))
  hung_child_there p n e k h = by (eqb (get_or n.children k 0) target) refl
    where
      hang : parent_at ps (get_or n.children k 0) ≡ Some (record { place = p; position = suc k })
      hang = child_hangs g ps s p n k e h

      old : (rule g (table g ps (get_or n.children k 0)).rule).left ≡ get_or (rule g n.rule).right k 0
      old = child_symbol g p k (get_or (rule g n.rule).right k 0) (at ps (get_or n.children k 0)) ((s.nodes p n e).children_there k h)

      here : (c : ℕ) → parent_at (hung_below ps target held (Some u)) c ≡ Some (record { place = p; position = suc k }) → (rule g (table g ps c).rule).left ≡ get_or (rule g n.rule).right k 0 → ChildThere g p k (get_or (rule g n.rule).right k 0) (at (hung_below ps target held (Some u)) c)
      here c w z = child_from g p k (get_or (rule g n.rule).right k 0) (at (hung_below ps target held (Some u)) c) w (ap (λ r. (rule g r).left) (hung_rule g ps target held u c) ∙ z)

      by : (b : Bool) → eqb (get_or n.children k 0) target ≡ b → ChildThere g p k (get_or (rule g n.rule).right k 0) (at (hung_below ps target held (Some u)) (swap target held (get_or n.children k 0)))
      by true t =
          let c = eqb-true (get_or n.children k 0) target t in
          let w : Some u ≡ Some (record { place = p; position = suc k }) = sym x.hanging ∙ ap (parent_at ps) (sym c) ∙ hang in
          subst (λ z. ChildThere g p k (get_or (rule g n.rule).right k 0) (at (hung_below ps target held (Some u)) z)) (sym (ap (λ b. cond b held (get_or n.children k 0)) t))
          (here held (hung_held g ps target held u x.held_used ∙ w) (x.same_symbol ∙ ap (λ z. (rule g (table g ps z).rule).left) (sym c) ∙ old))
      by false t =
          subst (λ z. ChildThere g p k (get_or (rule g n.rule).right k 0) (at (hung_below ps target held (Some u)) z)) (sym (ap (λ b. cond b held (get_or n.children k 0)) t))
          (here (get_or n.children k 0) (hung_other g ps target held u (get_or n.children k 0) (eqb-false (get_or n.children k 0) target t) (hangs_not_held (get_or n.children k 0) (record { place = p; position = suc k }) hang) ∙ hang) old)

  pub hung_sound : SoundPlaces g (hung_below ps target held (Some u))
  hung_sound = record {
    some_place = (let a = s.some_place in let b = hung_length ps target held (Some u) in omega arith);
    few_places = (let a = s.few_places in let b = hung_length ps target held (Some u) in omega arith);
    nodes = node;
  }
    where
      four : (m : Node) (y : Option Node) → y ≡ Some m → Four y → length m.children ≡ 4
      four m y e f = subst Four e f

      node : (p : ℕ) (m : Node) → at (hung_below ps target held (Some u)) p ≡ Some m → SoundNode g (hung_below ps target held (Some u)) p m
      node p m w =
          let o = node_there (at ps p) (sym (hung_used_is p) ∙ ap is_some w) in
          let n = o.0 in
          let e = o.1 in
          let old = s.nodes p n e in
          let rules : m.rule ≡ n.rule = ap (λ z. (cell_of g z).rule) (sym w) ∙ hung_rule g ps target held u p ∙ ap (λ z. (cell_of g z).rule) e in
          let marks : n.marks ≡ m.marks = ap marks_in (sym e) ∙ sym (hung_marks p) ∙ ap marks_in w in
          record {
            rule_there = subst (λ r. r < length g.rules) (sym rules) old.rule_there;
            row = four m (at (hung_below ps target held (Some u)) p) w (hung_four p);
            children_there = λ k h. (
                let l : k < arity g n.rule = subst (λ r. k < arity g r) rules h in
                subst (λ c. ChildThere g p k (get_or (rule g m.rule).right k 0) (at (hung_below ps target held (Some u)) c)) (sym (hung_child p n m e w k l))
                (subst (λ r. ChildThere g p k (get_or (rule g r).right k 0) (at (hung_below ps target held (Some u)) (swap target held (get_or n.children k 0)))) (sym rules) (hung_child_there p n e k l))
                );
            parent_there = subst (HangsBelow g (hung_below ps target held (Some u)) p) (ap parent_in w) (hung_parent p);
            ends = hung_ends p (ap is_some e);
            marks_there = subst (λ r. m.marks < 2 ^ attributes g r) (sym rules) (subst (λ i. i < 2 ^ attributes g n.rule) marks old.marks_there);
          }
