-- Places whose marks alone have changed show the same trees, and stay in shape.
use Rattle.std.proofs.Common.{◌≡◌, ℕ, zero, suc, ◌/◌, ◌%◌, ◌^◌, ◌<◌, ◌≤◌, Bool, true, false, ◌↔◌, List, length, get_or, is_some, Some, None, Option, sym, refl, ap, ◌∙◌, subst, mod-lt, pow-suc, arith}
use Rattle.std.proofs.lemmas.Bool.{eqb-false}
use Rattle.grammar.specs.Model.{Grammar}
use Rattle.tour.specs.Rules.{rule}
use Rattle.tour.specs.Trees.{Instance}
use Rattle.places.specs.Marks.{owes}
use Rattle.places.specs.Places.{at, used, parent_in, parent_at, marks_in, arity, attributes, cell_of, table, owed_at}
use Rattle.places.specs.Shape.{climbs, ChildThere, ParentThere, HangsBelow, SoundNode, RootThere, InShape}
use Rattle.places.specs.declared.node.Node.{Node}
use Rattle.places.specs.declared.node.Parent.{Parent}
use Rattle.exchange.specs.Setting.{with_marks}
use Rattle.exchange.specs.Waking.{bare, Remarked}
use Rattle.exchange.proofs.Marking.{bare_same, remarked_used}

-- a number without digits is 0
below_own : (m : ℕ) → m < 2 ^ m
below_own zero = omega arith
below_own (suc m) = let h = below_own m in omega (arith, pow-suc 2 m)

no_digit : (n m : ℕ) → m < 2 ^ n → ((k : ℕ) → owes m k ≡ false) → m ≡ 0
no_digit zero m h f = omega arith
no_digit (suc n) m h f =
    let r = no_digit n (m / 2) (omega (arith, pow-suc 2 n)) (λ k. f (suc k)) in
    let z : m % 2 ≡ 1 → ⊥ = eqb-false (m % 2) 1 (f 0) in
    let l : m % 2 < 2 = mod-lt m (omega arith) in
    omega arith

-- a number all of whose digits from the w-th on are 0 is below 2 ^ w
pub digits_below : (w m : ℕ) → ((k : ℕ) → w ≤ k → owes m k ≡ false) → m < 2 ^ w
digits_below zero m f = let e = no_digit m m (below_own m) (λ k. f k (omega arith)) in omega arith
digits_below (suc w) m f = let h = digits_below w (m / 2) (λ k l. f (suc k) (omega arith)) in omega (arith, pow-suc 2 w)

bare_cell : (g : Grammar) (x : Option Node) → cell_of g (bare x) ≡ cell_of g x
bare_cell g None = refl
bare_cell g (Some n) = refl

bare_parent : (x : Option Node) → parent_in (bare x) ≡ parent_in x
bare_parent None = refl
bare_parent (Some n) = refl

child_bare : (g : Grammar) (p k x : ℕ) (o : Option Node) → ChildThere g p k x o → ChildThere g p k x (bare o)
child_bare g p k x None c = absurd c
child_bare g p k x (Some n) c = record { hangs = c.hangs; symbol_is = c.symbol_is }

bare_child : (g : Grammar) (p k x : ℕ) (o : Option Node) → ChildThere g p k x (bare o) → ChildThere g p k x o
bare_child g p k x None c = absurd c
bare_child g p k x (Some n) c = record { hangs = c.hangs; symbol_is = c.symbol_is }

hung_bare : (g : Grammar) (p k : ℕ) (o : Option Node) → ParentThere g p k o → ParentThere g p k (bare o)
hung_bare g p k None c = absurd c
hung_bare g p k (Some n) c = record { first = c.first; last = c.last; points = c.points }

bare_hung : (g : Grammar) (p k : ℕ) (o : Option Node) → ParentThere g p k (bare o) → ParentThere g p k o
bare_hung g p k None c = absurd c
bare_hung g p k (Some n) c = record { first = c.first; last = c.last; points = c.points }

root_bare : (g : Grammar) (o : Option Node) → RootThere g o → RootThere g (bare o)
root_bare g None c = absurd c
root_bare g (Some n) c = record { free_standing = c.free_standing; start = c.start }

bare_root : (g : Grammar) (o : Option Node) → RootThere g (bare o) → RootThere g o
bare_root g None c = absurd c
bare_root g (Some n) c = record { free_standing = c.free_standing; start = c.start }

module _ (g : Grammar) {owed : Instance → Bool → Bool} (ps qs : List (Option Node)) (w : Remarked ps qs owed) where
  -- the cells are as they were
  pub remarked_cells : (p : ℕ) → table g qs p ≡ table g ps p
  remarked_cells p = bare_same (cell_of g) (bare_cell g) (at ps p) (at qs p) (w.nodes p)

  pub remarked_table : table g qs ≡ table g ps
  remarked_table i p = remarked_cells p i

  -- the same places are used
  pub remarked_uses : used qs ≡ used ps
  remarked_uses i p = remarked_used ps qs p w i

  free_by : (o z : Option Node) → is_some o ≡ is_some z → z ≡ None → o ≡ None
  free_by None z e f = refl
  free_by (Some n) z e f = let h : true ≡ false = e ∙ ap is_some f in let k : ◌≡◌ {A = ℕ} 0 1 = cc in absurd (omega arith)

  -- and the same are free
  pub remarked_free : (p : ℕ) → (at qs p ≡ None) ↔ (at ps p ≡ None)
  remarked_free p = (free_by (at ps p) (at qs p) (sym (remarked_used ps qs p w)), free_by (at qs p) (at ps p) (remarked_used ps qs p w))

  parents_same : (p : ℕ) → parent_at qs p ≡ parent_at ps p
  parents_same p = bare_same parent_in bare_parent (at ps p) (at qs p) (w.nodes p)

  climbs_same : (n p : ℕ) → climbs qs n p ≡ climbs ps n p
  climbs_same zero p = refl
  climbs_same (suc n) p = ap (λ o. elim o [ None ↦ true | Some u ↦ climbs qs n u.place ]) (parents_same p) ∙ by (parent_at ps p) (λ q. climbs_same n q)
    where
      by : (o : Option Parent) → ((q : ℕ) → climbs qs n q ≡ climbs ps n q) → ◌≡◌ {A = Bool} (elim o [ None ↦ true | Some u ↦ climbs qs n u.place ]) (elim o [ None ↦ true | Some u ↦ climbs ps n u.place ])
      by None f = refl
      by (Some u) f = f u.place

  child_same : (p k x c : ℕ) → ChildThere g p k x (at ps c) → ChildThere g p k x (at qs c)
  child_same p k x c h = bare_child g p k x (at qs c) (subst (ChildThere g p k x) (sym (w.nodes c)) (child_bare g p k x (at ps c) h))

  hangs_same : (p : ℕ) (u : Option Parent) → HangsBelow g ps p u → HangsBelow g qs p u
  hangs_same p None h = tt
  hangs_same p (Some u) h = bare_hung g p u.position (at qs u.place) (subst (ParentThere g p u.position) (sym (w.nodes u.place)) (hung_bare g p u.position (at ps u.place) h))

  -- the node that stood at a place, and the one that stands there now
  record Before (p : ℕ) (n : Node) : Type 0 where
    node : Node
    there : at ps p ≡ Some node
    like : with_marks 0 n ≡ with_marks 0 node

  before : (p : ℕ) (n : Node) → at qs p ≡ Some n → Before p n
  before p n e = by (at ps p) refl
    where
      same_some : (x y : Node) → ◌≡◌ {A = Option Node} (Some x) (Some y) → x ≡ y
      same_some x y e = cc

      by : (o : Option Node) → at ps p ≡ o → Before p n
      by None f = let h : bare (Some n) ≡ bare None = ap bare (sym e) ∙ w.nodes p ∙ ap bare f in let k : ◌≡◌ {A = ℕ} 0 1 = cc in absurd (omega arith)
      by (Some k) f = record { node = k; there = f; like = same_some (with_marks 0 n) (with_marks 0 k) (ap bare (sym e) ∙ w.nodes p ∙ ap bare f) }

  module _ (root : ℕ) (sh : InShape g ps root) (named : (p a : ℕ) (n : Node) → at ps p ≡ Some n → attributes g n.rule ≤ a → owed (p, a) (owed_at ps (p, a)) ≡ false) where
    node_kept : (p : ℕ) (n : Node) → at qs p ≡ Some n → SoundNode g qs p n
    node_kept p n e =
        let b = before p n e in
        let s = sh.places_sound.nodes p b.node b.there in
        let like = sym b.like in
        record {
          rule_there = subst (λ (z : Node). z.rule < length g.rules) like s.rule_there;
          row = subst (λ (z : Node). length z.children ≡ 4) like s.row;
          children_there = subst (λ (z : Node). (k : ℕ) → k < arity g z.rule → ChildThere g p k (get_or (rule g z.rule).right k 0) (at qs (get_or z.children k 0))) like
              (λ k h. child_same p k (get_or (rule g b.node.rule).right k 0) (get_or b.node.children k 0) (s.children_there k h));
          parent_there = subst (λ (z : Node). HangsBelow g qs p z.parent) like (hangs_same p b.node.parent s.parent_there);
          ends = climbs_same 64 p ∙ s.ends;
          marks_there = digits_below (attributes g n.rule) n.marks
              (λ k l. ap (λ o. owes (marks_in o) k) (sym e) ∙ w.marks p k ∙ named p k b.node b.there (subst (λ (z : Node). attributes g z.rule ≤ k) b.like l));
        }

    -- where marks name attributes that exist, the places are in shape as before
    pub remarked_shape : InShape g qs root
    remarked_shape = record {
      places_sound = record {
        some_place = subst (λ n. 1 ≤ n) (sym w.long) sh.places_sound.some_place;
        few_places = subst (λ n. n ≤ 4096) (sym w.long) sh.places_sound.few_places;
        nodes = node_kept;
      };
      root_there = bare_root g (at qs root) (subst (RootThere g) (sym (w.nodes root)) (root_bare g (at ps root) sh.root_there));
    }
