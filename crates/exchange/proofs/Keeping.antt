-- Which changes keep places sound.
use Rattle.std.proofs.Common.{◌≡◌, ℕ, zero, suc, ◌/◌, ◌%◌, ◌^◌, ◌<◌, ◌≤◌, Bool, true, false, not, ◌&&◌, ◌||◌, List, length, get_or, is_some, Some, None, Option, sym, refl, ap, ◌∙◌, subst, ap₂, mod-lt, pow-suc, arith}
use borrow.Author.Tests.{eqb-false}
use Rattle.grammar.specs.Model.{Grammar}
use Rattle.tour.specs.Rules.{rule}
use Rattle.tour.specs.Trees.{Instance}
use Rattle.places.specs.Marks.{owes}
use Rattle.places.specs.Places.{at, used, parent_in, parent_at, marks_in, owed_at, arity, attributes, cell_of, table}
use Rattle.places.specs.Shape.{climbs, top_from, ChildThere, ParentThere, HangsBelow, SoundNode, SoundPlaces}
use Rattle.places.specs.declared.node.Node.{Node}
use Rattle.places.specs.declared.node.Parent.{Parent}
use Rattle.places.proofs.Digits.{owes_high}
use Rattle.exchange.specs.Freeing.{Freed}
use Rattle.exchange.specs.Setting.{with_marks}
use Rattle.exchange.specs.Waking.{bare, Remarked, Woke, Slept}
use Rattle.exchange.proofs.Climbing.{climbs_top, climbs_up, up}
use Rattle.exchange.proofs.Marking.{remarked_parent}
use Rattle.exchange.proofs.Soundness.{parent_node}
use Rattle.exchange.proofs.Swapping.{child_hangs}

two_pow : (m : ℕ) → m < 2 ^ m
two_pow zero = omega arith
two_pow (suc m) = let h = two_pow m in omega (arith, pow-suc 2 m)

all_off : (j m : ℕ) → m < 2 ^ j → ((k : ℕ) → owes m k ≡ false) → m ≡ 0
all_off zero m h off = omega arith
all_off (suc j) m h off =
    let half : m / 2 ≡ 0 = all_off j (m / 2) (omega (arith, pow-suc 2 j)) (λ k. off (suc k)) in
    let odd = eqb-false (m % 2) 1 (off 0) in
    let small : m % 2 < 2 = mod-lt m (omega arith) in
    let even : m % 2 ≡ 0 = by (m % 2) odd small in
    omega arith
  where
    by : (d : ℕ) → (d ≡ 1 → ⊥) → d < 2 → d ≡ 0
    by zero o l = refl
    by (suc zero) o l = absurd (o refl)
    by (suc (suc d)) o l = absurd (omega arith)

-- a number without digits from w on
pub below_from_digits : (w m : ℕ) → ((k : ℕ) → w ≤ k → owes m k ≡ false) → m < 2 ^ w
below_from_digits zero m off = let z = all_off m m (two_pow m) (λ k. off k (omega arith)) in omega arith
below_from_digits (suc w) m off = let h = below_from_digits w (m / 2) (λ k l. off (suc k) (omega arith)) in omega (arith, pow-suc 2 w)

-- climbing looks at parents only
pub climbs_same : (ps qs : List (Option Node)) → ((p : ℕ) → parent_at qs p ≡ parent_at ps p) → (n p : ℕ) → climbs qs n p ≡ climbs ps n p
climbs_same ps qs same zero p = refl
climbs_same ps qs same (suc n) p = by (climbs_same ps qs same n) (parent_at ps p) refl
  where
    by : ((q : ℕ) → climbs qs n q ≡ climbs ps n q) → (u : Option Parent) → parent_at ps p ≡ u → climbs qs (suc n) p ≡ climbs ps (suc n) p
    by less None e = climbs_top qs n p (same p ∙ e) ∙ sym (climbs_top ps n p e)
    by less (Some u) e = climbs_up qs n p u (same p ∙ e) ∙ less u.place ∙ sym (climbs_up ps n p u e)

child_bare : (g : Grammar) (p k x : ℕ) (y : Option Node) → ChildThere g p k x y → ChildThere g p k x (bare y)
child_bare g p k x None c = c
child_bare g p k x (Some n) c = record { hangs = c.hangs; symbol_is = c.symbol_is }

bare_child : (g : Grammar) (p k x : ℕ) (y : Option Node) → ChildThere g p k x (bare y) → ChildThere g p k x y
bare_child g p k x None c = c
bare_child g p k x (Some n) c = record { hangs = c.hangs; symbol_is = c.symbol_is }

parent_bare : (g : Grammar) (p k : ℕ) (y : Option Node) → ParentThere g p k y → ParentThere g p k (bare y)
parent_bare g p k None c = c
parent_bare g p k (Some n) c = record { first = c.first; last = c.last; points = c.points }

bare_parent : (g : Grammar) (p k : ℕ) (y : Option Node) → ParentThere g p k (bare y) → ParentThere g p k y
bare_parent g p k None c = c
bare_parent g p k (Some n) c = record { first = c.first; last = c.last; points = c.points }

-- the node at a place, before its marks changed
bare_node : (x : Option Node) (n : Node) → bare (Some n) ≡ bare x → (m : Node) × (x ≡ Some m) × (with_marks 0 n ≡ with_marks 0 m)
bare_node None n e = let z : ◌≡◌ {A = ℕ} 0 1 = cc in absurd (omega arith)
bare_node (Some m) n e = (m, refl, (let k : with_marks 0 n ≡ with_marks 0 m = cc in k))

-- other marks keep the places sound, if none beyond the attributes is set
pub remarked_sound : (g : Grammar) (ps qs : List (Option Node)) (owed : Instance → Bool → Bool) → SoundPlaces g ps → Remarked ps qs owed → ((p a : ℕ) → used ps p ≡ true → attributes g (table g ps p).rule ≤ a → owed (p, a) false ≡ false) → SoundPlaces g qs
remarked_sound g ps qs owed s w none = record {
  some_place = (let a = s.some_place in let b = w.long in omega arith);
  few_places = (let a = s.few_places in let b = w.long in omega arith);
  nodes = node;
}
  where
    there : (p : ℕ) (n : Node) → at qs p ≡ Some n → (m : Node) × (at ps p ≡ Some m) × (with_marks 0 n ≡ with_marks 0 m)
    there p n e = bare_node (at ps p) n (ap bare (sym e) ∙ w.nodes p)

    child : (p k x c : ℕ) → ChildThere g p k x (at ps c) → ChildThere g p k x (at qs c)
    child p k x c h = bare_child g p k x (at qs c) (subst (ChildThere g p k x) (sym (w.nodes c)) (child_bare g p k x (at ps c) h))

    below : (p : ℕ) (u : Option Parent) → HangsBelow g ps p u → HangsBelow g qs p u
    below p None h = h
    below p (Some u) h = bare_parent g p u.position (at qs u.place) (subst (ParentThere g p u.position) (sym (w.nodes u.place)) (parent_bare g p u.position (at ps u.place) h))

    node : (p : ℕ) (n : Node) → at qs p ≡ Some n → SoundNode g qs p n
    node p n e =
        let t = there p n e in
        let m = t.0 in
        let o = s.nodes p m t.1 in
        let same : with_marks 0 m ≡ with_marks 0 n = sym t.2 in
        let rule-same : m.rule ≡ n.rule = ap (λ (z : Node). z.rule) same in
        let cell : (table g ps p).rule ≡ n.rule = ap (λ z. (cell_of g z).rule) t.1 ∙ rule-same in
        record {
          rule_there = subst (λ (z : Node). z.rule < length g.rules) same o.rule_there;
          row = ap (λ (z : Node). length z.children) (sym same) ∙ o.row;
          children_there = subst (λ (z : Node). (k : ℕ) → k < arity g z.rule → ChildThere g p k (get_or (rule g z.rule).right k 0) (at qs (get_or z.children k 0))) same (λ k h. child p k (get_or (rule g m.rule).right k 0) (get_or m.children k 0) (o.children_there k h));
          parent_there = subst (λ (z : Node). HangsBelow g qs p z.parent) same (below p m.parent o.parent_there);
          ends = climbs_same ps qs (remarked_parent ps qs w) 64 p ∙ o.ends;
          marks_there = below_from_digits (attributes g n.rule) n.marks (λ k l.
              let before : owed_at ps (p, k) ≡ false = ap (λ x. owes (marks_in x) k) t.1 ∙ owes_high (attributes g m.rule) m.marks k o.marks_there (subst (λ r. attributes g r ≤ k) (sym rule-same) l) in
              ap (λ x. owes (marks_in x) k) (sym e) ∙ w.marks p k ∙ ap (owed (p, k)) before ∙ none p k (ap is_some t.1) (subst (λ r. attributes g r ≤ k) (sym cell) l));
        }

-- marks that are cleared
pub slept_sound : (g : Grammar) (ps qs : List (Option Node)) (these : Instance → Bool) → SoundPlaces g ps → Slept ps qs these → SoundPlaces g qs
slept_sound g ps qs these s w = remarked_sound g ps qs (λ x b. b && not (these x)) s w (λ p a h l. refl)

-- marks that are set, each of an attribute that is there
pub woke_sound : (g : Grammar) (ps qs : List (Option Node)) (these : Instance → Bool) → SoundPlaces g ps → Woke ps qs these → ((p a : ℕ) → used ps p ≡ true → attributes g (table g ps p).rule ≤ a → these (p, a) ≡ false) → SoundPlaces g qs
woke_sound g ps qs these s w none = remarked_sound g ps qs (λ x b. b || (used ps x.0 && these x)) s w (λ p a h l. ap₂ ◌&&◌ h (none p a h l))

-- freeing a block
module _ (g : Grammar) (ps qs : List (Option Node)) (block : ℕ) (s : SoundPlaces g ps) (f : Freed ps qs block) where
  parent_outside : (p : ℕ) (u : Parent) → parent_at ps p ≡ Some u → (top_from ps 64 p ≡ block → ⊥) → top_from ps 64 u.place ≡ block → ⊥
  parent_outside p u e ne t =
      let n = parent_node (at ps p) u e in
      ne ((up ps 64 p u (s.nodes p n.0 n.1).ends e).top_same ∙ t)

  outside_climbs : (n p : ℕ) → (top_from ps 64 p ≡ block → ⊥) → climbs qs n p ≡ climbs ps n p
  outside_climbs zero p ne = refl
  outside_climbs (suc n) p ne = by (outside_climbs n) (parent_at ps p) refl
    where
      by : ((q : ℕ) → (top_from ps 64 q ≡ block → ⊥) → climbs qs n q ≡ climbs ps n q) → (u : Option Parent) → parent_at ps p ≡ u → climbs qs (suc n) p ≡ climbs ps (suc n) p
      by less None e = climbs_top qs n p (ap parent_in (f.outside p ne) ∙ e) ∙ sym (climbs_top ps n p e)
      by less (Some u) e = climbs_up qs n p u (ap parent_in (f.outside p ne) ∙ e) ∙ less u.place (parent_outside p u e ne) ∙ sym (climbs_up ps n p u e)

  pub freed_sound : SoundPlaces g qs
  freed_sound = record {
    some_place = (let a = s.some_place in let b = f.long in omega arith);
    few_places = (let a = s.few_places in let b = f.long in omega arith);
    nodes = node;
  }
    where
      out : (p : ℕ) (n : Node) → at qs p ≡ Some n → top_from ps 64 p ≡ block → ⊥
      out p n e t = let z : Some n ≡ None = sym e ∙ f.inside p t in let y : ◌≡◌ {A = ℕ} 0 1 = cc in omega arith

      below : (p : ℕ) (u : Option Parent) → parent_at ps p ≡ u → (top_from ps 64 p ≡ block → ⊥) → HangsBelow g ps p u → HangsBelow g qs p u
      below p None e ne h = h
      below p (Some u) e ne h = subst (ParentThere g p u.position) (sym (f.outside u.place (parent_outside p u e ne))) h

      node : (p : ℕ) (n : Node) → at qs p ≡ Some n → SoundNode g qs p n
      node p n e =
          let ne = out p n e in
          let old : at ps p ≡ Some n = sym (f.outside p ne) ∙ e in
          let o = s.nodes p n old in
          record {
            rule_there = o.rule_there;
            row = o.row;
            children_there = λ k h. (
                let c = get_or n.children k 0 in
                let hang = child_hangs g ps s p n k old h in
                let m = parent_node (at ps c) (record { place = p; position = suc k }) hang in
                let same = (up ps 64 c (record { place = p; position = suc k }) (s.nodes c m.0 m.1).ends hang).top_same in
                subst (ChildThere g p k (get_or (rule g n.rule).right k 0)) (sym (f.outside c (λ t. ne (sym same ∙ t)))) (o.children_there k h)
                );
            parent_there = below p n.parent (ap parent_in old) ne o.parent_there;
            ends = outside_climbs 64 p ne ∙ o.ends;
            marks_there = o.marks_there;
          }
