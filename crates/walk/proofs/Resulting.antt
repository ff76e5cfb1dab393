-- The evaluation of what a walk met is the evaluation of an instance of the tree.
use Rattle.std.proofs.Common.{◌≡◌, ℕ, ◌+◌, ◌*◌, ◌<◌, ◌≤◌, Bool, true, false, cond, ltb, ◌≢◌, List, map, length, get_or, set, MatchBool, Option, sym, refl, ap, ◌∙◌, arith}
use Rattle.std.proofs.lemmas.List.{get_or-set_same, get_or-set_other}
use Rattle.std.proofs.lemmas.Bool.Decides.{nat_tests}
use Rattle.grammar.specs.Model.{Grammar}
use Rattle.places.specs.Places.{used, table, value_at}
use Rattle.places.specs.Shape.{SoundPlaces}
use Rattle.places.specs.declared.node.Node.{Node}
use Rattle.tour.proofs.Accepted.{sound_accepted}
use Rattle.tour.proofs.Ruled.{Defines}
use Rattle.tour.specs.Nodes.{Link}
use Rattle.tour.specs.Runs.{read}
use Rattle.tour.specs.Results.{Meaning, own_result, link_sources, link_apply, defining, result}
use Rattle.tour.specs.Rules.{symbol, rule, no_attribute}
use Rattle.tour.proofs.Ruled.Defines.{own, given}
use Rattle.tour.specs.Trees.{Instance, at_of}
use Rattle.walk.specs.Ahead.{instance_of}
use Rattle.walk.specs.Evaluation.{Evaluates}
use Rattle.sheet.specs.Meaning.{Sound}
use Rattle.walk.specs.Walking.{Meeting}
use Rattle.walk.specs.declared.walker.Met.{Met}
use Rattle.walk.proofs.Evaluating.{ready, value_kept}
use Rattle.walk.proofs.Naming.{rule_used, kids_right}
use Rattle.walk.proofs.Shaping.{kid_link, kid_symbol}

module _ {V : Type 0} (M : Meaning V) (g : Grammar) (ps : List (Option Node)) where
  by_link : Link → ℕ → (Instance → V) → V
  by_link l a v = link_apply M g (table g ps) l a (map (read v) (link_sources M g (table g ps) l a))

  -- the equation of an occurrence is the one of the instance that stands there
  result_at_lem : (p o a : ℕ) (v : Instance → V) → SoundPlaces g ps → used ps p ≡ true → Defines g (rule g (table g ps p).rule) o a → result M g (table g ps) (at_of p (table g ps p).kids o, a) v ≡ own_result M g (table g ps) p o a v
  unfolding by_link
  result_at_lem p o a v so u (own h) = ap (λ x. by_link (defining x.flow p (table g ps p).link) a v) h.1
  result_at_lem p o a v so u (given {k = k} l h) =
      let T = table g ps in
      let q : ℕ = get_or (T p).kids k 0 in
      let there : k < length (T p).kids = omega (arith, l, kids_right g ps p u) in
      ap (λ y. by_link (defining (get_or (symbol g y).attributes a no_attribute).flow q (T q).link) a v) (kid_symbol g ps p k so u there)
      ∙ ap (λ x. by_link (defining x.flow q (T q).link) a v) h.1
      ∙ ap (λ y. by_link y a v) (kid_link g ps p k so u there)

  result_met : (m : Met) (v : Instance → V) → Sound g → SoundPlaces g ps → Meeting g ps m → result M g (table g ps) (instance_of m) v ≡ own_result M g (table g ps) m.rule_place m.occurrence m.attribute v
  result_met m v w so e =
      let p = m.rule_place in
      ap (λ q. result M g (table g ps) (q, m.attribute) v) e.place_is
      ∙ result_at_lem p m.occurrence m.attribute v so e.rule_place_used (((sound_accepted g w).rules (table g ps p).rule (rule_used g ps p so e.rule_place_used)).1.evaluates_only m.occurrence m.attribute e.stands)

module _ {V : Type 0} (d : V) (vs : List V) (p a : ℕ) (x : V) (small : a < 16) where
  value_set_same : 16 * p + a < length vs → value_at d (set vs (16 * p + a) x) (p, a) ≡ x
  value_set_same h = value_kept d (set vs (16 * p + a) x) p a small ∙ get_or-set_same vs (16 * p + a) x d h

  value_set_other : (y : Instance) → (y ≡ (p, a) → ⊥) → value_at d (set vs (16 * p + a) x) y ≡ value_at d vs y
  value_set_other y away = by (ltb y.1 16) refl
    where
      by : (b : Bool) → ltb y.1 16 ≡ b → value_at d (set vs (16 * p + a) x) y ≡ value_at d vs y
      by true e =
          let l : y.1 < 16 = grind (arith, nat_tests) in
          let apart : 16 * y.0 + y.1 ≢ 16 * p + a = λ h. away (let e₀ : y.0 ≡ p = omega arith in let e₁ : y.1 ≡ a = omega arith in λ i. (e₀ i, e₁ i)) in
          value_kept d (set vs (16 * p + a) x) y.0 y.1 l ∙ get_or-set_other vs (16 * p + a) (16 * y.0 + y.1) x d apart ∙ sym (value_kept d vs y.0 y.1 l)
      by false e = ap (λ b. cond b (get_or (set vs (16 * p + a) x) (16 * y.0 + y.1) d) d) e ∙ sym (ap (λ b. cond b (get_or vs (16 * y.0 + y.1) d) d) e)

pub evaluated : {V : Type 0} (M : Meaning V) (g : Grammar) (ps : List (Option Node)) (m : Met) (vs ws : List V) (r : Bool) → Sound g → SoundPlaces g ps → Meeting g ps m → 16 * length ps ≤ length vs
    → ws ≡ set vs (16 * m.place + m.attribute) (own_result M g (table g ps) m.rule_place m.occurrence m.attribute (value_at (M.leaf 0) vs))
    → MatchBool r (value_at (M.leaf 0) vs (instance_of m) ≡ own_result M g (table g ps) m.rule_place m.occurrence m.attribute (value_at (M.leaf 0) vs) → ⊥) (value_at (M.leaf 0) vs (instance_of m) ≡ own_result M g (table g ps) m.rule_place m.occurrence m.attribute (value_at (M.leaf 0) vs))
    → Evaluates M g (table g ps) (instance_of m) r (value_at (M.leaf 0) vs) (value_at (M.leaf 0) ws)
evaluated {V} M g ps m vs ws r w so e room t f =
    let d = M.leaf 0 in
    let x = own_result M g (table g ps) m.rule_place m.occurrence m.attribute (value_at d vs) in
    let h = ready g ps m w so e in
    let here : value_at d ws (instance_of m) ≡ x =
    ap (λ l. value_at d l (instance_of m)) t ∙ value_set_same d vs m.place m.attribute x h.attribute_small (omega (arith, h.attribute_small, h.place_there, room)) in
    record {
      new = here ∙ sym (result_met M g ps m (value_at d vs) w so e);
      kept = λ y away. ap (λ l. value_at d l y) t ∙ value_set_other d vs m.place m.attribute x h.attribute_small y away;
      same = λ n. here ∙ equal x r f n;
      differs = λ k q. apart x r f k (sym q ∙ here);
    }
  where
    equal : (x : V) (r : Bool) → MatchBool r (value_at (M.leaf 0) vs (instance_of m) ≡ x → ⊥) (value_at (M.leaf 0) vs (instance_of m) ≡ x) → (r ≡ true → ⊥) → x ≡ value_at (M.leaf 0) vs (instance_of m)
    equal x true f n = absurd (n refl)
    equal x false f n = sym f

    apart : (x : V) (r : Bool) → MatchBool r (value_at (M.leaf 0) vs (instance_of m) ≡ x → ⊥) (value_at (M.leaf 0) vs (instance_of m) ≡ x) → r ≡ true → value_at (M.leaf 0) vs (instance_of m) ≡ x → ⊥
    apart x true f k q = f q
    apart x false f k q = let z : ◌≡◌ {A = ℕ} 0 1 = cc in omega arith
