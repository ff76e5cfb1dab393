-- The engine over a table in shape.
use Rattle.std.proofs.Common.{◌≡◌, ℕ, zero, suc, ◌<◌, Bool, true, false, cond, ◌⊎◌, ◌↔◌, List, [], ◌++◌, length, get_or, sym, refl, ap, ◌∙◌, subst, inl, inr, arith}
use Rattle.std.proofs.lemmas.Bool.{cases_order}
use Rattle.grammar.specs.Model.{Grammar}
use Rattle.grammar.specs.declared.terms.Flow.{Flow}
use Rattle.grammar.specs.declared.terms.Flow.TheVariants.{Inherited, Synthesized}
use Rattle.sheet.specs.Meaning.{Sound}
use Rattle.tour.specs.Runs.{In, named, State, Ordered, Idle, Consistent}
use Rattle.tour.specs.Rules.{rule, no_attribute, Has}
use Rattle.tour.specs.Trees.{Instance, Forest, same_instance, Arguments, row, instances, places_in}
use Rattle.tour.specs.Trees.Forest.{none, node}
use Rattle.tour.specs.Touring.{tour, Touring}
use Rattle.tour.specs.Nodes.{Link, Table, attributes_of, flow_of, above, Planted}
use Rattle.tour.specs.Nodes.Link.{top, under}
use Rattle.tour.specs.Results.{Meaning, sources, defining, defined_at, engine}
use Rattle.tour.specs.Steady.{Live, Steady}
use Rattle.tour.specs.Shapes.{Shape, grow, tree_from}
use Rattle.tour.specs.Engine.{equated, live_at, live_below, Engine, EngineLaw}
use Rattle.tour.proofs.Lists.{in_left, in_right, in_cases, kept_in, in_kept}
use Rattle.tour.proofs.Incremental.{same_instance_lem, instance_discrete, settling}
use Rattle.tour.proofs.Steps.{run_consistent, fresh_values}
use Rattle.tour.proofs.Ruled.{Accepted}
use Rattle.tour.proofs.Accepted.{sound_accepted}
use Rattle.tour.proofs.Places.{in_row, row_in, shown_attribute, instance_place}
use Rattle.tour.proofs.Touring.{accepted_tour}
use Rattle.tour.proofs.Tables.{planted_touring, engine_ordered}
use Rattle.tour.proofs.Shapes.{shape_planted, tree_used, in_grow, not_top}

none_named : (σ : Grammar) (f : Forest) → Arguments σ (λ y. []) f
none_named σ none = tt
none_named σ (node p r c kids rest) = ((λ o a x m h. absurd h), none_named σ kids, none_named σ rest)

module _ (σ : Grammar) (T : Table) (used : ℕ → Bool) (root : ℕ) (so : Sound σ) (sh : Shape σ T used root) where
  ac : Accepted σ
  ac = sound_accepted σ so

  -- the tour's instances have equations
  pub tour_live : (x : Instance) → In x (tour σ (tree_from T 63 root)) → Live σ T used x
  tour_live x m = record {
    place = elim at [ inl e ↦ ap used e ∙ sh.root_used | inr w ↦ tree_used σ T used root sh x.0 root sh.root_used (inr w) ];
    attribute = shown_attribute σ T x (tree_from T 63 root) above 0 pl.shown inside;
    below = λ e t. elim at [
      | inl q ↦ ac.start_free x.1 (get_or (attributes_of σ T x.0) x.1 no_attribute).visit (start q e)
      | inr w ↦ (let r = in_grow σ T used root sh 63 x.0 root sh.root_used (low w) in not_top (T x.0).link r.1.0 r.1.1 t r.1.2)
    ];
  }
    where
      pl : Planted σ T (tree_from T 63 root)
      pl = shape_planted σ T used root so sh

      inside : In x (instances σ (tree_from T 63 root))
      inside = ((accepted_tour σ ac (λ y. []) (tree_from T 63 root) pl.agrees (none_named σ (tree_from T 63 root)) pl.apart).all x).0 m

      at : In x.0 (places_in (tree_from T 63 root))
      at = instance_place σ x (tree_from T 63 root) inside

      low : In x.0 (places_in (grow T 63 root) ++ []) → In x.0 (places_in (grow T 63 root))
      low w = elim (in_cases x.0 (places_in (grow T 63 root)) [] w) [ inl k ↦ k | inr k ↦ absurd k ]

      start : x.0 ≡ root → flow_of σ T x ≡ Inherited → Has σ 0 x.1 Inherited (get_or (attributes_of σ T x.0) x.1 no_attribute).visit
      start q e =
          let z : (rule σ (T x.0).rule).left ≡ 0 = ap (λ y. (rule σ (T y).rule).left) q ∙ sh.root_start in
          subst (λ y. Has σ y x.1 Inherited (get_or (attributes_of σ T x.0) x.1 no_attribute).visit) z
          (shown_attribute σ T x (tree_from T 63 root) above 0 pl.shown inside, ap (λ y. record { flow = y; visit = (get_or (attributes_of σ T x.0) x.1 no_attribute).visit }) e)

module _ (σ : Grammar) (T : Table) (used : ℕ → Bool) where
  equated_below : (k : Flow) (p : ℕ) (l : Link) → equated (defining k p l) ≡ true → k ≡ Inherited → l ≡ top → ⊥
  equated_below Synthesized p l e f t = let z : ◌≡◌ {A = ℕ} 0 1 = cc in omega arith
  equated_below Inherited p l e f t = let z : false ≡ true = subst (λ y. equated y ≡ true) t e in let w : ◌≡◌ {A = ℕ} 0 1 = cc in omega arith

  below_equated : (k : Flow) (p : ℕ) (l : Link) → (k ≡ Inherited → l ≡ top → ⊥) → equated (defining k p l) ≡ true
  below_equated Synthesized p l f = refl
  below_equated Inherited p top f = absurd (f refl refl)
  below_equated Inherited p (under u k) f = refl

  listed_live : (n : ℕ) (x : Instance) → In x (live_below σ T used n) → Live σ T used x
  listed_live zero x m = absurd m
  listed_live (suc n) x m = go (used n) refl (in_cases x (cond (used n) (live_at σ T n) []) (live_below σ T used n) m) (listed_live n x)
    where
      go : (b : Bool) → used n ≡ b → In x (cond b (live_at σ T n) []) ⊎ In x (live_below σ T used n) → (In x (live_below σ T used n) → Live σ T used x) → Live σ T used x
      go b e (inr h) f = f h
      go false e (inl h) f = absurd h
      go true e (inl h) f =
          let r = kept_in (λ y. equated (defined_at σ T y)) x (row n 0 (length (attributes_of σ T n))) h in
          let q = in_row x n 0 (length (attributes_of σ T n)) r.0 in
          record {
            place = ap used q.0 ∙ e;
            attribute = subst (λ z. x.1 < length (attributes_of σ T z)) (sym q.0) (omega (arith, q.2));
            below = equated_below (flow_of σ T x) x.0 (T x.0).link r.1;
          }

  live_listed : (n : ℕ) (x : Instance) → x.0 < n → Live σ T used x → In x (live_below σ T used n)
  live_listed zero x h li = absurd (omega arith)
  live_listed (suc n) x h li = go (cases_order x.0 n) (λ l. live_listed n x l li)
    where
      here : x.0 ≡ n → In x (live_at σ T n)
      here e = in_kept (λ y. equated (defined_at σ T y)) x (row n 0 (length (attributes_of σ T n)))
          (subst (λ z. In x (row z 0 (length (attributes_of σ T z)))) e (row_in x.0 x.1 0 (length (attributes_of σ T x.0)) (omega arith) (let a = li.attribute in omega arith)))
          (below_equated (flow_of σ T x) x.0 (T x.0).link li.below)

      go : (x.0 ≡ n) ⊎ ((x.0 < n) ⊎ (n < x.0)) → (x.0 < n → In x (live_below σ T used n)) → In x (live_below σ T used (suc n))
      go (inl e) f = in_left x (cond (used n) (live_at σ T n) []) (live_below σ T used n) (subst (λ b. In x (cond b (live_at σ T n) [])) (sym (ap used (sym e) ∙ li.place)) (here e))
      go (inr (inl l)) f = in_right x (cond (used n) (live_at σ T n) []) (live_below σ T used n) (f l)
      go (inr (inr l)) f = absurd (omega arith)

module _ {V : Type 0} (M : Meaning V) (σ : Grammar) (so : Sound σ) (T : Table) (used : ℕ → Bool) (root : ℕ) (sh : Shape σ T used root) where
  touring : Touring σ (λ x. named (sources M σ T x)) (tree_from T 63 root)
  touring = planted_touring M σ T (tree_from T 63 root) (shape_planted σ T used root so sh)

  module _ (scope : List Instance) (sc : (x : Instance) → In x scope ↔ Live σ T used x) where
    ordered : Ordered (engine M σ T (tree_from T 63 root) scope)
    ordered = engine_ordered M σ T (tree_from T 63 root) (shape_planted σ T used root so sh) scope (λ i m. (sc i).1 (tour_live σ T used root so sh i m))

    consistent : (s : State Instance V) → Steady M σ T used s → Consistent (engine M σ T (tree_from T 63 root) scope) s
    consistent s st j m k = st j ((sc j).0 m) k

    idle_tour : (s : State Instance V) → Idle s (instances σ (tree_from T 63 root)) → Idle s (tour σ (tree_from T 63 root))
    idle_tour s idle j m = idle j ((touring.all j).0 m)

    engine_there : Engine M σ T used root scope
    engine_there = record {
      ordered = ordered;
      runs = λ s u is r st x li n. run_consistent (engine M σ T (tree_from T 63 root) scope) ordered instance_discrete s u is r (consistent s st) x ((sc x).1 li) n;
      values = λ s st idle x m. fresh_values (engine M σ T (tree_from T 63 root) scope) ordered same_instance same_instance_lem s (consistent s st) (idle_tour s idle) x ((touring.all x).1 m);
      settles = λ s u is r idle. settling same_instance same_instance_lem (engine M σ T (tree_from T 63 root) scope) ordered s u is r (idle_tour u idle);
    }

pub engine_law : (V : Type 0) → EngineLaw V
engine_law V = record {
  touring = λ M σ so T used root sh. touring M σ so T used root sh;
  live = λ σ so T used root sh x m. tour_live σ T used root so sh x m;
  listed = λ σ T used n bound x. (listed_live σ T used n x, λ li. live_listed σ T used n x (bound x.0 li.place) li);
  engines = λ M σ so T used root sh scope sc. engine_there M σ so T used root sh scope sc;
}
