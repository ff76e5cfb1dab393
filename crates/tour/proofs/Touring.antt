-- The tour of a tree has each instance once, behind its arguments.
use Rattle.std.proofs.Common.{◌≡◌, ℕ, ◌+◌, ◌≤◌, List, [], ◌∷◌, get_or, sym, refl, ap, subst, inl, inr, arith}
use Rattle.tour.specs.Runs.{In, Apart}
use Rattle.grammar.specs.Model.{Grammar}
use Rattle.grammar.specs.declared.terms.Flow.TheVariants.{Inherited}
use Rattle.tour.specs.Trees.{Instance, Forest, no_visit, tours, Agrees, Arguments, instances, places_in}
use Rattle.tour.specs.Trees.Forest.{none, node}
use Rattle.tour.specs.Touring.{tour, Touring, TourLaw}
use Rattle.tour.proofs.Sums.{sum_of, in_count, count_in, apart_count, count_apart, one_at}
use Rattle.plans.specs.PlanTests.{numbers_from}
use Rattle.tour.proofs.Expected.{numbers, numbers_in}
use Rattle.tour.proofs.Counts.{load, load_all, those, whole}
use Rattle.tour.proofs.Places.{apart_instances}
use Rattle.tour.proofs.Incremental.{instance_discrete}
use Rattle.tour.proofs.Order.{Ord}
use Rattle.tour.proofs.Order.{forest_good, ord_before}
use Rattle.tour.proofs.Accepted.{sound_accepted}
use Rattle.tour.proofs.Ruled.{Accepted}

sum_empty : (h : ℕ → ℕ) (ns : List ℕ) → ((n : ℕ) → In n ns → ⊥) → sum_of h ns ≡ 0
sum_empty h [] f = refl
sum_empty h (n ∷ ns) f = absurd (f n (inl refl))

load_nil : (g : Instance → ℕ) (σ : Grammar) (f : Forest) → load g σ f [] ≡ 0
load_nil g σ none = refl
load_nil g σ (node p r c kids rest) = refl

-- any weight of the tour is that of the tree's instances
pub tour_sum : (g : Instance → ℕ) (σ : Grammar) → Accepted σ → (t : Forest) → Agrees σ t (0 ∷ []) → sum_of g (tour σ t) ≡ sum_of g (instances σ t)
tour_sum g σ ac none ag = absurd ag
tour_sum g σ ac (node p r c kids rest) ag =
    let a = load_all g σ ac.rules (node p r c kids rest) (0 ∷ []) ag in
    let b : those g σ Inherited p 0 ≡ 0 = sum_empty (λ n. g (p, n)) (numbers σ Inherited 0) (λ n m. let w = numbers_in σ Inherited 0 n m in ac.start_free n w.0 w.1) in
    let d = load_nil g σ rest in
    let f : ℕ → ℕ = λ j. sum_of g (get_or (tours σ (node p r c kids rest)) 0 no_visit j) in
    let e : whole g σ 0 (get_or (tours σ (node p r c kids rest)) 0 no_visit) ≡ f 1 + 0 = ap (λ n. sum_of f (numbers_from 1 n)) ac.start_visits in
    omega arith

-- in the tour each instance stands behind its arguments
pub tour_ord : (σ : Grammar) → Accepted σ → (args : Instance → List Instance) (t : Forest) → Agrees σ t (0 ∷ []) → Arguments σ args t → Ord args (λ x. ⊥) (tour σ t)
tour_ord σ ac args t ag na =
    (forest_good σ ac.rules args t (0 ∷ []) ag na 0 (omega arith)).order 1 (λ x. ⊥)
    (λ a i has h. ac.start_free a i has)
    (λ i l h y m. omega arith)

pub accepted_tour : (σ : Grammar) → Accepted σ → (args : Instance → List Instance) (t : Forest) → Agrees σ t (0 ∷ []) → Arguments σ args t → Apart (places_in t) → Touring σ args t
accepted_tour σ ac args t ag na pl = record {
  once = count_apart instance_discrete (tour σ t) (λ x. subst (λ n. n ≤ 1) (sym (same x)) (apart_count instance_discrete x (instances σ t) (apart_instances σ t pl)));
  all = λ x. (
    (λ m. count_in instance_discrete x (instances σ t) (subst (λ n. 1 ≤ n) (same x) (in_count instance_discrete x (tour σ t) m))),
    (λ m. count_in instance_discrete x (tour σ t) (subst (λ n. 1 ≤ n) (sym (same x)) (in_count instance_discrete x (instances σ t) m))),
  );
  before = λ xs ys x a e m. elim (ord_before args (λ z. ⊥) xs ys x a (subst (λ z. Ord args (λ y. ⊥) z) e (tour_ord σ ac args t ag na)) m) [ inl k ↦ k | inr k ↦ absurd k ];
}
  where
    same : (x : Instance) → sum_of (one_at instance_discrete x) (tour σ t) ≡ sum_of (one_at instance_discrete x) (instances σ t)
    same x = tour_sum (one_at instance_discrete x) σ ac t ag

pub tour_law : TourLaw
tour_law σ sound args t ag na pl = accepted_tour σ (sound_accepted σ sound) args t ag na pl
