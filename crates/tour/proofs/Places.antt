-- Instances stand at the places of their trees.
use Rattle.std.proofs.Common.{◌≡◌, ℕ, zero, suc, ◌+◌, ◌<◌, ◌≤◌, ◌⊎◌, List, [], ◌∷◌, ◌++◌, length, sym, ap, ◌∙◌, subst, inl, inr, arith}
use Rattle.tour.specs.Runs.{In, Apart}
use Rattle.grammar.specs.Model.{Grammar}
use Rattle.tour.specs.Rules.{symbol, rule}
use Rattle.tour.specs.Trees.{Instance, Forest, row, instances, places_in}
use Rattle.tour.specs.Trees.Forest.{none, node}
use Rattle.tour.specs.Nodes.{Link, Table, attributes_of, Shows}
use Rattle.tour.specs.Nodes.Link.{under}
use Rattle.std.proofs.lemmas.Bool.{cases_order}
use Rattle.tour.proofs.Lists.{in_left, in_right, in_cases}
use Rattle.tour.proofs.Sums.{apart_append}

pub apart_parts : {X : Type 0} (xs ys : List X) → Apart (xs ++ ys) → Apart xs × Apart ys × ((x : X) → In x xs → In x ys → ⊥)
apart_parts [] ys a = (tt, a, λ x m n. m)
apart_parts (x ∷ xs) ys (n, a) =
    let r = apart_parts xs ys a in (
      (λ m. n (in_left x xs ys m), r.0),
      r.1,
      λ z m k. elim m [ inl e ↦ n (in_right x xs ys (subst (λ w. In w ys) e k)) | inr q ↦ r.2 z q k ],
    )

-- an instance of a row
pub in_row : (x : Instance) (p i n : ℕ) → In x (row p i n) → (x.0 ≡ p) × (i ≤ x.1) × (x.1 < i + n)
in_row x p i zero m = absurd m
in_row x p i (suc n) (inl e) = let f : x.1 ≡ i = ap (λ z. z.1) e in (ap (λ z. z.0) e, omega arith, omega arith)
in_row x p i (suc n) (inr m) = let r = in_row x p (suc i) n m in (r.0, omega (arith, r.1), omega (arith, r.2))

apart_row : (p i n : ℕ) → Apart (row p i n)
apart_row p i zero = tt
apart_row p i (suc n) = ((λ m. let r = in_row (p, i) p (suc i) n m in omega (arith, r.1)), apart_row p (suc i) n)

-- the instances of one node
abbrev pub of_node : Grammar → ℕ → ℕ → List Instance
of_node σ p r = row p 0 (length (symbol σ (rule σ r).left).attributes)

pub instance_place : (σ : Grammar) (x : Instance) (f : Forest) → In x (instances σ f) → In x.0 (places_in f)
instance_place σ x none m = m
instance_place σ x (node p r c kids rest) m = go (in_cases x (of_node σ p r) (instances σ kids ++ instances σ rest) m) (instance_place σ x kids) (instance_place σ x rest)
  where
    go : In x (of_node σ p r) ⊎ In x (instances σ kids ++ instances σ rest) → (In x (instances σ kids) → In x.0 (places_in kids)) → (In x (instances σ rest) → In x.0 (places_in rest)) → (x.0 ≡ p) ⊎ In x.0 (places_in kids ++ places_in rest)
    go (inl n) f g = inl (in_row x p 0 (length (symbol σ (rule σ r).left).attributes) n).0
    go (inr n) f g = inr (elim (in_cases x (instances σ kids) (instances σ rest) n)
        [ inl k ↦ in_left x.0 (places_in kids) (places_in rest) (f k) | inr k ↦ in_right x.0 (places_in kids) (places_in rest) (g k) ])

-- where no place stands twice, no instance does
pub apart_instances : (σ : Grammar) (f : Forest) → Apart (places_in f) → Apart (instances σ f)
apart_instances σ none a = tt
apart_instances σ (node p r c kids rest) (n, a) =
    let q = apart_parts (places_in kids) (places_in rest) a in
    apart_append (of_node σ p r) (instances σ kids ++ instances σ rest)
    (apart_row p 0 (length (symbol σ (rule σ r).left).attributes))
    (apart_append (instances σ kids) (instances σ rest) (apart_instances σ kids q.0) (apart_instances σ rest q.1)
    (λ x m k. q.2 x.0 (instance_place σ x kids m) (instance_place σ x rest k)))
    (λ x m k. n (subst (λ z. In z (places_in kids ++ places_in rest)) (in_row x p 0 (length (symbol σ (rule σ r).left).attributes) m).0
    (elim (in_cases x (instances σ kids) (instances σ rest) k)
    [ inl h ↦ in_left x.0 (places_in kids) (places_in rest) (instance_place σ x kids h) | inr h ↦ in_right x.0 (places_in kids) (places_in rest) (instance_place σ x rest h) ])))

-- an instance of shown trees is an attribute of its place
pub shown_attribute : (σ : Grammar) (T : Table) (x : Instance) (f : Forest) (up : ℕ → Link) (i : ℕ) → Shows T f up i → In x (instances σ f) → x.1 < length (attributes_of σ T x.0)
shown_attribute σ T x none up i sh m = absurd m
shown_attribute σ T x (node p r c kids rest) up i (er, ec, ek, el, sk, sr) m =
    go (in_cases x (of_node σ p r) (instances σ kids ++ instances σ rest) m) (shown_attribute σ T x kids (under p) 1 sk) (shown_attribute σ T x rest up (suc i) sr)
  where
    here : In x (of_node σ p r) → x.1 < length (attributes_of σ T x.0)
    here w =
        let h = in_row x p 0 (length (symbol σ (rule σ r).left).attributes) w in
        let e : (T x.0).rule ≡ r = ap (λ z. (T z).rule) h.0 ∙ er in
        subst (λ z. x.1 < length (symbol σ (rule σ z).left).attributes) (sym e) (omega (arith, h.2))

    go : In x (of_node σ p r) ⊎ In x (instances σ kids ++ instances σ rest) → (In x (instances σ kids) → x.1 < length (attributes_of σ T x.0)) → (In x (instances σ rest) → x.1 < length (attributes_of σ T x.0)) → x.1 < length (attributes_of σ T x.0)
    go (inl w) f g = here w
    go (inr w) f g = elim (in_cases x (instances σ kids) (instances σ rest) w) [ inl k ↦ f k | inr k ↦ g k ]

pub row_in : (p a i n : ℕ) → i ≤ a → a < i + n → In (p, a) (row p i n)
row_in p a i zero l h = absurd (omega arith)
row_in p a i (suc n) l h = go (cases_order a i) (λ k. row_in p a (suc i) n k (omega arith))
  where
    go : (a ≡ i) ⊎ ((a < i) ⊎ (i < a)) → (i < a → In (p, a) (row p (suc i) n)) → (◌≡◌ {A = Instance} (p, a) (p, i)) ⊎ In (p, a) (row p (suc i) n)
    go (inl e) f = inl (ap (λ z. (p, z)) e)
    go (inr (inl k)) f = absurd (omega arith)
    go (inr (inr k)) f = inr (f k)

-- and each attribute of a place of shown trees is an instance of them
pub shown_instance : (σ : Grammar) (T : Table) (x : Instance) (f : Forest) (up : ℕ → Link) (i : ℕ) → Shows T f up i → In x.0 (places_in f) → x.1 < length (attributes_of σ T x.0) → In x (instances σ f)
shown_instance σ T x none up i sh m l = m
shown_instance σ T x (node p r c kids rest) up i (er, ec, ek, el, sk, sr) (inl e) l =
    let q : (T x.0).rule ≡ r = ap (λ z. (T z).rule) e ∙ er in
    let h : x.1 < length (symbol σ (rule σ r).left).attributes = subst (λ z. x.1 < length (symbol σ (rule σ z).left).attributes) q l in
    in_left x (of_node σ p r) (instances σ kids ++ instances σ rest)
    (subst (λ z. In x (row z 0 (length (symbol σ (rule σ r).left).attributes))) e (row_in x.0 x.1 0 (length (symbol σ (rule σ r).left).attributes) (omega arith) (omega arith)))
shown_instance σ T x (node p r c kids rest) up i (er, ec, ek, el, sk, sr) (inr m) l =
    in_right x (of_node σ p r) (instances σ kids ++ instances σ rest)
    (elim (in_cases x.0 (places_in kids) (places_in rest) m) [
      | inl k ↦ in_left x (instances σ kids) (instances σ rest) (shown_instance σ T x kids (under p) 1 sk k l)
      | inr k ↦ in_right x (instances σ kids) (instances σ rest) (shown_instance σ T x rest up (suc i) sr k l)
    ])
