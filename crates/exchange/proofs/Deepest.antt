-- The largest depth so far.
use Rattle.std.proofs.Common.{◌≡◌, ℕ, zero, suc, map, ◌+◌, ◌<◌, ◌≤◌, max, Bool, true, false, cond, ◌&&◌, eqb, leb, ◌⊎◌, List, length, Some, None, Option, sym, refl, ap, ◌∙◌, subst, ap₂, inl, inr, arith, below_more, eq-eqb, eqb-true, leb-false, leb-true}
use Rattle.std.proofs.lemmas.Bool.{and_parts}
use Rattle.std.specs.List.{fold, reduce, range_with_len}
use Rattle.std.specs.Option.{option_map, unwrap_or}
use Rattle.places.specs.Places.{used, parent_at}
use Rattle.places.specs.Shape.{top_from, depth_from}
use Rattle.places.specs.declared.node.Node.{Node}
use Rattle.exchange.specs.Heights.{depth_in, Height}
use Rattle.exchange.proofs.Climbing.{top_top, depth_top}
use Rattle.exchange.proofs.Targets.{used_within}

-- h is the largest of the first i values, or 0 if there are none
abbrev pub Largest : (ℕ → ℕ) → ℕ → ℕ → Type 0
Largest f i h = ((k : ℕ) → k < i → f k ≤ h) × ((h ≡ 0) ⊎ ((k : ℕ) × (f k ≡ h)))

pub largest_more : (f : ℕ → ℕ) (i h : ℕ) → Largest f i h → Largest f (i + 1) (max h (f i))
largest_more f i h l = (below_more (λ k. f k ≤ max h (f i)) i (λ k e. (let a = l.0 k e in omega arith)) (omega arith), by (leb (f i) h) refl l.1)
  where
    by : (b : Bool) → leb (f i) h ≡ b → (h ≡ 0) ⊎ ((k : ℕ) × (f k ≡ h)) → (max h (f i) ≡ 0) ⊎ ((k : ℕ) × (f k ≡ max h (f i)))
    by true e (inl z) = let a = leb-true (f i) h e in inl (omega arith)
    by true e (inr r) = let a = leb-true (f i) h e in inr (r.0, (let b = r.1 in omega arith))
    by false e r = let a = leb-false (f i) h e in inr (i, omega arith)

fold_most : (f : ℕ → ℕ) (n i h : ℕ) → Largest f i h → Largest f (i + n) (fold max h (map f (range_with_len i n)))
fold_most f zero i h l = subst (λ k. Largest f k h) (omega arith) l
fold_most f (suc n) i h l = subst (λ k. Largest f k (fold max (max h (f i)) (map f (range_with_len (i + 1) n)))) (omega arith) (fold_most f n (i + 1) (max h (f i)) (largest_more f i h l))

-- the largest value below n is the maximum of them in a row
pub largest_found : (f : ℕ → ℕ) (n : ℕ) (o : Option ℕ) → option_map (λ y. y) o ≡ reduce max (map f (range_with_len 0 n)) → Largest f n (unwrap_or o 0)
largest_found f zero None e = ((λ k l. absurd (omega arith)), inl refl)
largest_found f zero (Some m) e = absurd (let z : ◌≡◌ {A = ℕ} 0 1 = cc in omega arith)
largest_found f (suc n) None e = absurd (let z : ◌≡◌ {A = ℕ} 0 1 = cc in omega arith)
largest_found f (suc n) (Some m) e =
    let first : Largest f 1 (f 0) = ((λ k l. (let z : k ≡ 0 = omega arith in let s = ap f z in omega arith)), inr (0, refl)) in
    let is : m ≡ fold max (f 0) (map f (range_with_len 1 n)) = cc in
    subst (λ h. Largest f (suc n) h) (sym is) (subst (λ k. Largest f k (fold max (f 0) (map f (range_with_len 1 n)))) (omega arith) (fold_most f n 1 (f 0) first))

depth_inside : (ps : List (Option Node)) (block q : ℕ) → used ps q ≡ true → top_from ps 64 q ≡ block → depth_in ps block q ≡ depth_from ps 64 q
depth_inside ps block q u t = ap₂ (λ a b. cond (a && b) (depth_from ps 64 q) 0) u (eq-eqb (top_from ps 64 q) block t)

inside_depth : (ps : List (Option Node)) (block q h : ℕ) → depth_in ps block q ≡ h → 1 ≤ h → (used ps q ≡ true) × (top_from ps 64 q ≡ block) × (depth_from ps 64 q ≡ h)
inside_depth ps block q h e l = by (used ps q && eqb (top_from ps 64 q) block) refl
  where
    by : (b : Bool) → (used ps q && eqb (top_from ps 64 q) block) ≡ b → (used ps q ≡ true) × (top_from ps 64 q ≡ block) × (depth_from ps 64 q ≡ h)
    by true k =
        let w = and_parts (used ps q) (eqb (top_from ps 64 q) block) k in
        let t = eqb-true (top_from ps 64 q) block w.1 in
        (w.0, t, sym (depth_inside ps block q w.0 t) ∙ e)
    by false k = let z : depth_in ps block q ≡ 0 = ap (λ b. cond b (depth_from ps 64 q) 0) k in absurd (omega arith)

pub height_from : (ps : List (Option Node)) (block i h : ℕ) → used ps block ≡ true → parent_at ps block ≡ None → length ps ≤ i → Largest (depth_in ps block) i h → Height ps block h
height_from ps block i h u p e l =
    let one : 1 ≤ h = (let a = l.0 block (let w = used_within ps block u in omega arith) in let b = depth_inside ps block block u (top_top ps 63 block p) in let d = depth_top ps 63 block p in omega arith) in
    let r = by one l.1 in
    record {
      most = λ q v t. (let a = l.0 q (let w = used_within ps q v in omega arith) in let b = depth_inside ps block q v t in omega arith);
      deepest = r.0;
      there = r.1.0;
      inside = r.1.1;
      reached = r.1.2;
    }
  where
    by : 1 ≤ h → (h ≡ 0) ⊎ ((k : ℕ) × (depth_in ps block k ≡ h)) → (k : ℕ) × ((used ps k ≡ true) × (top_from ps 64 k ≡ block) × (depth_from ps 64 k ≡ h))
    by one (inl z) = absurd (omega arith)
    by one (inr r) = (r.0, inside_depth ps block r.0 h r.1 one)
