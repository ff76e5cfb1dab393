-- The tour of a tree, read off the table.
use Rattle.std.proofs.Common.{◌≡◌, ℕ, zero, suc, ◌<◌, List, [], ◌∷◌, ◌++◌, length, get_or, sym, refl, ap, subst, ap₂, inl, inr, arith}
use Rattle.tour.specs.Runs.{In}
use Rattle.grammar.specs.Model.{Grammar}
use Rattle.grammar.specs.declared.terms.Instruction.{Instruction}
use Rattle.tour.specs.Rules.{rule}
use Rattle.grammar.specs.declared.terms.Instruction.TheVariants.{Evaluate, Visit, Return}
use Rattle.tour.specs.Trees.{Instance, Forest, places, at_of, no_visit, visited_of, tours, Agrees, segment, part, up_to, behind, listed}
use Rattle.tour.specs.Trees.Forest.{none, node}
use Rattle.tour.specs.Touring.{tour}
use Rattle.tour.specs.Nodes.{Link, Table, Shows, above, Planted}
use Rattle.tour.specs.Nodes.Link.{under}
use Rattle.tour.specs.Walks.{below, deep, Within}
use Rattle.tour.proofs.Accepted.{sound_accepted}
use Rattle.tour.proofs.Ruled.{Accepted}

in_up_to : (x : Instruction) (is : List Instruction) → In x (up_to is) → In x is
in_up_to x [] m = m
in_up_to x (Evaluate o a ∷ is) (inl e) = inl e
in_up_to x (Evaluate o a ∷ is) (inr m) = inr (in_up_to x is m)
in_up_to x (Visit k j ∷ is) (inl e) = inl e
in_up_to x (Visit k j ∷ is) (inr m) = inr (in_up_to x is m)
in_up_to x (Return j ∷ is) m = absurd m

in_behind : (x : Instruction) (is : List Instruction) → In x (behind is) → In x is
in_behind x [] m = m
in_behind x (Evaluate o a ∷ is) m = inr (in_behind x is m)
in_behind x (Visit k j ∷ is) m = inr (in_behind x is m)
in_behind x (Return j ∷ is) m = inr m

in_part : (x : Instruction) (k : ℕ) (is : List Instruction) → In x (part k is) → In x is
in_part x zero is m = in_up_to x is m
in_part x (suc k) is m = in_behind x is (in_part x k (behind is) m)

pub in_segment : (x : Instruction) (j : ℕ) (is : List Instruction) → In x (segment j is) → In x is
in_segment x zero is m = absurd m
in_segment x (suc k) is m = in_part x k is m

listed_same : (at : ℕ → ℕ) (v w : ℕ → ℕ → List Instance) (is : List Instruction) → ((k j : ℕ) → In (Visit k j) is → v k j ≡ w k j) → listed at v is ≡ listed at w is
listed_same at v w [] e = refl
listed_same at v w (Evaluate o a ∷ is) e = ap (λ z. (at o, a) ∷ z) (listed_same at v w is (λ k j m. e k j (inr m)))
listed_same at v w (Visit k j ∷ is) e = ap₂ (λ y z. y ++ z) (e k j (inl refl)) (listed_same at v w is (λ k j m. e k j (inr m)))
listed_same at v w (Return j ∷ is) e = listed_same at v w is (λ k j m. e k j (inr m))

module _ (σ : Grammar) (T : Table) (ac : Accepted σ) where
  pub deep_shown : (f : Forest) (xs : List ℕ) (up : ℕ → Link) (i d : ℕ) → Shows T f up i → Agrees σ f xs → Within f d → (k : ℕ) → k < length xs → (j : ℕ) → deep σ T d (get_or (places f) k 0) j ≡ get_or (tours σ f) k no_visit j
  deep_shown none [] up i d sh ag wi k h j = absurd (omega arith)
  deep_shown none (x ∷ xs) up i d sh ag wi k h j = absurd ag
  deep_shown (node p r c kids rest) [] up i d sh ag wi k h j = absurd ag
  deep_shown (node p r c kids rest) (x ∷ xs) up i zero sh ag wi k h j = absurd wi
  deep_shown (node p r c kids rest) (x ∷ xs) up i (suc d) (er, ec, ek, el, sk, sr) (l, e, ag, ag') (wk, wr) zero h j =
      subst (λ z. listed (at_of p (T p).kids) (below (deep σ T d) (T p).kids) (segment j (rule σ z).plan) ≡ listed (at_of p (places kids)) (visited_of (tours σ kids)) (segment j (rule σ r).plan)) (sym er)
      (subst (λ z. listed (at_of p z) (below (deep σ T d) z) (segment j (rule σ r).plan) ≡ listed (at_of p (places kids)) (visited_of (tours σ kids)) (segment j (rule σ r).plan)) (sym ek)
      (listed_same (at_of p (places kids)) (below (deep σ T d) (places kids)) (visited_of (tours σ kids)) (segment j (rule σ r).plan) (λ k i m. one k i (in_segment (Visit k i) j (rule σ r).plan m) (deep_shown kids (rule σ r).right (under p) 1 d sk ag wk))))
    where
      one : (k i : ℕ) → In (Visit k i) (rule σ r).plan → ((k : ℕ) → k < length (rule σ r).right → (j : ℕ) → deep σ T d (get_or (places kids) k 0) j ≡ get_or (tours σ kids) k no_visit j) → below (deep σ T d) (places kids) k i ≡ visited_of (tours σ kids) k i
      one zero i m f = refl
      one (suc k) i m f = f k (let w = (ac.rules r l).0.visits_there (suc k) i m in omega arith) i
  deep_shown (node p r c kids rest) (x ∷ xs) up i (suc d) (er, ec, ek, el, sk, sr) (l, e, ag, ag') (wk, wr) (suc k) h j = deep_shown rest xs up (suc i) (suc d) sr ag' wr k (omega arith) j

pub deep_tour : (σ : Grammar) (T : Table) (t : Forest) (d : ℕ) → Planted σ T t → Within t d → deep σ T d (get_or (places t) 0 0) 1 ≡ tour σ t
deep_tour σ T t d pl wi = deep_shown σ T (sound_accepted σ pl.sound) t (0 ∷ []) above 0 d pl.shown pl.agrees wi 0 (omega arith) 1
