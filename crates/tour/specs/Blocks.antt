-- A block: the nodes of trees in preorder, each with its rule and the code of its datum.
use Rattle.std.specs.Prelude.{◌≡◌, ℕ, Bool, true, false, ◌&&◌, List, [], ◌∷◌, ◌++◌, length, ◌==◌, nat_lt}
use Rattle.grammar.specs.Model.{Grammar}
use Rattle.tour.specs.Rules.{rule}
use Rattle.tour.specs.Trees.{Forest, Agrees, places_in}
use Rattle.tour.specs.Trees.Forest.{none, node}

abbrev pub pieces : Forest → List (ℕ × ℕ)
pieces none = []
pieces (node p r c kids rest) = (r, c) ∷ (pieces kids ++ pieces rest)

-- it is read against the symbols still to come: each node has a rule of the next one, whose right symbols come then
abbrev pub reads : Grammar → List ℕ → List (ℕ × ℕ) → Bool
reads σ [] [] = true
reads σ [] (b ∷ bs) = false
reads σ (x ∷ xs) [] = false
reads σ (x ∷ xs) ((r, c) ∷ bs) = nat_lt r (length σ.rules) && ((rule σ r).left == x && reads σ ((rule σ r).right ++ xs) bs)

-- trees of the symbols xs whose block is bs, at the places ps
pub record Means (σ : Grammar) (xs : List ℕ) (bs : List (ℕ × ℕ)) (ps : List ℕ) (f : Forest) : Type 0 where
  pub agrees : Agrees σ f xs
  pub block : pieces f ≡ bs
  pub at : places_in f ≡ ps

-- just the blocks that are read mean trees, at any places as many as they have nodes, and they mean one row of trees
pub record BlockLaw : Type 0 where
  pub read : (σ : Grammar) (xs : List ℕ) (bs : List (ℕ × ℕ)) (ps : List ℕ) (f : Forest) → Means σ xs bs ps f → reads σ xs bs ≡ true
  pub means :
      (σ : Grammar) (xs : List ℕ) (bs : List (ℕ × ℕ)) (ps : List ℕ) → length ps ≡ length bs → reads σ xs bs ≡ true →
      (f : Forest) × Means σ xs bs ps f
  pub one : (σ : Grammar) (xs : List ℕ) (bs : List (ℕ × ℕ)) (ps : List ℕ) (f g : Forest) → Means σ xs bs ps f → Means σ xs bs ps g → f ≡ g
