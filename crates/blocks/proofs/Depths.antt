-- How deep trees are read is how deep they are.
use Rattle.std.proofs.Common.{◌≡◌, ℕ, zero, suc, ◌+◌, ◌≤◌, List, [], ◌∷◌, ◌++◌, length, replicate, sym, subst, append_assoc, le_trans, arith}
use native.Mathlib.Nat.{le-max_left, le-max_right, max-le}
use Rattle.grammar.specs.Model.{Grammar}
use Rattle.tour.specs.Rules.{rule}
use Rattle.tour.specs.Trees.{Forest, Agrees}
use Rattle.tour.specs.Trees.Forest.{none, node}
use Rattle.tour.specs.Blocks.{pieces}
use Rattle.tour.specs.Walks.{Within}
use Rattle.places.specs.Places.{arity}
use Rattle.blocks.specs.Block.{deepest}

module _ (g : Grammar) where
  -- trees that are read no deeper than m
  pub within : (f : Forest) (xs : List ℕ) (d n m : ℕ) (ds : List ℕ) (bs : List (ℕ × ℕ)) → d + n ≡ suc m → Agrees g f xs → deepest g (replicate (length xs) d ++ ds) (pieces f ++ bs) ≤ m → Within f n × (deepest g ds bs ≤ m)
  within none [] d n m ds bs e ag l = (tt, l)
  within none (x ∷ xs) d n m ds bs e ag l = absurd ag
  within (node p r c kids rest) [] d n m ds bs e ag l = absurd ag
  within (node p r c kids rest) (x ∷ xs) d zero m ds bs e ag l = absurd (omega (arith, le_trans (le-max_left d _) l))
  within (node p r c kids rest) (x ∷ xs) d (suc n) m ds bs e ag l =
      let below : deepest g (replicate (arity g r) (suc d) ++ (replicate (length xs) d ++ ds)) ((pieces kids ++ pieces rest) ++ bs) ≤ m = le_trans (le-max_right d _) l in
      let k = within kids (rule g r).right (suc d) n m (replicate (length xs) d ++ ds) (pieces rest ++ bs) (omega arith) ag.2 (subst (λ z. deepest g (replicate (arity g r) (suc d) ++ (replicate (length xs) d ++ ds)) z ≤ m) (append_assoc (pieces kids) (pieces rest) bs) below) in
      let w = within rest xs d (suc n) m ds bs e ag.3 k.1 in
      ((k.0, w.0), w.1)

  pub no_deeper : (f : Forest) (xs : List ℕ) (d n m : ℕ) (ds : List ℕ) (bs : List (ℕ × ℕ)) → d + n ≡ suc m → Agrees g f xs → Within f n → deepest g ds bs ≤ m → deepest g (replicate (length xs) d ++ ds) (pieces f ++ bs) ≤ m
  no_deeper none [] d n m ds bs e ag w l = l
  no_deeper none (x ∷ xs) d n m ds bs e ag w l = absurd ag
  no_deeper (node p r c kids rest) [] d n m ds bs e ag w l = absurd ag
  no_deeper (node p r c kids rest) (x ∷ xs) d zero m ds bs e ag w l = absurd w
  no_deeper (node p r c kids rest) (x ∷ xs) d (suc n) m ds bs e ag w l =
      let beside = no_deeper rest xs d (suc n) m ds bs e ag.3 w.1 l in
      let below = no_deeper kids (rule g r).right (suc d) n m (replicate (length xs) d ++ ds) (pieces rest ++ bs) (omega arith) ag.2 w.0 beside in
      max-le (omega arith) (subst (λ z. deepest g (replicate (arity g r) (suc d) ++ (replicate (length xs) d ++ ds)) z ≤ m) (sym (append_assoc (pieces kids) (pieces rest) bs)) below)
