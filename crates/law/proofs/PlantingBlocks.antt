-- The tree of an accepted block finds room in the table.
use Rattle.std.proofs.Common.{◌≡◌, ℕ, zero, suc, ◌≤◌, ◌⊎◌, List, [], ◌∷◌, ◌++◌, length, count_by, Option, sym, ap, ◌∙◌, subst, inl, inr, append_assoc}
use Rattle.grammar.specs.Model.{Grammar}
use Rattle.tour.specs.Blocks.{pieces}
use Rattle.tour.specs.Rules.{rule}
use Rattle.tour.specs.Runs.{In, Apart}
use Rattle.tour.specs.Trees.{Forest, Agrees}
use Rattle.tour.specs.Trees.Forest.{none, node}
use Rattle.tour.specs.Walks.{Within}
use Rattle.tour.proofs.Lists.{head_same, tail_same}
use Rattle.places.specs.declared.node.Node.{Node}
use Rattle.places.specs.Totals.{is_free}
use Rattle.places.proofs.Counting.{free_length}
use Rattle.blocks.specs.Taken.{TakenLaw}
use Rattle.law.specs.Handed.{Piece}
use Rattle.law.specs.Conditions.{TooDeep}
use Rattle.law.specs.Calls.{NewTree}
use Rattle.law.proofs.LayingSound.{Room}

-- whether the paths of trees are short can be told
pub within_either : (f : Forest) (d : ℕ) → Within f d ⊎ (Within f d → ⊥)
within_either none d = inl tt
within_either (node p r c kids rest) zero = inr (λ w. w)
within_either (node p r c kids rest) (suc d) = go (within_either kids d) (within_either rest (suc d))
  where
    go : Within kids d ⊎ (Within kids d → ⊥) → Within rest (suc d) ⊎ (Within rest (suc d) → ⊥) → Within (node p r c kids rest) (suc d) ⊎ (Within (node p r c kids rest) (suc d) → ⊥)
    go (inl a) (inl b) = inl (a, b)
    go (inl a) (inr n) = inr (λ w. n w.1)
    go (inr n) b = inr (λ w. n w.0)

module _ (σ : Grammar) where
  deeper : (p r c p' r' c' d : ℕ) (kids rest kids' rest' : Forest) → ((e : ℕ) → Within kids e → Within kids' e) → ((e : ℕ) → Within rest e → Within rest' e) → Within (node p r c kids rest) d → Within (node p' r' c' kids' rest') d
  deeper p r c p' r' c' zero kids rest kids' rest' a b w = w
  deeper p r c p' r' c' (suc d) kids rest kids' rest' a b w = (a d w.0, b (suc d) w.1)

  -- the same for rows of trees, with what stands behind them
  within_row : (f h : Forest) (xs : List ℕ) (bs cs : List (ℕ × ℕ)) → Agrees σ f xs → Agrees σ h xs → pieces f ++ bs ≡ pieces h ++ cs → ((d : ℕ) → Within f d → Within h d) × (bs ≡ cs)
  within_row none none xs bs cs ag ah e = ((λ d w. tt), e)
  within_row none (node p r c kids rest) [] bs cs ag ah e = absurd ah
  within_row none (node p r c kids rest) (x ∷ xs) bs cs ag ah e = absurd ag
  within_row (node p r c kids rest) none [] bs cs ag ah e = absurd ag
  within_row (node p r c kids rest) none (x ∷ xs) bs cs ag ah e = absurd ah
  within_row (node p r c kids rest) (node p' r' c' kids' rest') [] bs cs ag ah e = absurd ag
  within_row (node p r c kids rest) (node p' r' c' kids' rest') (x ∷ xs) bs cs (l, s, ag, ag') (l', s', ah, ah') e =
      let er : r ≡ r' = ap (λ z. z.0) (head_same (r, c) (r', c') ((pieces kids ++ pieces rest) ++ bs) ((pieces kids' ++ pieces rest') ++ cs) e) in
      let et : pieces kids ++ (pieces rest ++ bs) ≡ pieces kids' ++ (pieces rest' ++ cs) = sym (append_assoc (pieces kids) (pieces rest) bs) ∙ tail_same (r, c) (r', c') ((pieces kids ++ pieces rest) ++ bs) ((pieces kids' ++ pieces rest') ++ cs) e ∙ append_assoc (pieces kids') (pieces rest') cs in
      let k = within_row kids kids' (rule σ r).right (pieces rest ++ bs) (pieces rest' ++ cs) ag (subst (λ z. Agrees σ kids' (rule σ z).right) (sym er) ah) et in
      let m = within_row rest rest' xs bs cs ag' ah' k.1 in
      ((λ d. deeper p r c p' r' c' d kids rest kids' rest' k.0 m.0), m.1)

  -- the pieces of a tree tell its symbol
  pub same_symbol : (f h : Forest) (x y : ℕ) → Agrees σ f (x ∷ []) → Agrees σ h (y ∷ []) → pieces f ≡ pieces h → x ≡ y
  same_symbol none h x y ag ah e = absurd ag
  same_symbol (node p r c kids rest) none x y ag ah e = absurd ah
  same_symbol (node p r c kids rest) (node p' r' c' kids' rest') x y (l, s, ag, ag') (l', s', ah, ah') e =
      let er : r ≡ r' = ap (λ z. z.0) (head_same (r, c) (r', c') (pieces kids ++ pieces rest) (pieces kids' ++ pieces rest') e) in
      sym s ∙ ap (λ z. (rule σ z).left) er ∙ s'

  -- trees with the same pieces go as deep
  pub pieces_within : (f h : Forest) (x y d : ℕ) → Agrees σ f (x ∷ []) → Agrees σ h (y ∷ []) → pieces f ≡ pieces h → Within f d → Within h d
  pieces_within f h x y d ag ah e w =
      let s = same_symbol f h x y ag ah e in
      (within_row f h (y ∷ []) [] [] (subst (λ z. Agrees σ f (z ∷ [])) s ag) ah (ap (λ z. z ++ []) e)).0 d w

  -- a block that is not too deep has a tree that is not
  pub shallow_within : (x : ℕ) (b : List Piece) (f : Forest) → (TooDeep σ b → ⊥) → Agrees σ f (x ∷ []) → pieces f ≡ b → Within f 64
  shallow_within x b f n ag e = elim (within_either f 64) [
    | inl w ↦ w
    | inr k ↦ absurd (n (λ y h ah eh wh. k (pieces_within h f y x 64 ah ag (eh ∙ sym e) wh)))
  ]

-- an accepted block has room at the places that it takes
pub new_room : TakenLaw → (g : Grammar) (x : ℕ) (b : List Piece) (ps qs : List (Option Node)) (f : Forest) → NewTree g x b ps qs f → (TooDeep g b → ⊥) → length b ≤ count_by is_free ps → Room g ps x f
new_room tl g x b ps qs f nt n l =
    let k = tl ps (length b) (subst (λ z. length b ≤ z) (sym (free_length 0 ps)) l) in
    record {
      agrees = nt.agrees;
      apart = subst Apart (sym nt.in_places) k.apart;
      inside = λ p m. k.inside p (subst (In p) nt.in_places m);
      free = λ p m. k.free_so_far p (subst (In p) nt.in_places m);
      depth = shallow_within g x b f n nt.agrees nt.block;
    }
