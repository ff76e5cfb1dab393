-- A block read in preorder means one row of trees.
use Rattle.std.proofs.Common.{◌≡◌, ℕ, true, ◌&&◌, eqb, ltb, List, [], ◌∷◌, ◌++◌, length, sym, refl, ap, ◌∙◌, subst, ap₂, append_assoc, append-nil, arith}
use mathlib.Core.Bool.{false≢true}
use Rattle.grammar.specs.Model.{Grammar}
use Rattle.tour.specs.Rules.{rule}
use Rattle.tour.specs.Trees.{Forest, Agrees, places_in}
use Rattle.tour.specs.Trees.Forest.{none, node}
use Rattle.tour.specs.Blocks.{pieces, reads, Means, BlockLaw}
use Rattle.tour.proofs.Lists.{head_same, tail_same}
use Rattle.std.proofs.lemmas.Bool.{and_parts, lt-ltb, ltb-true, eq-eqb, eqb-true}

module _ (σ : Grammar) where
  -- trees that agree are read, and what stands behind them is left
  reads_over : (f : Forest) (xs ys : List ℕ) (bs : List (ℕ × ℕ)) → Agrees σ f xs → reads σ (xs ++ ys) (pieces f ++ bs) ≡ reads σ ys bs
  reads_over none [] ys bs ag = refl
  reads_over none (x ∷ xs) ys bs ag = absurd ag
  reads_over (node p r c kids rest) [] ys bs ag = absurd ag
  reads_over (node p r c kids rest) (x ∷ xs) ys bs (l, e, ag, ag') =
      ap₂ (λ a b. a && (b && reads σ ((rule σ r).right ++ (xs ++ ys)) ((pieces kids ++ pieces rest) ++ bs))) (lt-ltb r (length σ.rules) l) (eq-eqb (rule σ r).left x e)
      ∙ ap (reads σ ((rule σ r).right ++ (xs ++ ys))) (append_assoc (pieces kids) (pieces rest) bs)
      ∙ reads_over kids (rule σ r).right (xs ++ ys) (pieces rest ++ bs) ag
      ∙ reads_over rest xs ys bs ag'

  pub means_reads : (xs : List ℕ) (bs : List (ℕ × ℕ)) (ps : List ℕ) (f : Forest) → Means σ xs bs ps f → reads σ xs bs ≡ true
  means_reads xs bs ps f m =
      subst (λ z. reads σ xs z ≡ true) m.block
      (ap₂ (reads σ) (sym (append-nil xs)) (sym (append-nil (pieces f))) ∙ reads_over f xs [] [] m.agrees)

  -- trees for a row of symbols, taken apart
  parted : (xs ys : List ℕ) (f : Forest) → Agrees σ f (xs ++ ys) → (g : Forest) × (h : Forest) × Agrees σ g xs × Agrees σ h ys × (pieces f ≡ pieces g ++ pieces h) × (places_in f ≡ places_in g ++ places_in h)
  parted [] ys f ag = (none, f, tt, ag, refl, refl)
  parted (x ∷ xs) ys none ag = absurd ag
  parted (x ∷ xs) ys (node p r c kids rest) (l, e, ag, ag') =
      let w = parted xs ys rest ag' in (
        node p r c kids w.0,
        w.1,
        (l, e, ag, w.2),
        w.3,
        ap (λ z. (r, c) ∷ z) (ap (λ z. pieces kids ++ z) w.4 ∙ sym (append_assoc (pieces kids) (pieces w.0) (pieces w.1))),
        ap (λ z. p ∷ z) (ap (λ z. places_in kids ++ z) w.5 ∙ sym (append_assoc (places_in kids) (places_in w.0) (places_in w.1))),
      )

  -- what is read means trees, at any places
  pub reads_means : (bs : List (ℕ × ℕ)) (xs ps : List ℕ) → length ps ≡ length bs → reads σ xs bs ≡ true → (f : Forest) × Means σ xs bs ps f
  reads_means [] [] [] l e = (none, record { agrees = tt; block = refl; at = refl })
  reads_means [] [] (p ∷ ps) l e = absurd (omega arith)
  reads_means [] (x ∷ xs) ps l e = absurd (false≢true e)
  reads_means (b ∷ bs) [] ps l e = absurd (false≢true e)
  reads_means ((r, c) ∷ bs) (x ∷ xs) [] l e = absurd (omega arith)
  reads_means ((r, c) ∷ bs) (x ∷ xs) (p ∷ ps) l e =
      let a = and_parts (ltb r (length σ.rules)) (eqb (rule σ r).left x && reads σ ((rule σ r).right ++ xs) bs) e in
      let b = and_parts (eqb (rule σ r).left x) (reads σ ((rule σ r).right ++ xs) bs) a.1 in
      let m = reads_means bs ((rule σ r).right ++ xs) ps (omega arith) b.1 in
      let w = parted (rule σ r).right xs m.0 m.1.agrees in (
        node p r c w.0 w.1,
        record {
          agrees = (ltb-true r (length σ.rules) a.0, eqb-true (rule σ r).left x b.0, w.2, w.3);
          block = ap (λ z. (r, c) ∷ z) (sym w.4 ∙ m.1.block);
          at = ap (λ z. p ∷ z) (sym w.5 ∙ m.1.at);
        },
      )

  -- no more than one row of trees
  one_row : (f g : Forest) (xs : List ℕ) (bs cs : List (ℕ × ℕ)) (ps qs : List ℕ) → Agrees σ f xs → Agrees σ g xs → pieces f ++ bs ≡ pieces g ++ cs → places_in f ++ ps ≡ places_in g ++ qs → (f ≡ g) × (bs ≡ cs) × (ps ≡ qs)
  one_row none none xs bs cs ps qs ag ah e w = (refl, e, w)
  one_row none (node p r c kids rest) [] bs cs ps qs ag ah e w = absurd ah
  one_row none (node p r c kids rest) (x ∷ xs) bs cs ps qs ag ah e w = absurd ag
  one_row (node p r c kids rest) none [] bs cs ps qs ag ah e w = absurd ag
  one_row (node p r c kids rest) none (x ∷ xs) bs cs ps qs ag ah e w = absurd ah
  one_row (node p r c kids rest) (node p' r' c' kids' rest') [] bs cs ps qs ag ah e w = absurd ag
  one_row (node p r c kids rest) (node p' r' c' kids' rest') (x ∷ xs) bs cs ps qs (l, s, ag, ag') (l', s', ah, ah') e w =
      let er : r ≡ r' = ap (λ z. z.0) (head_same (r, c) (r', c') ((pieces kids ++ pieces rest) ++ bs) ((pieces kids' ++ pieces rest') ++ cs) e) in
      let ec : c ≡ c' = ap (λ z. z.1) (head_same (r, c) (r', c') ((pieces kids ++ pieces rest) ++ bs) ((pieces kids' ++ pieces rest') ++ cs) e) in
      let ep : p ≡ p' = head_same p p' ((places_in kids ++ places_in rest) ++ ps) ((places_in kids' ++ places_in rest') ++ qs) w in
      let et : pieces kids ++ (pieces rest ++ bs) ≡ pieces kids' ++ (pieces rest' ++ cs) = sym (append_assoc (pieces kids) (pieces rest) bs) ∙ tail_same (r, c) (r', c') ((pieces kids ++ pieces rest) ++ bs) ((pieces kids' ++ pieces rest') ++ cs) e ∙ append_assoc (pieces kids') (pieces rest') cs in
      let wt : places_in kids ++ (places_in rest ++ ps) ≡ places_in kids' ++ (places_in rest' ++ qs) = sym (append_assoc (places_in kids) (places_in rest) ps) ∙ tail_same p p' ((places_in kids ++ places_in rest) ++ ps) ((places_in kids' ++ places_in rest') ++ qs) w ∙ append_assoc (places_in kids') (places_in rest') qs in
      let k = one_row kids kids' (rule σ r).right (pieces rest ++ bs) (pieces rest' ++ cs) (places_in rest ++ ps) (places_in rest' ++ qs) ag (subst (λ z. Agrees σ kids' (rule σ z).right) (sym er) ah) et wt in
      let m = one_row rest rest' xs bs cs ps qs ag' ah' k.1 k.2 in
      (cc (er, ec, ep, k.0, m.0), m.1, m.2)

  pub means_one : (xs : List ℕ) (bs : List (ℕ × ℕ)) (ps : List ℕ) (f g : Forest) → Means σ xs bs ps f → Means σ xs bs ps g → f ≡ g
  means_one xs bs ps f g m n =
      (one_row f g xs [] [] [] [] m.agrees n.agrees (ap (λ z. z ++ []) (m.block ∙ sym n.block)) (ap (λ z. z ++ []) (m.at ∙ sym n.at))).0

pub block_law : BlockLaw
block_law = record { read = means_reads; means = λ σ xs bs ps. reads_means σ bs xs ps; one = means_one }
