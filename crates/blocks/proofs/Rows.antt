-- How a row of trees is read, a tree at a time.
use Rattle.std.proofs.Common.{◌≡◌, ℕ, suc, ◌+◌, ◌<◌, ◌≤◌, max, true, ◌&&◌, leb, List, [], ◌∷◌, ◌++◌, length, replicate, Some, None, sym, refl, ap, ◌∙◌, ap₂, le_trans, le_antisymm, arith}
use native.Mathlib.Nat.{zero-max, max-zero, le-max_left, le-max_right, max-le}
use Rattle.std.proofs.lemmas.Bool.{lt-ltb, eq-eqb}
use Rattle.grammar.specs.Model.{Grammar}
use Rattle.tour.specs.Rules.{rule}
use Rattle.tour.specs.Blocks.{reads}
use Rattle.blocks.specs.Block.{pairs, deepest, if_not, tree_fault}
use Rattle.places.specs.Kinds.{Known}
use Rattle.blocks.specs.Rows.{NoRow, Row}
use Rattle.blocks.specs.declared.piece.Piece.{Piece}
use Rattle.blocks.specs.declared.piece.BlockFault.TheVariants.{Form, Depth}

max_assoc : (a b c : ℕ) → max (max a b) c ≡ max a (max b c)
max_assoc a b c = le_antisymm
    (max-le (max-le (le-max_left a (max b c)) (le_trans (le-max_left b c) (le-max_right a (max b c)))) (le_trans (le-max_right b c) (le-max_right a (max b c))))
    (max-le (le_trans (le-max_left a b) (le-max_left (max a b) c)) (max-le (le_trans (le-max_right a b) (le-max_left (max a b) c)) (le-max_right (max a b) c)))

module _ (g : Grammar) where
  pub row_none : (xs : List ℕ) (d : ℕ) (bs : List Piece) → length xs < 1 → Row g xs d bs 0 bs
  row_none [] d bs l = record { read = λ ys. refl; depth = λ ds. sym (zero-max (deepest g ds (pairs bs))); shorter = omega arith }
  row_none (x ∷ xs) d bs l = absurd (omega arith)

  pub row_ended : (xs : List ℕ) (bs : List Piece) → 1 ≤ length xs → length bs < 1 → NoRow g xs bs
  row_ended [] bs l k = absurd (omega arith)
  row_ended (x ∷ xs) [] l k = λ ys. refl
  row_ended (x ∷ xs) (b ∷ bs) l k = absurd (omega arith)

  -- a piece of the right symbol is read, and then the row of its children
  piece_read : (b : Piece) (bs : List Piece) (x y : ℕ) (xs right : List ℕ) (n : ℕ) → Known g b.rule y right n → y ≡ x → reads g (x ∷ xs) (pairs (b ∷ bs)) ≡ reads g (right ++ xs) (pairs bs)
  piece_read b bs x y xs right n k same =
      ap₂ (λ a e. a && (e && reads g ((rule g b.rule).right ++ xs) (pairs bs))) (lt-ltb b.rule (length g.rules) k.there) (eq-eqb (rule g b.rule).left x (k.left_is ∙ same))
      ∙ ap (λ z. reads g (z ++ xs) (pairs bs)) k.right_is

  piece_deep : (b : Piece) (bs : List Piece) (x y d : ℕ) (ds right : List ℕ) (n : ℕ) → Known g b.rule y right n → y ≡ x → deepest g (d ∷ ds) (pairs (b ∷ bs)) ≡ max d (deepest g (replicate (length right) (d + 1) ++ ds) (pairs bs))
  piece_deep b bs x y d ds right n k same =
      let e : suc d ≡ d + 1 = omega arith in
      ap₂ (λ z e. max d (deepest g (replicate (length z) e ++ ds) (pairs bs))) k.right_is e

  pub no_row_below : (xs : List ℕ) (bs : List Piece) (x y n : ℕ) (others right : List ℕ) (b : Piece) (rest : List Piece) → xs ≡ x ∷ others → bs ≡ b ∷ rest → Known g b.rule y right n → y ≡ x → NoRow g right rest → NoRow g xs bs
  no_row_below xs bs x y n others right b rest e f k same no_row ys =
      ap₂ (λ u v. reads g (u ++ ys) (pairs v)) e f ∙ piece_read b rest x y (others ++ ys) right n k same ∙ no_row (others ++ ys)

  pub no_row_beside : (xs : List ℕ) (bs : List Piece) (x y n d m : ℕ) (others right : List ℕ) (b : Piece) (rest behind : List Piece) → xs ≡ x ∷ others → bs ≡ b ∷ rest → Known g b.rule y right n → y ≡ x → Row g right d rest m behind → NoRow g others behind → NoRow g xs bs
  no_row_beside xs bs x y n d m others right b rest behind e f k same row no_row ys =
      ap₂ (λ u v. reads g (u ++ ys) (pairs v)) e f ∙ piece_read b rest x y (others ++ ys) right n k same ∙ row.read (others ++ ys) ∙ no_row ys

  pub row_more : (xs : List ℕ) (bs : List Piece) (x y n d m m' : ℕ) (others right : List ℕ) (b : Piece) (rest behind after : List Piece) → xs ≡ x ∷ others → bs ≡ b ∷ rest → Known g b.rule y right n → y ≡ x → Row g right (d + 1) rest m behind → Row g others d behind m' after
      → Row g xs d bs (max (max d m) m') after
  row_more xs bs x y n d m m' others right b rest behind after e f k same row row' = record {
    read = λ ys. ap₂ (λ u v. reads g (u ++ ys) (pairs v)) e f ∙ piece_read b rest x y (others ++ ys) right n k same ∙ row.read (others ++ ys) ∙ row'.read ys;
    depth = λ ds.
        ap₂ (λ u v. deepest g (replicate (length u) d ++ ds) (pairs v)) e f
        ∙ piece_deep b rest x y d (replicate (length others) d ++ ds) right n k same
        ∙ ap (max d) (row.depth (replicate (length others) d ++ ds) ∙ ap (max m) (row'.depth ds))
        ∙ sym (max_assoc (max d m) m' (deepest g ds (pairs after)) ∙ max_assoc d m (max m' (deepest g ds (pairs after))));
    shorter = omega (arith, ap length f, row.shorter, row'.shorter);
  }

  -- one tree and nothing behind it
  pub tree_fault_lem : (x m : ℕ) (bs rest : List Piece) → Row g (x ∷ []) 1 bs m rest → length rest < 1 → if_not (leb m 64) Depth None ≡ tree_fault g x bs
  tree_fault_lem x m bs [] row l =
      let e : reads g (x ∷ []) (pairs bs) ≡ true = row.read [] in
      let f : deepest g (1 ∷ []) (pairs bs) ≡ m = row.depth [] ∙ max-zero m in
      sym (ap₂ (λ a d. if_not a Form (if_not (leb d 64) Depth None)) e f)
  tree_fault_lem x m bs (b ∷ rest) row l = absurd (omega arith)

  pub left_over : (x m : ℕ) (bs rest : List Piece) → Row g (x ∷ []) 1 bs m rest → 1 ≤ length rest → Some Form ≡ tree_fault g x bs
  left_over x m bs [] row l = absurd (omega arith)
  left_over x m bs (b ∷ rest) row l = sym (ap (λ a. if_not a Form (if_not (leb (deepest g (1 ∷ []) (pairs bs)) 64) Depth None)) (row.read []))

  pub no_tree : (x : ℕ) (bs : List Piece) → NoRow g (x ∷ []) bs → Some Form ≡ tree_fault g x bs
  no_tree x bs no_row = sym (ap (λ a. if_not a Form (if_not (leb (deepest g (1 ∷ []) (pairs bs)) 64) Depth None)) (no_row []))
