-- The values of a block are set piece by piece.
use Rattle.std.proofs.Common.{◌≡◌, ℕ, zero, suc, ◌+◌, ◌*◌, ◌<◌, ◌≤◌, true, ◌&&◌, eqb, ltb, List, [], ◌∷◌, ◌++◌, length, get_or, take, drop, set, Option, sym, refl, ap, ◌∙◌, ap₂, add-one, arith}
use mathlib.Core.Bool.{false≢true}
use Rattle.std.proofs.lemmas.List.{drop_more, drop_all, length-take-le, set-append_left, set-append_right}
use borrow.Rule.Slice.PartMut.{put_mid, post_of}
use Rattle.std.proofs.lemmas.Bool.{and_parts, ltb-true}
use Rattle.grammar.specs.Model.{Grammar}
use Rattle.tour.specs.Rules.{rule}
use Rattle.tour.specs.Blocks.{reads}
use Rattle.places.specs.Places.{attributes}
use Rattle.places.specs.declared.node.Node.{Node}
use Rattle.blocks.specs.Blank.{blank_row, blanked}
use Rattle.blocks.specs.Block.{pairs}
use Rattle.places.specs.Totals.{free}
use Rattle.blocks.specs.Taken.{taken}
use Rattle.blocks.specs.declared.piece.Piece.{Piece}

-- the rules of a block that is read are known
pub reads_known : (g : Grammar) (xs : List ℕ) (bs : List Piece) (i : ℕ) (d : Piece) → reads g xs (pairs bs) ≡ true → i < length bs → (get_or bs i d).rule < length g.rules
reads_known g xs [] i d e l = absurd (omega arith)
reads_known g [] (b ∷ bs) i d e l = absurd (false≢true e)
reads_known g (x ∷ xs) (b ∷ bs) i d e l =
    let a = and_parts (ltb b.rule (length g.rules)) (eqb (rule g b.rule).left x && reads g ((rule g b.rule).right ++ xs) (pairs bs)) e in
    let h = and_parts (eqb (rule g b.rule).left x) (reads g ((rule g b.rule).right ++ xs) (pairs bs)) a.1 in
    by i l (ltb-true b.rule (length g.rules) a.0) (λ j k. reads_known g ((rule g b.rule).right ++ xs) bs j d h.1 k)
  where
    by : (i : ℕ) → i < length (b ∷ bs) → b.rule < length g.rules → ((j : ℕ) → j < length bs → (get_or bs j d).rule < length g.rules) → (get_or (b ∷ bs) i d).rule < length g.rules
    by zero l here later = here
    by (suc j) l here later = later j (omega arith)

module _ {V : Type 0} (g : Grammar) (v : V) where
  -- one more value of the part of the table that belongs to a place
  pub row_more : (p k n : ℕ) (vs part : List V) → 16 * p ≤ length vs → n < length part → put_mid (16 * p) k vs part ≡ blank_row v p n vs → put_mid (16 * p) k vs (set part n v) ≡ blank_row v p (n + 1) vs
  row_more p k n vs part l m e =
      let a = 16 * p in
      let post = post_of a k vs in
      ap (λ z. take a vs ++ z) (sym (set-append_left part post n v m))
      ∙ ap (λ j. take a vs ++ set (part ++ post) j v) (omega arith)
      ∙ sym (set-append_right (take a vs) (part ++ post) a (a + n) v (length-take-le a vs l) (omega arith))
      ∙ ap (λ z. set z (a + n) v) e
      ∙ ap (λ m. blank_row v p m vs) (sym (add-one n))

  pub blanked_nowhere : (bs : List Piece) (qs : List ℕ) (vs : List V) → qs ≡ [] → blanked g v bs qs vs ≡ vs
  blanked_nowhere bs (q ∷ qs) vs e = absurd (omega (arith, ap length e))
  blanked_nowhere [] [] vs e = refl
  blanked_nowhere (b ∷ bs) [] vs e = refl

  pub blanked_step : (bs : List Piece) (i : ℕ) (d : Piece) (qs rest : List ℕ) (q n : ℕ) (vs : List V) → i < length bs → qs ≡ q ∷ rest → attributes g (get_or bs i d).rule ≡ n
      → blanked g v (drop i bs) qs vs ≡ blanked g v (drop (i + 1) bs) rest (blank_row v q n vs)
  blanked_step bs i d qs rest q n vs l e m =
      ap₂ (λ a b. blanked g v a b vs) (drop_more bs i d l) e ∙ ap (λ k. blanked g v (drop (i + 1) bs) rest (blank_row v q k vs)) m

  pub blanked_end : (bs : List Piece) (i : ℕ) (qs : List ℕ) (vs : List V) → length bs ≤ i → blanked g v (drop i bs) qs vs ≡ vs
  blanked_end bs i qs vs l = ap (λ z. blanked g v z qs vs) (drop_all i bs l)

  -- only as many places count as there are pieces
  blanked_take : (bs : List Piece) (qs : List ℕ) (vs : List V) → blanked g v bs (take (length bs) qs) vs ≡ blanked g v bs qs vs
  blanked_take [] qs vs = refl
  blanked_take (b ∷ bs) [] vs = refl
  blanked_take (b ∷ bs) (q ∷ qs) vs = blanked_take bs qs (blank_row v q (attributes g b.rule) vs)

  pub blanked_taken : (bs : List Piece) (ps : List (Option Node)) (vs : List V) → blanked g v bs (taken ps (length bs)) vs ≡ blanked g v bs (free ps) vs
  unfolding taken
  blanked_taken bs ps vs = blanked_take bs (free ps) vs
