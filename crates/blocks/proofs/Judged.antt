-- Just the blocks have no fault.
use Rattle.std.proofs.Common.{◌≡◌, ℕ, ◌≤◌, Bool, true, false, ◌&&◌, leb, List, [], ◌∷◌, length, replicate, None, Option, sym, refl, ap, ◌∙◌, subst, ap₂, append-nil, arith}
use Rattle.std.proofs.lemmas.List.{length-replicate}
use Rattle.std.proofs.lemmas.Bool.{and_parts, and_from, leb-true, le-leb}
use Rattle.grammar.specs.Model.{Grammar}
use Rattle.tour.specs.Trees.{places_in}
use Rattle.tour.specs.Blocks.{pieces, reads}
use Rattle.tour.proofs.Blocks.{reads_means, means_reads}
use Rattle.blocks.specs.Block.{pairs, deepest, symbol_or, if_not, tree_fault, block_fault}
use Rattle.blocks.specs.Judged.{IsBlock, JudgementLaw}
use Rattle.blocks.specs.declared.piece.Piece.{Piece}
use Rattle.blocks.specs.declared.piece.BlockFault.{BlockFault}
use Rattle.blocks.specs.declared.piece.BlockFault.TheVariants.{Length, Form, Depth}
use Rattle.blocks.proofs.Depths.{within, no_deeper}

-- a test that was passed, and what was tried next
passed : (b : Bool) (f : BlockFault) (next : Option BlockFault) → if_not b f next ≡ None → (b ≡ true) × (next ≡ None)
passed true f next e = (refl, e)
passed false f next e = let z : ◌≡◌ {A = ℕ} 0 1 = cc in absurd (omega arith)

-- what was found of pieces without a fault
pub record Faultless (g : Grammar) (x : ℕ) (bs : List Piece) : Type 0 where
  pub some_piece : 1 ≤ length bs
  pub few_pieces : length bs ≤ 1024
  pub read : reads g (x ∷ []) (pairs bs) ≡ true
  pub deep : deepest g (1 ∷ []) (pairs bs) ≤ 64

pub faultless : (g : Grammar) (first : Option ℕ) (bs : List Piece) → block_fault g first bs ≡ None → Faultless g (symbol_or g first bs) bs
faultless g first bs e =
    let x = symbol_or g first bs in
    let a = passed (leb 1 (length bs) && leb (length bs) 1024) Length (tree_fault g x bs) e in
    let b = passed (reads g (x ∷ []) (pairs bs)) Form (if_not (leb (deepest g (1 ∷ []) (pairs bs)) 64) Depth None) a.1 in
    let c = passed (leb (deepest g (1 ∷ []) (pairs bs)) 64) Depth None b.1 in
    let l = and_parts (leb 1 (length bs)) (leb (length bs) 1024) a.0 in
    record { some_piece = leb-true 1 (length bs) l.0; few_pieces = leb-true (length bs) 1024 l.1; read = b.0; deep = leb-true (deepest g (1 ∷ []) (pairs bs)) 64 c.0 }

is_block : (g : Grammar) (x : ℕ) (bs : List Piece) → Faultless g x bs → IsBlock g x bs
is_block g x bs h =
    let w = reads_means g (pairs bs) (x ∷ []) (replicate (length (pairs bs)) 0) (length-replicate (length (pairs bs)) 0) h.read in
    record {
      some_piece = h.some_piece;
      few_pieces = h.few_pieces;
      tree = w.0;
      agrees = w.1.agrees;
      block = w.1.block;
      shallow = (within g w.0 (x ∷ []) 1 64 64 [] [] refl w.1.agrees (subst (λ z. deepest g (1 ∷ []) z ≤ 64) (sym (append-nil (pieces w.0) ∙ w.1.block)) h.deep)).0;
    }

no_fault : (g : Grammar) (first : Option ℕ) (bs : List Piece) → IsBlock g (symbol_or g first bs) bs → block_fault g first bs ≡ None
no_fault g first bs h =
    let x = symbol_or g first bs in
    let r : reads g (x ∷ []) (pairs bs) ≡ true = means_reads g (x ∷ []) (pairs bs) (places_in h.tree) h.tree (record { agrees = h.agrees; block = h.block; at = refl }) in
    let d : deepest g (1 ∷ []) (pairs bs) ≤ 64 =
    subst (λ z. deepest g (1 ∷ []) z ≤ 64) (append-nil (pieces h.tree) ∙ h.block) (no_deeper g h.tree (x ∷ []) 1 64 64 [] [] refl h.agrees h.shallow (omega arith)) in
    let l : (leb 1 (length bs) && leb (length bs) 1024) ≡ true = and_from (leb 1 (length bs)) (leb (length bs) 1024) (le-leb 1 (length bs) h.some_piece) (le-leb (length bs) 1024 h.few_pieces) in
    ap (λ b. if_not b Length (tree_fault g x bs)) l ∙ ap₂ (λ b c. if_not b Form (if_not c Depth None)) r (le-leb (deepest g (1 ∷ []) (pairs bs)) 64 d)

pub judgement : JudgementLaw
judgement g first bs = ((λ e. is_block g (symbol_or g first bs) bs (faultless g first bs e)), no_fault g first bs)
