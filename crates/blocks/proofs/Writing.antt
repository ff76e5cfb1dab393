-- A block is written.
use Rattle.std.proofs.Common.{◌≡◌, ℕ, ◌<◌, ◌≤◌, true, ◌&&◌, eqb, ltb, List, [], ◌∷◌, ◌++◌, length, get_or, drop, Some, None, Option, sym, refl, ap, ◌∙◌, subst, ap₂, inl, append-nil}
use mathlib.Core.Bool.{false≢true}
use Rattle.std.proofs.ByRecursion.{All-get_or}
use Rattle.std.proofs.lemmas.List.{length-map}
use Rattle.std.proofs.lemmas.Bool.{and_parts, ltb-true}
use Rattle.grammar.specs.Model.{Grammar}
use Rattle.sheet.specs.Answers.{grammar_of}
use Rattle.sheet.specs.declared.kept.Sheet.{Sheet}
use Rattle.sheet.specs.Meaning.{Sound, SoundRule}
use Rattle.tour.specs.Runs.{In, Apart}
use Rattle.tour.specs.Rules.{rule, no_rule}
use Rattle.tour.specs.Trees.{Forest, Agrees, places, places_in}
use Rattle.tour.specs.Trees.Forest.{none, node}
use Rattle.tour.specs.Blocks.{reads}
use Rattle.tour.proofs.Lists.{head_same}
use Rattle.tour.proofs.Blocks.{reads_means, means_one}
use Rattle.tour.specs.Nodes.{Shows, above}
use Rattle.places.specs.Places.{at, table, owed_at}
use Rattle.places.specs.declared.node.Node.{Node}
use Rattle.blocks.specs.Block.{pair_of, pairs, own_symbol}
use Rattle.blocks.specs.Planted.{four_of, fresh, laid}
use Rattle.blocks.specs.Plantings.{Fits, NoPlanting, Planting}
use Rattle.places.specs.Totals.{free}
use Rattle.blocks.specs.Taken.{taken, Takes}
use Rattle.blocks.specs.Written.{BlockTree, Written}
use Rattle.blocks.specs.declared.piece.Piece.{Piece}
use Rattle.blocks.proofs.Laying.{Narrow, laid_other, laid_stand, stand_shows, stand_owed}
use Rattle.places.proofs.Sheets.{sheet_sound}
use Rattle.blocks.proofs.Taking.{taken_takes, taken_first}

pub narrow : (g : Grammar) → Sound g → Narrow g
narrow g s r l = (All-get_or (SoundRule g.symbols) g.rules r no_rule l s.rules_sound).few_right

module _ (g : Grammar) (ps : List (Option Node)) (bs : List Piece) (judged : reads g (own_symbol g bs ∷ []) (pairs bs) ≡ true) (room : length bs ≤ length (free ps)) where
  takes : Takes ps (length bs) (taken ps (length bs))
  takes = taken_takes ps (length bs) room

  tree : (f : Forest) × BlockTree g ps bs f
  tree = reads_means g (pairs bs) (own_symbol g bs ∷ []) (taken ps (length bs)) (takes.many ∙ sym (length-map bs pair_of)) judged

  fits : Fits g 1 bs 0 ps tree.0 (own_symbol g bs ∷ []) [] (drop (length bs) (free ps))
  fits = record {
    agrees = tree.1.agrees;
    many = refl;
    block = sym (append-nil _ ∙ tree.1.block);
    at = taken_first ps (length bs) ∙ ap (λ z. z ++ drop (length bs) (free ps)) (sym tree.1.at);
  }

  pub some_planting : NoPlanting g 1 bs 0 ps → ⊥
  some_planting none-fit = none-fit tree.0 (own_symbol g bs ∷ []) [] (drop (length bs) (free ps)) fits

  one_root : (f : Forest) (x : ℕ) (roots : List ℕ) → Agrees g f (x ∷ []) → roots ≡ four_of (places f) → places f ≡ get_or roots 0 0 ∷ []
  one_root none x roots ag e = absurd ag
  one_root (node p r c kids none) x roots ag e = ap (λ z. z ∷ []) (sym (ap (λ z. get_or z 0 0) e))
  one_root (node p r c kids (node q s d ks rest)) x roots ag e = absurd ag.3

  pub written : Narrow g → (roots : List ℕ) (rest : List Piece) (next : ℕ) (ps' : List (Option Node)) → Planting g None 1 bs 0 ps roots rest next ps' → Written g ps bs (get_or roots 0 0) ps'
  written few roots rest next ps' planting =
      let f = tree.0 in
      let m = tree.1 in
      let laid-there = planting.fits f (own_symbol g bs ∷ []) [] (drop (length bs) (free ps)) fits in
      let e : ps' ≡ laid g f None ps = laid-there.table_is in
      let apart : Apart (places_in f) = subst Apart (sym m.at) takes.apart in
      let inside : (p : ℕ) → In p (places_in f) → p < length ps = λ p h. takes.inside p (subst (In p) m.at h) in
      let stand = laid_stand g f None ps apart inside in
      record {
        tree = f;
        means = m;
        only = λ k n. means_one g (own_symbol g bs ∷ []) (pairs bs) (taken ps (length bs)) k f n m;
        root_is = one_root f (own_symbol g bs) roots m.agrees laid-there.children_are;
        nodes = e;
        shown = subst (λ z. Shows (table g z) f above 0) (sym e) (stand_shows g few f (own_symbol g bs ∷ []) None 0 (laid g f None ps) m.agrees stand);
        owed = λ x h. ap (λ z. owed_at z x) e ∙ stand_owed g f None (laid g f None ps) stand x h;
        others = λ p out. ap (λ z. at z p) e ∙ laid_other g f None ps p (λ h. out (subst (In p) m.at h));
      }

-- a sheet by which a block is judged was accepted
pub judged_sound : (s : Sheet) (x : ℕ) (xs : List ℕ) (bs : List Piece) → reads (grammar_of s) (x ∷ xs) (pairs bs) ≡ true → Sound (grammar_of s)
judged_sound s x xs [] e = absurd (false≢true e)
judged_sound s x xs (b ∷ bs) e =
    let g = grammar_of s in
    sheet_sound s b.rule (ltb-true b.rule (length g.rules) (and_parts (ltb b.rule (length g.rules)) (eqb (rule g b.rule).left x && reads g ((rule g b.rule).right ++ xs) (pairs bs)) e).0)

-- the root of a block that was written
pub record Rooted (g : Grammar) (ps ps' : List (Option Node)) (bs : List Piece) (root : ℕ) : Type 0 where
  pub inside : root < length ps
  pub node_there : Node
  pub there : at ps' root ≡ Some node_there
  pub free_standing : node_there.parent ≡ None
  pub symbol_is : (rule g node_there.rule).left ≡ own_symbol g bs

pub rooted : (g : Grammar) (ps ps' : List (Option Node)) (bs : List Piece) (root : ℕ) → length bs ≤ length (free ps) → Written g ps bs root ps' → Rooted g ps ps' bs root
rooted g ps ps' bs root room w = by w.tree w.means w.nodes w.root_is
  where
    by : (f : Forest) → BlockTree g ps bs f → ps' ≡ laid g f None ps → places f ≡ root ∷ [] → Rooted g ps ps' bs root
    by none m e r = absurd m.agrees
    by (node p k c kids rest) m e r =
        let takes = taken_takes ps (length bs) room in
        let is : p ≡ root = head_same p root (places rest) [] r in
        let inside : (q : ℕ) → In q (places_in (node p k c kids rest)) → q < length ps = λ q h. takes.inside q (subst (In q) m.at h) in
        let stand = laid_stand g (node p k c kids rest) None ps (subst Apart (sym m.at) takes.apart) inside in
        record {
          inside = subst (λ q. q < length ps) is (inside p (inl refl));
          node_there = fresh g k c None (places kids);
          there = ap₂ at e (sym is) ∙ stand.0;
          free_standing = refl;
          symbol_is = m.agrees.1;
        }
