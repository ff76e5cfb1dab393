-- Nothing of the tree is owed just where its tour is idle.
use Rattle.std.proofs.Common.{◌≡◌, ℕ, zero, suc, ◌+◌, ◌<◌, ◌≤◌, Bool, true, false, ◌⊎◌, List, ◌++◌, length, Option, sym, refl, ap, ◌∙◌, subst, inl, inr, arith}
use mathlib.Core.Bool.{false≢true}
use Rattle.grammar.specs.Model.{Grammar}
use Rattle.tour.specs.Nodes.{Link, Table, Shows, above, Planted}
use Rattle.tour.specs.Nodes.Link.{under}
use Rattle.tour.specs.Rules.{rule, symbol}
use Rattle.tour.specs.Runs.{In, Idle}
use Rattle.tour.specs.Nodes.{attributes_of}
use Rattle.sheet.specs.Meaning.{Sound}
use Rattle.tour.specs.Results.{Meaning}
use Rattle.tour.specs.Touring.{tour}
use Rattle.tour.specs.Trees.{Forest, row, instances, places_in}
use Rattle.tour.specs.Trees.Forest.{none, node}
use Rattle.tour.proofs.Lists.{in_left, in_right, in_cases}
use Rattle.tour.proofs.Places.{instance_place}
use Rattle.tour.proofs.Shapes.{shape_planted}
use Rattle.tour.proofs.Tables.{planted_touring}
use Rattle.places.specs.Marks.{owes}
use Rattle.places.specs.Places.{used, marks_in, attributes, cell_of, table, owed_at, state_of}
use Rattle.places.specs.Shape.{InShape, InTree}
use Rattle.places.specs.Totals.{NoneOwed}
use Rattle.places.specs.Trees.{tree_at}
use Rattle.places.specs.declared.node.Node.{Node}
use Rattle.places.proofs.Digits.{owed_below_lem}
use Rattle.places.proofs.Tables.{shape_table}
use Rattle.places.proofs.Trees.{trees_law}

le_cases : (i a : ℕ) → i ≤ a → (i ≡ a) ⊎ (suc i ≤ a)
le_cases i a l = grind arith

row_there : (p i n a : ℕ) → i ≤ a → a < i + n → In (p, a) (row p i n)
row_there p i zero a l h = absurd (omega arith)
row_there p i (suc n) a l h = elim (le_cases i a l) [ inl e ↦ inl (ap (λ z. (p, z)) (sym e)) | inr m ↦ inr (row_there p (suc i) n a m (omega arith)) ]

-- each attribute of each place of shown trees is an instance of them
shown_instance : (σ : Grammar) (T : Table) (p a : ℕ) (f : Forest) (up : ℕ → Link) (i : ℕ) → Shows T f up i → a < length (attributes_of σ T p) → In p (places_in f) → In (p, a) (instances σ f)
shown_instance σ T p a none up i sh h m = absurd m
shown_instance σ T p a (node q r c kids rest) up i (er, ec, ek, el, sk, sr) h (inl e) =
    in_left (p, a) (row q 0 (length (symbol σ (rule σ r).left).attributes)) (instances σ kids ++ instances σ rest)
    (subst (λ z. In (z, a) (row q 0 (length (symbol σ (rule σ r).left).attributes))) (sym e)
    (row_there q 0 (length (symbol σ (rule σ r).left).attributes) a (omega arith) (subst (λ z. a < 0 + length (symbol σ (rule σ z).left).attributes) (ap (λ z. (T z).rule) e ∙ er) (omega arith))))
shown_instance σ T p a (node q r c kids rest) up i (er, ec, ek, el, sk, sr) h (inr m) =
    in_right (p, a) (row q 0 (length (symbol σ (rule σ r).left).attributes)) (instances σ kids ++ instances σ rest)
    (elim (in_cases p (places_in kids) (places_in rest) m) [
      | inl w ↦ in_left (p, a) (instances σ kids) (instances σ rest) (shown_instance σ T p a kids (under q) 1 sk h w)
      | inr w ↦ in_right (p, a) (instances σ kids) (instances σ rest) (shown_instance σ T p a rest up (suc i) sr h w)
    ])

module _ (g : Grammar) (so : Sound g) (ps : List (Option Node)) (root : ℕ) (sh : InShape g ps root) {V : Type 0} (missing : V) (vs : List V) where
  planted : Planted g (table g ps) (tree_at g ps root)
  planted = shape_planted g (table g ps) (used ps) root so (shape_table g ps root sh)

  -- the tour of a tree does not hang on what functions give
  fixed : Meaning V
  fixed = record { leaf = λ c. missing; result = λ f a b c. missing }

  -- an owed attribute exists
  owed_there : (p a : ℕ) → InTree ps root p → owed_at ps (p, a) ≡ true → a < length (attributes_of g (table g ps) p)
  owed_there p a i h =
      subst (λ o. owes (marks_in o) a ≡ true → a < attributes g (cell_of g o).rule) (sym i.there)
      (λ e. owed_below_lem (attributes g i.node.rule) i.node.marks a (sh.places_sound.nodes p i.node i.there).marks_there e) h

  pub none_idle : NoneOwed ps root → Idle (state_of missing ps vs) (tour g (tree_at g ps root))
  none_idle n x m h =
      let inside = ((planted_touring fixed g (table g ps) (tree_at g ps root) planted).all x).0 m in
      let there = (((trees_law g ps root sh).trees root (trees_law g ps root sh).root_top).places_are x.0).0 (instance_place g x (tree_at g ps root) inside) in
      false≢true (sym (n x.0 there x.1) ∙ h)

  pub idle_none : Idle (state_of missing ps vs) (tour g (tree_at g ps root)) → NoneOwed ps root
  idle_none idle p i a = by (owed_at ps (p, a)) refl
    where
      by : (b : Bool) → owed_at ps (p, a) ≡ b → owed_at ps (p, a) ≡ false
      by false e = e
      by true e =
          let here = (((trees_law g ps root sh).trees root (trees_law g ps root sh).root_top).places_are p).1 i in
          let inside = shown_instance g (table g ps) p a (tree_at g ps root) above 0 planted.shown (owed_there p a i e) here in
          absurd (idle (p, a) (((planted_touring fixed g (table g ps) (tree_at g ps root) planted).all (p, a)).1 inside) e)
