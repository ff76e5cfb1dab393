-- What the places of a table hold after trees were laid into it.
use Rattle.std.proofs.Common.{◌≡◌, ℕ, suc, ◌-◌, ◌^◌, ◌<◌, ◌≤◌, true, ◌≢◌, List, [], ◌∷◌, ◌++◌, length, set, Some, None, Option, sym, refl, ap, ◌∙◌, subst, inl, inr, arith, length-append, length-set, length-take, get_or-set_other, get_or-set_same, pow_pos}
use Rattle.std.proofs.ByRecursion.{All-get_or}
use Rattle.grammar.specs.Model.{Grammar}
use Rattle.sheet.specs.Meaning.{Sound, SoundSymbol, SoundRule}
use Rattle.tour.specs.Rules.{rule, no_rule, no_symbol}
use Rattle.tour.specs.Nodes.{Link, Shows, above}
use Rattle.tour.specs.Nodes.Link.{top, under}
use Rattle.tour.specs.Runs.{In, Apart}
use Rattle.tour.specs.Trees.{Forest, places, Agrees, places_in}
use Rattle.tour.specs.Trees.Forest.{none, node}
use Rattle.tour.proofs.Lists.{in_left, in_right}
use Rattle.tour.proofs.Places.{apart_parts}
use Rattle.places.specs.Marks.{owes}
use Rattle.places.specs.Places.{at, arity, attributes, firsts, link_of, cell_of, table}
use Rattle.places.specs.declared.node.Node.{Node}
use Rattle.places.specs.declared.node.Parent.{Parent}
use Rattle.places.proofs.Digits.{owes_rest, owes_zero}
use Rattle.blocks.specs.Planted.{four_of, fresh, next_to, first_below, laid}

-- what an accepted sheet says of a rule's right side and of a symbol's attributes
pub few_right : (g : Grammar) → Sound g → (r : ℕ) → r < length g.rules → arity g r ≤ 4
few_right g so r l = (All-get_or (SoundRule g.symbols) g.rules r no_rule l so.rules_sound).few_right

pub few_attributes : (g : Grammar) → Sound g → (r : ℕ) → r < length g.rules → attributes g r ≤ 16
few_attributes g so r l =
    let s = All-get_or (SoundRule g.symbols) g.rules r no_rule l so.rules_sound in
    (All-get_or SoundSymbol g.symbols (rule g r).left no_symbol s.left_there so.symbols_sound).few_attributes

-- all of n marks are set in 2 ^ n - 1
pub all_owed : (n a : ℕ) → a < n → owes (2 ^ n - 1) a ≡ true
all_owed n a h = ap (λ m. owes m a) e ∙ owes_rest n 0 a (pow_pos n) h ∙ ap mathlib.Core.Bool.not (owes_zero a)
  where
    e : 2 ^ n - 1 ≡ 2 ^ n - 1 - 0
    e = omega arith

pub marks_fit : (n : ℕ) → 2 ^ n - 1 < 2 ^ n
marks_fit n = omega (arith, pow_pos n)

-- a row of four has its numbers in front
pub length_four : (ps : List ℕ) → length (four_of ps) ≡ 4
length_four ps =
    let e = length-take 4 (ps ++ (0 ∷ 0 ∷ 0 ∷ 0 ∷ [])) in
    let l = length-append ps (0 ∷ 0 ∷ 0 ∷ 0 ∷ []) in
    omega arith

pub firsts_four : (ps : List ℕ) → length ps ≤ 4 → firsts (length ps) (four_of ps) ≡ ps
firsts_four [] h = refl
firsts_four (a ∷ []) h = refl
firsts_four (a ∷ b ∷ []) h = refl
firsts_four (a ∷ b ∷ c ∷ []) h = refl
firsts_four (a ∷ b ∷ c ∷ d ∷ []) h = refl
firsts_four (a ∷ b ∷ c ∷ d ∷ e ∷ ps) h = absurd (omega arith)

-- as many trees as symbols
pub agrees_length : (g : Grammar) (f : Forest) (xs : List ℕ) → Agrees g f xs → length (places f) ≡ length xs
agrees_length g none [] ag = refl
agrees_length g none (x ∷ xs) ag = absurd ag
agrees_length g (node p r c kids rest) [] ag = absurd ag
agrees_length g (node p r c kids rest) (x ∷ xs) (l, e, ag, ag') = ap suc (agrees_length g rest xs ag')

-- the table holds a new node for each node of the trees, the first tree under that parent
abbrev pub Holds : Grammar → List (Option Node) → Forest → Option Parent → Type 0
Holds g qs none up = Unit {0}
Holds g qs (node p r c kids rest) up = (at qs p ≡ Some (fresh g r c up (places kids))) × Holds g qs kids (first_below p) × Holds g qs rest (next_to up)

-- the links of the trees' roots, by the parent that they are laid under
abbrev pub Hangs : Option Parent → (ℕ → Link) → ℕ → Type 0
Hangs None L k = (n : ℕ) → L n ≡ top
Hangs (Some u) L k = (L ≡ under u.place) × (u.position ≡ k)

hangs_here : (up : Option Parent) (L : ℕ → Link) (k : ℕ) → Hangs up L k → link_of up ≡ L k
hangs_here None L k h = sym (h k)
hangs_here (Some u) L k (e, f) = ap (under u.place) f ∙ ap (λ l. l k) (sym e)

hangs_next : (up : Option Parent) (L : ℕ → Link) (k : ℕ) → Hangs up L k → Hangs (next_to up) L (suc k)
hangs_next None L k h = h
hangs_next (Some u) L k (e, f) = (e, ap suc f)

module _ (g : Grammar) where
  -- the table keeps its length
  pub length_laid : (f : Forest) (up : Option Parent) (ps : List (Option Node)) → length (laid g f up ps) ≡ length ps
  length_laid none up ps = refl
  length_laid (node p r c kids rest) up ps =
      length_laid rest (next_to up) (set (laid g kids (first_below p) ps) p (Some (fresh g r c up (places kids))))
      ∙ length-set (laid g kids (first_below p) ps) p (Some (fresh g r c up (places kids)))
      ∙ length_laid kids (first_below p) ps

  -- places that the trees do not have are as they were
  pub laid_other : (f : Forest) (up : Option Parent) (ps : List (Option Node)) (q : ℕ) → (In q (places_in f) → ⊥) → at (laid g f up ps) q ≡ at ps q
  laid_other none up ps q h = refl
  laid_other (node p r c kids rest) up ps q h =
      let ne : q ≢ p = λ e. h (inl e) in
      laid_other rest (next_to up) (set (laid g kids (first_below p) ps) p (Some (fresh g r c up (places kids)))) q (λ m. h (inr (in_right q (places_in kids) (places_in rest) m)))
      ∙ get_or-set_other (laid g kids (first_below p) ps) p q (Some (fresh g r c up (places kids))) None ne
      ∙ laid_other kids (first_below p) ps q (λ m. h (inr (in_left q (places_in kids) (places_in rest) m)))

  -- tables that agree on the trees' places hold them alike
  pub holds_kept : (f : Forest) (up : Option Parent) (ps qs : List (Option Node)) → ((q : ℕ) → In q (places_in f) → at qs q ≡ at ps q) → Holds g ps f up → Holds g qs f up
  holds_kept none up ps qs e h = tt
  holds_kept (node p r c kids rest) up ps qs e (h, hk, hr) = (
    e p (inl refl) ∙ h,
    holds_kept kids (first_below p) ps qs (λ q m. e q (inr (in_left q (places_in kids) (places_in rest) m))) hk,
    holds_kept rest (next_to up) ps qs (λ q m. e q (inr (in_right q (places_in kids) (places_in rest) m))) hr,
  )

  -- the places of the trees hold new nodes
  pub laid_holds : (f : Forest) (up : Option Parent) (ps : List (Option Node)) → Apart (places_in f) → ((q : ℕ) → In q (places_in f) → q < length ps) → Holds g (laid g f up ps) f up
  laid_holds none up ps a h = tt
  laid_holds (node p r c kids rest) up ps (n, a) h = (
    laid_other rest (next_to up) mid p (λ m. n (in_right p (places_in kids) (places_in rest) m)) ∙ get_or-set_same below p new None inside,
    holds_kept kids (first_below p) mid after (λ q m. laid_other rest (next_to up) mid q (λ k. parts.2 q m k))
        (holds_kept kids (first_below p) below mid (λ q m. get_or-set_other below p q new None (λ e. n (in_left p (places_in kids) (places_in rest) (subst (λ z. In z (places_in kids)) e m))))
        (laid_holds kids (first_below p) ps parts.0 (λ q m. h q (inr (in_left q (places_in kids) (places_in rest) m))))),
    laid_holds rest (next_to up) mid parts.1 (λ q m. subst (λ l. q < l) (sym (length-set below p new ∙ length_laid kids (first_below p) ps)) (h q (inr (in_right q (places_in kids) (places_in rest) m)))),
  )
    where
      new : Option Node
      new = Some (fresh g r c up (places kids))

      below : List (Option Node)
      below = laid g kids (first_below p) ps

      mid : List (Option Node)
      mid = set (laid g kids (first_below p) ps) p (Some (fresh g r c up (places kids)))

      after : List (Option Node)
      after = laid g rest (next_to up) (set (laid g kids (first_below p) ps) p (Some (fresh g r c up (places kids))))

      inside : p < length (laid g kids (first_below p) ps)
      inside = subst (λ l. p < l) (sym (length_laid kids (first_below p) ps)) (h p (inl refl))

      parts : Apart (places_in kids) × Apart (places_in rest) × ((x : ℕ) → In x (places_in kids) → In x (places_in rest) → ⊥)
      parts = apart_parts (places_in kids) (places_in rest) a

  module _ (so : Sound g) where
    -- the children of a new node
    pub fresh_kids : (r : ℕ) (kids : Forest) → r < length g.rules → Agrees g kids (rule g r).right → firsts (arity g r) (four_of (places kids)) ≡ places kids
    fresh_kids r kids l ag =
        let e = agrees_length g kids (rule g r).right ag in
        ap (λ n. firsts n (four_of (places kids))) (sym e) ∙ firsts_four (places kids) (omega (arith, few_right g so r l))

    -- the table shows the trees
    pub holds_shows : (f : Forest) (xs : List ℕ) (up : Option Parent) (L : ℕ → Link) (k : ℕ) (qs : List (Option Node)) → Agrees g f xs → Hangs up L k → Holds g qs f up → Shows (table g qs) f L k
    holds_shows none xs up L k qs ag hu h = tt
    holds_shows (node p r c kids rest) [] up L k qs ag hu h = absurd ag
    holds_shows (node p r c kids rest) (x ∷ xs) up L k qs (l, e, ag, ag') hu (h, hk, hr) = (
      ap (λ o. (cell_of g o).rule) h,
      ap (λ o. (cell_of g o).code) h,
      ap (λ o. (cell_of g o).kids) h ∙ fresh_kids r kids l ag,
      ap (λ o. (cell_of g o).link) h ∙ hangs_here up L k hu,
      holds_shows kids (rule g r).right (first_below p) (under p) 1 qs ag (refl, refl) hk,
      holds_shows rest xs (next_to up) L (suc k) qs ag' (hangs_next up L k hu) hr,
    )

    -- a tree laid into a table is shown there
    pub laid_shown : (f : Forest) (x : ℕ) (ps : List (Option Node)) → Agrees g f (x ∷ []) → Apart (places_in f) → ((q : ℕ) → In q (places_in f) → q < length ps) → Shows (table g (laid g f None ps)) f above 0
    laid_shown f x ps ag a h = holds_shows f (x ∷ []) None above 0 (laid g f None ps) ag (λ n. refl) (laid_holds f None ps a h)
