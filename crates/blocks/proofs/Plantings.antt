-- How a row of trees is written, a tree at a time.
use Rattle.std.proofs.Common.{◌≡◌, ℕ, ◌+◌, ◌-◌, ◌^◌, ◌<◌, ◌≤◌, List, [], ◌∷◌, ◌++◌, length, get_or, drop, set, Some, Option, sym, refl, ap, ◌∙◌, subst, ap₂, append_assoc, arith}
use Rattle.std.proofs.lemmas.List.{drop-set-lt, drop-drop}
use Rattle.grammar.specs.Model.{Grammar}
use Rattle.tour.specs.Rules.{rule}
use Rattle.tour.specs.Trees.{Forest, Agrees, places, places_in}
use Rattle.tour.specs.Trees.Forest.{none, node}
use Rattle.tour.specs.Blocks.{pieces}
use Rattle.tour.proofs.Lists.{head_same, tail_same}
use Rattle.places.specs.declared.node.Node.{Node}
use Rattle.places.specs.declared.node.Parent.{Parent}
use Rattle.blocks.specs.Block.{pair_of, pairs}
use Rattle.places.specs.Kinds.{Known}
use Rattle.blocks.specs.Planted.{four_of, fresh, next_to, first_below, laid}
use Rattle.blocks.specs.Plantings.{Fits, Laid, NoPlanting, Planting}
use Rattle.places.specs.Totals.{free_from}
use Rattle.blocks.specs.Taken.{free_after}
use Rattle.blocks.specs.declared.piece.Piece.{Piece}

four_more : (x : ℕ) (xs : List ℕ) → (x ∷ get_or (four_of xs) 0 0 ∷ get_or (four_of xs) 1 0 ∷ get_or (four_of xs) 2 0 ∷ []) ≡ four_of (x ∷ xs)
four_more x [] = refl
four_more x (a ∷ []) = refl
four_more x (a ∷ b ∷ []) = refl
four_more x (a ∷ b ∷ c ∷ xs) = refl

module _ (g : Grammar) where
  pub planting_none : (up : Option Parent) (count : ℕ) (bs : List Piece) (i : ℕ) (ps : List (Option Node)) → count ≡ 0 → Planting g up count bs i ps (0 ∷ 0 ∷ 0 ∷ 0 ∷ []) bs i ps
  planting_none up count bs i ps e = record { shorter = omega arith; onward = omega arith; ahead = refl; fits = by }
    where
      by : (f : Forest) (xs : List ℕ) (cs : List (ℕ × ℕ)) (qs : List ℕ) → Fits g count bs i ps f xs cs qs → Laid g up ps f cs qs (0 ∷ 0 ∷ 0 ∷ 0 ∷ []) bs i ps
      by none [] cs qs h = record { rest_is = h.block; children_are = refl; table_is = refl; free_is = h.at }
      by none (x ∷ xs) cs qs h = absurd h.agrees
      by (node p r c kids rest) [] cs qs h = absurd h.agrees
      by (node p r c kids rest) (x ∷ xs) cs qs h = absurd (omega (arith, h.many, e))

  -- the first tree of a row, and the others
  record Parted (b : Piece) (rest : List Piece) (q count : ℕ) (ps : List (Option Node)) (f : Forest) (cs : List (ℕ × ℕ)) (qs : List ℕ) : Type 0 where
    pub kids : Forest
    pub others : Forest
    pub symbols : List ℕ
    pub is : f ≡ node q b.rule b.datum kids others
    pub known : b.rule < length g.rules
    pub first : Fits g (length (rule g b.rule).right) rest (q + 1) ps kids (rule g b.rule).right (pieces others ++ cs) (places_in others ++ qs)
    pub agrees : Agrees g others symbols
    pub many : length symbols ≡ count - 1

  part : (b : Piece) (bs rest : List Piece) (q count i : ℕ) (ps : List (Option Node)) (f : Forest) (xs : List ℕ) (cs : List (ℕ × ℕ)) (qs : List ℕ)
      → 1 ≤ count → bs ≡ b ∷ rest → free_after i ps ≡ q ∷ free_after (q + 1) ps → Fits g count bs i ps f xs cs qs → Parted b rest q count ps f cs qs
  part b bs rest q count i ps none [] cs qs l e a h = absurd (omega (arith, h.many))
  part b bs rest q count i ps none (x ∷ xs) cs qs l e a h = absurd h.agrees
  part b bs rest q count i ps (node p r c kids others) [] cs qs l e a h = absurd h.agrees
  part b bs rest q count i ps (node p r c kids others) (x ∷ xs) cs qs l e a h =
      let k : pair_of b ∷ pairs rest ≡ (r, c) ∷ ((pieces kids ++ pieces others) ++ cs) = sym (ap pairs e) ∙ h.block in
      let k₀ : pair_of b ≡ (r, c) = head_same (pair_of b) (r, c) (pairs rest) ((pieces kids ++ pieces others) ++ cs) k in
      let er : r ≡ b.rule = sym (ap (λ z. z.0) k₀) in
      let ec : c ≡ b.datum = sym (ap (λ z. z.1) k₀) in
      let kt = tail_same (pair_of b) (r, c) (pairs rest) ((pieces kids ++ pieces others) ++ cs) k in
      let m : q ∷ free_after (q + 1) ps ≡ p ∷ ((places_in kids ++ places_in others) ++ qs) = sym a ∙ h.at in
      let ep : p ≡ q = sym (head_same q p (free_after (q + 1) ps) ((places_in kids ++ places_in others) ++ qs) m) in
      let mt = tail_same q p (free_after (q + 1) ps) ((places_in kids ++ places_in others) ++ qs) m in
      record {
        kids = kids;
        others = others;
        symbols = xs;
        is = cc (er, ec, ep);
        known = subst (λ z. z < length g.rules) er h.agrees.0;
        first = record {
          agrees = subst (λ z. Agrees g kids (rule g z).right) er h.agrees.2;
          many = refl;
          block = kt ∙ append_assoc (pieces kids) (pieces others) cs;
          at = mt ∙ append_assoc (places_in kids) (places_in others) qs;
        };
        agrees = h.agrees.3;
        many = omega (arith, h.many);
      }

  -- a row that is not empty wants a piece, a rule and a place
  pub no_piece : (count : ℕ) (bs : List Piece) (i : ℕ) (ps : List (Option Node)) → 1 ≤ count → length bs < 1 → NoPlanting g count bs i ps
  no_piece count (b ∷ bs) i ps l m f xs cs qs h = absurd (omega arith)
  no_piece count [] i ps l m none [] cs qs h = absurd (omega (arith, h.many))
  no_piece count [] i ps l m none (x ∷ xs) cs qs h = h.agrees
  no_piece count [] i ps l m (node p r c kids others) [] cs qs h = h.agrees
  no_piece count [] i ps l m (node p r c kids others) (x ∷ xs) cs qs h = absurd (omega (arith, ap length h.block))

  pub no_place_lem : (count : ℕ) (bs : List Piece) (i : ℕ) (ps : List (Option Node)) → 1 ≤ count → free_after i ps ≡ [] → NoPlanting g count bs i ps
  no_place_lem count bs i ps l m none [] cs qs h = absurd (omega (arith, h.many))
  no_place_lem count bs i ps l m none (x ∷ xs) cs qs h = h.agrees
  no_place_lem count bs i ps l m (node p r c kids others) [] cs qs h = h.agrees
  no_place_lem count bs i ps l m (node p r c kids others) (x ∷ xs) cs qs h = absurd (omega (arith, ap length (sym m ∙ h.at)))

  pub no_rule_there : (b : Piece) (bs rest : List Piece) (count i : ℕ) (ps : List (Option Node)) → 1 ≤ count → bs ≡ b ∷ rest → length g.rules ≤ b.rule → NoPlanting g count bs i ps
  no_rule_there b bs rest count i ps l e k none [] cs qs h = absurd (omega (arith, h.many))
  no_rule_there b bs rest count i ps l e k none (x ∷ xs) cs qs h = h.agrees
  no_rule_there b bs rest count i ps l e k (node p r c kids others) [] cs qs h = h.agrees
  no_rule_there b bs rest count i ps l e k (node p r c kids others) (x ∷ xs) cs qs h =
      let er = ap (λ z. z.0) (head_same (pair_of b) (r, c) (pairs rest) ((pieces kids ++ pieces others) ++ cs) (sym (ap pairs e) ∙ h.block)) in
      absurd (omega (arith, er, h.agrees.0))

  -- the node at place q once the trees below it are written
  abbrev written : Piece → Option Parent → List ℕ → ℕ → Node
  written b up roots m = record { rule = b.rule; datum = b.datum; parent = up; children = roots; marks = m }

  module _ (up : Option Parent) (b : Piece) (bs rest rest₁ : List Piece) (q count i x n next₁ : ℕ) (right roots₁ : List ℕ) (ps ps₁ : List (Option Node))
      (some : 1 ≤ count) (front : bs ≡ b ∷ rest) (found : free_after i ps ≡ q ∷ free_after (q + 1) ps) (known : Known g b.rule x right n) where
    pub no_planting_below : NoPlanting g (length right) rest (q + 1) ps → NoPlanting g count bs i ps
    no_planting_below none-fit f xs cs qs h =
        let w = part b bs rest q count i ps f xs cs qs some front found h in
        none-fit w.kids (rule g b.rule).right (pieces w.others ++ cs) (places_in w.others ++ qs) (subst (λ z. Fits g (length z) rest (q + 1) ps w.kids (rule g b.rule).right (pieces w.others ++ cs) (places_in w.others ++ qs)) known.right_is w.first)

    module _ (up₁ : Option Parent) (v : Node) (hung : up₁ ≡ first_below q) (below : Planting g up₁ (length right) rest (q + 1) ps roots₁ rest₁ next₁ ps₁) (new : v ≡ written b up roots₁ (2 ^ n - 1)) where
      abbrev ps₂ : List (Option Node)
      ps₂ = set ps₁ q (Some v)

      unchanged : drop next₁ ps₂ ≡ drop next₁ ps
      unchanged = let l : q < next₁ = omega (arith, below.onward) in drop-set-lt next₁ ps₁ q (Some v) l ∙ below.ahead

      -- what fits the row, below the first node and beside it
      record Both (f : Forest) (cs : List (ℕ × ℕ)) (qs : List ℕ) : Type 0 where
        pub parts : Parted b rest q count ps f cs qs
        pub under : Laid g up₁ ps parts.kids (pieces parts.others ++ cs) (places_in parts.others ++ qs) roots₁ rest₁ next₁ ps₁
        pub beside : Fits g (count - 1) rest₁ next₁ ps₂ parts.others parts.symbols cs qs

      both : (f : Forest) (xs : List ℕ) (cs : List (ℕ × ℕ)) (qs : List ℕ) → Fits g count bs i ps f xs cs qs → Both f cs qs
      both f xs cs qs h =
          let w = part b bs rest q count i ps f xs cs qs some front found h in
          let u = below.fits w.kids (rule g b.rule).right (pieces w.others ++ cs) (places_in w.others ++ qs) (subst (λ z. Fits g (length z) rest (q + 1) ps w.kids (rule g b.rule).right (pieces w.others ++ cs) (places_in w.others ++ qs)) known.right_is w.first) in
          record {
            parts = w;
            under = u;
            beside = record { agrees = w.agrees; many = w.many; block = u.rest_is; at = ap (free_from next₁) unchanged ∙ u.free_is };
          }

      pub no_planting_beside : NoPlanting g (count - 1) rest₁ next₁ ps₂ → NoPlanting g count bs i ps
      no_planting_beside none-fit f xs cs qs h =
          let w = both f xs cs qs h in
          none-fit w.parts.others w.parts.symbols cs qs w.beside

      pub planting_more : (up' : Option Parent) (roots₂ : List ℕ) (rest₂ : List Piece) (next₂ : ℕ) (ps₃ : List (Option Node)) → i ≤ q → up' ≡ next_to up → Planting g up' (count - 1) rest₁ next₁ ps₂ roots₂ rest₂ next₂ ps₃
          → Planting g up count bs i ps (q ∷ get_or roots₂ 0 0 ∷ get_or roots₂ 1 0 ∷ get_or roots₂ 2 0 ∷ []) rest₂ next₂ ps₃
      planting_more up' roots₂ rest₂ next₂ ps₃ l next beside = record {
        shorter = omega (arith, ap length front, below.shorter, beside.shorter);
        onward = omega (arith, below.onward, beside.onward);
        ahead = beside.ahead ∙ later;
        fits = by;
      }
        where
          later : drop next₂ ps₂ ≡ drop next₂ ps
          later =
              let e : next₁ + (next₂ - next₁) ≡ next₂ = omega (arith, beside.onward) in
              subst (λ m. drop m ps₂ ≡ drop m ps) e (sym (drop-drop (next₂ - next₁) next₁ ps₂) ∙ ap (drop (next₂ - next₁)) unchanged ∙ drop-drop (next₂ - next₁) next₁ ps)

          by : (f : Forest) (xs : List ℕ) (cs : List (ℕ × ℕ)) (qs : List ℕ) → Fits g count bs i ps f xs cs qs → Laid g up ps f cs qs (q ∷ get_or roots₂ 0 0 ∷ get_or roots₂ 1 0 ∷ get_or roots₂ 2 0 ∷ []) rest₂ next₂ ps₃
          by f xs cs qs h =
              let w = both f xs cs qs h in
              let k = beside.fits w.parts.others w.parts.symbols cs qs w.beside in
              let node-is : v ≡ fresh g b.rule b.datum up (places w.parts.kids) =
              new ∙ ap₂ (λ z k. written b up z (2 ^ k - 1)) w.under.children_are (sym known.count_is) in
              subst (λ f. Laid g up ps f cs qs (q ∷ get_or roots₂ 0 0 ∷ get_or roots₂ 1 0 ∷ get_or roots₂ 2 0 ∷ []) rest₂ next₂ ps₃) (sym w.parts.is) (record {
                rest_is = k.rest_is;
                children_are = ap (λ z. q ∷ get_or z 0 0 ∷ get_or z 1 0 ∷ get_or z 2 0 ∷ []) k.children_are ∙ four_more q (places w.parts.others);
                table_is = k.table_is ∙ ap₂ (laid g w.parts.others) next (ap₂ (λ t m. set t q (Some m)) (w.under.table_is ∙ ap (λ u. laid g w.parts.kids u ps) hung) node-is);
                free_is = sym (ap (free_from next₂) later) ∙ k.free_is;
              })
