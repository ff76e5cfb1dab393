-- What a table shows after trees are written into it.
use Rattle.std.proofs.Common.{◌≡◌, ℕ, zero, suc, ◌+◌, ◌-◌, ◌^◌, ◌<◌, ◌≤◌, true, not, List, [], ◌∷◌, ◌++◌, length, set, Some, None, Option, sym, refl, ap, ◌∙◌, subst, inl, inr, ⊎_elim, arith, pow_pos}
use Rattle.std.proofs.lemmas.List.{length-set, get_or-set_same, get_or-set_other}
use Rattle.grammar.specs.Model.{Grammar}
use Rattle.tour.specs.Runs.{In, Apart}
use Rattle.tour.specs.Rules.{rule}
use Rattle.tour.specs.Trees.{Instance, Forest, Agrees, places, places_in, row, instances}
use Rattle.tour.specs.Trees.Forest.{none, node}
use Rattle.tour.specs.Nodes.{Link, Shows, above}
use Rattle.tour.specs.Nodes.Link.{under}
use Rattle.tour.proofs.Places.{apart_parts}
use Rattle.tour.proofs.Lists.{in_left, in_right, in_cases}
use Rattle.places.specs.Marks.{owes}
use Rattle.places.specs.Places.{at, arity, attributes, firsts, link_of, cell_of, table, owed_at, marks_in}
use Rattle.places.specs.declared.node.Node.{Node}
use Rattle.places.specs.declared.node.Parent.{Parent}
use Rattle.places.proofs.Digits.{owes_rest, owes_zero}
use Rattle.blocks.specs.Planted.{four_of, fresh, next_to, first_below, laid}

firsts_four : (xs : List ℕ) → length xs ≤ 4 → firsts (length xs) (four_of xs) ≡ xs
firsts_four [] l = refl
firsts_four (a ∷ []) l = refl
firsts_four (a ∷ b ∷ []) l = refl
firsts_four (a ∷ b ∷ c ∷ []) l = refl
firsts_four (a ∷ b ∷ c ∷ d ∷ []) l = refl
firsts_four (a ∷ b ∷ c ∷ d ∷ e ∷ xs) l = absurd (omega arith)

-- all of the first n attributes are owed
owes_ones : (n a : ℕ) → a < n → owes (2 ^ n - 1) a ≡ true
owes_ones n a l =
    let z : 2 ^ n - 1 ≡ 2 ^ n - 1 - 0 = omega arith in
    ap (λ m. owes m a) z ∙ owes_rest n 0 a (pow_pos n) l ∙ ap not (owes_zero a)

-- the parent of a root or of the child number k of a place, and the link that shows it
abbrev pub hung : Option ℕ → ℕ → Option Parent
hung None k = None
hung (Some p) k = Some (record { place = p; position = k })

abbrev pub links : Option ℕ → ℕ → Link
links None = above
links (Some p) = under p

hung_link : (o : Option ℕ) (k : ℕ) → link_of (hung o k) ≡ links o k
hung_link None k = refl
hung_link (Some p) k = refl

hung_next : (o : Option ℕ) (k : ℕ) → next_to (hung o k) ≡ hung o (suc k)
hung_next None k = refl
hung_next (Some p) k = refl

module _ (g : Grammar) where
  pub laid_length : (f : Forest) (up : Option Parent) (ps : List (Option Node)) → length (laid g f up ps) ≡ length ps
  laid_length none up ps = refl
  laid_length (node p r c kids rest) up ps =
      laid_length rest (next_to up) (set (laid g kids (first_below p) ps) p (Some (fresh g r c up (places kids))))
      ∙ length-set (laid g kids (first_below p) ps) p (Some (fresh g r c up (places kids)))
      ∙ laid_length kids (first_below p) ps

  -- no other place is touched
  pub laid_other : (f : Forest) (up : Option Parent) (ps : List (Option Node)) (p : ℕ) → (In p (places_in f) → ⊥) → at (laid g f up ps) p ≡ at ps p
  laid_other none up ps p out = refl
  laid_other (node q r c kids rest) up ps p out =
      laid_other rest (next_to up) (set (laid g kids (first_below q) ps) q (Some (fresh g r c up (places kids)))) p (λ h. out (inr (in_right p (places_in kids) (places_in rest) h)))
      ∙ get_or-set_other (laid g kids (first_below q) ps) q p (Some (fresh g r c up (places kids))) None (λ e. out (inl e))
      ∙ laid_other kids (first_below q) ps p (λ h. out (inr (in_left p (places_in kids) (places_in rest) h)))

  -- each node of the trees stands in the table
  abbrev pub Stand : Forest → Option Parent → List (Option Node) → Type 0
  Stand none up ps = Unit {0}
  Stand (node p r c kids rest) up ps = (at ps p ≡ Some (fresh g r c up (places kids))) × Stand kids (first_below p) ps × Stand rest (next_to up) ps

  stand_same : (f : Forest) (up : Option Parent) (ps ps' : List (Option Node)) → ((p : ℕ) → In p (places_in f) → at ps' p ≡ at ps p) → Stand f up ps → Stand f up ps'
  stand_same none up ps ps' same h = tt
  stand_same (node p r c kids rest) up ps ps' same h = (
    same p (inl refl) ∙ h.0,
    stand_same kids (first_below p) ps ps' (λ q k. same q (inr (in_left q (places_in kids) (places_in rest) k))) h.1,
    stand_same rest (next_to up) ps ps' (λ q k. same q (inr (in_right q (places_in kids) (places_in rest) k))) h.2,
  )

  pub laid_stand : (f : Forest) (up : Option Parent) (ps : List (Option Node)) → Apart (places_in f) → ((p : ℕ) → In p (places_in f) → p < length ps) → Stand f up (laid g f up ps)
  laid_stand none up ps apart inside = tt
  laid_stand (node p r c kids rest) up ps apart inside =
      let parts = apart_parts (places_in kids) (places_in rest) apart.1 in
      let ps₁ = laid g kids (first_below p) ps in
      let n = fresh g r c up (places kids) in
      let ps₂ = set ps₁ p (Some n) in
      let here : p < length ps₁ = subst (λ m. p < m) (sym (laid_length kids (first_below p) ps)) (inside p (inl refl)) in
      let not-rest : In p (places_in rest) → ⊥ = λ h. apart.0 (in_right p (places_in kids) (places_in rest) h) in
      let long : length ps ≡ length ps₂ = sym (length-set ps₁ p (Some n) ∙ laid_length kids (first_below p) ps) in (
        laid_other rest (next_to up) ps₂ p not-rest ∙ get_or-set_same ps₁ p (Some n) None here,
        stand_same kids (first_below p) ps₁ (laid g rest (next_to up) ps₂)
            (λ q k.
            laid_other rest (next_to up) ps₂ q (parts.2 q k)
            ∙ get_or-set_other ps₁ p q (Some n) None (λ e. apart.0 (in_left p (places_in kids) (places_in rest) (subst (λ z. In z (places_in kids)) e k))))
            (laid_stand kids (first_below p) ps parts.0 (λ q k. inside q (inr (in_left q (places_in kids) (places_in rest) k)))),
        laid_stand rest (next_to up) ps₂ parts.1 (λ q k. subst (λ m. q < m) long (inside q (inr (in_right q (places_in kids) (places_in rest) k)))),
      )

  pub agrees_many : (f : Forest) (xs : List ℕ) → Agrees g f xs → length (places f) ≡ length xs
  agrees_many none [] ag = refl
  agrees_many none (x ∷ xs) ag = absurd ag
  agrees_many (node p r c kids rest) [] ag = absurd ag
  agrees_many (node p r c kids rest) (x ∷ xs) ag = ap suc (agrees_many rest xs ag.3)

  -- no rule has more than four right symbols
  abbrev pub Narrow : Type 0
  Narrow = (r : ℕ) → r < length g.rules → arity g r ≤ 4

  pub stand_shows : Narrow → (f : Forest) (xs : List ℕ) (o : Option ℕ) (k : ℕ) (ps : List (Option Node)) → Agrees g f xs → Stand f (hung o k) ps → Shows (table g ps) f (links o) k
  stand_shows narrow none xs o k ps ag h = tt
  stand_shows narrow (node p r c kids rest) [] o k ps ag h = absurd ag
  stand_shows narrow (node p r c kids rest) (x ∷ xs) o k ps ag h =
      let many : length (places kids) ≡ arity g r = agrees_many kids (rule g r).right ag.2 in
      let few : length (places kids) ≤ 4 = subst (λ m. m ≤ 4) (sym many) (narrow r ag.0) in
      let cell : table g ps p ≡ cell_of g (Some (fresh g r c (hung o k) (places kids))) = ap (cell_of g) h.0 in (
        ap (λ z. z.rule) cell,
        ap (λ z. z.code) cell,
        ap (λ z. z.kids) cell ∙ ap (λ m. firsts m (four_of (places kids))) (sym many) ∙ firsts_four (places kids) few,
        ap (λ z. z.link) cell ∙ hung_link o k,
        stand_shows narrow kids (rule g r).right (Some p) 1 ps ag.2 h.1,
        stand_shows narrow rest xs o (suc k) ps ag.3 (subst (λ u. Stand rest u ps) (hung_next o k) h.2),
      )

  pub in_row : (p i n : ℕ) (x : Instance) → In x (row p i n) → (x.0 ≡ p) × (x.1 < i + n)
  in_row p i zero x h = absurd h
  in_row p i (suc n) x (inl e) = (ap (λ z. z.0) e, omega (arith, ap (λ z. z.1) e))
  in_row p i (suc n) x (inr h) = let k = in_row p (suc i) n x h in (k.0, omega (arith, k.1))

  -- all instances of the trees are owed
  pub stand_owed : (f : Forest) (up : Option Parent) (ps : List (Option Node)) → Stand f up ps → (x : Instance) → In x (instances g f) → owed_at ps x ≡ true
  stand_owed none up ps h x k = absurd k
  stand_owed (node p r c kids rest) up ps h x k =
      ⊎_elim
      (λ m. let w = in_row p 0 (attributes g r) x m in
      let l : x.1 < attributes g r = omega (arith, w.1) in
      ap (λ o. owes (marks_in o) x.1) (ap (at ps) w.0 ∙ h.0) ∙ owes_ones (attributes g r) x.1 l)
      (λ m. ⊎_elim (stand_owed kids (first_below p) ps h.1 x) (stand_owed rest (next_to up) ps h.2 x) (in_cases x (instances g kids) (instances g rest) m))
      (in_cases x (row p 0 (attributes g r)) (instances g kids ++ instances g rest) k)
