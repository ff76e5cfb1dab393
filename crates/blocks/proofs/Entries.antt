-- Which values a block begins with, by its tree.
use Rattle.std.proofs.Common.{◌≡◌, ℕ, zero, suc, ◌+◌, ◌*◌, ◌<◌, ◌≤◌, Bool, true, false, cond, ltb, List, [], ◌∷◌, ◌++◌, length, get_or, set, Option, sym, refl, ap, ◌∙◌, subst, ap₂, inl, inr, ⊎_elim, append_assoc, arith}
use Rattle.std.proofs.ByRecursion.{All-get_or}
use Rattle.std.proofs.lemmas.List.{length-append, length-set, get_or-set_same, get_or-set_other, set_past, get_or_past}
use Rattle.std.proofs.lemmas.Bool.{cases_eq, cases_lt, ltb-true}
use Rattle.grammar.specs.Model.{Grammar}
use Rattle.sheet.specs.Meaning.{Sound, SoundSymbol}
use Rattle.tour.specs.Runs.{In}
use Rattle.tour.specs.Rules.{rule, no_symbol}
use Rattle.tour.specs.Trees.{Instance, Forest, places_in, row, instances}
use Rattle.tour.specs.Trees.Forest.{none, node}
use Rattle.tour.specs.Blocks.{pieces}
use Rattle.tour.proofs.Lists.{in_left, in_right, in_cases}
use Rattle.places.specs.Places.{attributes}
use Rattle.places.specs.declared.node.Node.{Node}
use Rattle.blocks.specs.Blank.{blank_row, blanked, Blanked}
use Rattle.blocks.specs.Block.{pairs}
use Rattle.places.specs.Totals.{free}
use Rattle.blocks.specs.Taken.{taken}
use Rattle.blocks.specs.Written.{BlockTree}
use Rattle.blocks.specs.declared.piece.Piece.{Piece}
use Rattle.blocks.proofs.Laying.{in_row}
use Rattle.blocks.proofs.Taking.{taken_takes}

module _ (g : Grammar) where
  -- the instances of pieces at places, as a list
  abbrev rows : List (ℕ × ℕ) → List ℕ → List Instance
  rows [] qs = []
  rows (b ∷ bs) [] = []
  rows (b ∷ bs) (q ∷ qs) = row q 0 (attributes g b.0) ++ rows bs qs

  rows_append : (bs cs : List (ℕ × ℕ)) (ps qs : List ℕ) → length bs ≡ length ps → rows (bs ++ cs) (ps ++ qs) ≡ rows bs ps ++ rows cs qs
  rows_append [] cs [] qs e = refl
  rows_append [] cs (p ∷ ps) qs e = absurd (omega arith)
  rows_append (b ∷ bs) cs [] qs e = absurd (omega arith)
  rows_append (b ∷ bs) cs (p ∷ ps) qs e = ap (λ z. row p 0 (attributes g b.0) ++ z) (rows_append bs cs ps qs (omega arith)) ∙ sym (append_assoc (row p 0 (attributes g b.0)) (rows bs ps) (rows cs qs))

  as_many : (f : Forest) → length (pieces f) ≡ length (places_in f)
  as_many none = refl
  as_many (node p r c kids rest) = ap suc (length-append (pieces kids) (pieces rest) ∙ ap₂ (λ a b. a + b) (as_many kids) (as_many rest) ∙ sym (length-append (places_in kids) (places_in rest)))

  instances_rows : (f : Forest) → instances g f ≡ rows (pieces f) (places_in f)
  instances_rows none = refl
  instances_rows (node p r c kids rest) =
      ap (λ z. row p 0 (attributes g r) ++ z) (ap₂ (λ a b. a ++ b) (instances_rows kids) (instances_rows rest) ∙ sym (rows_append (pieces kids) (pieces rest) (places_in kids) (places_in rest) (as_many kids)))

  row_in : (p i n a : ℕ) → i ≤ a → a < i + n → In (p, a) (row p i n)
  row_in p i zero a l m = absurd (omega arith)
  row_in p i (suc n) a l m = ⊎_elim (λ e. inl (ap (λ z. (p, z)) (sym e))) (λ d. inr (row_in p (suc i) n a (omega (arith, d)) (omega arith))) (cases_eq i a)

  module _ {V : Type 0} (v m : V) where
    set_keeps : (vs : List V) (j k : ℕ) → get_or vs k m ≡ v → get_or (set vs j v) k m ≡ v
    set_keeps vs j k e =
        ⊎_elim
        (λ s. ⊎_elim (λ l. ap (λ z. get_or (set vs j v) z m) s ∙ get_or-set_same vs j v m l) (λ l. ap (λ z. get_or z k m) (set_past vs j v l) ∙ e) (cases_lt j (length vs)))
        (λ d. get_or-set_other vs j k v m d ∙ e)
        (cases_eq k j)

    row_length : (q n : ℕ) (vs : List V) → length (blank_row v q n vs) ≡ length vs
    row_length q zero vs = refl
    row_length q (suc n) vs = length-set (blank_row v q n vs) (16 * q + n) v ∙ row_length q n vs

    row_keeps : (q n : ℕ) (vs : List V) (k : ℕ) → get_or vs k m ≡ v → get_or (blank_row v q n vs) k m ≡ v
    row_keeps q zero vs k e = e
    row_keeps q (suc n) vs k e = set_keeps (blank_row v q n vs) (16 * q + n) k (row_keeps q n vs k e)

    row_sets : (q n : ℕ) (vs : List V) (a : ℕ) → a < n → 16 * q + a < length vs → get_or (blank_row v q n vs) (16 * q + a) m ≡ v
    row_sets q zero vs a l w = absurd (omega arith)
    row_sets q (suc n) vs a l w =
        ⊎_elim
        (λ s. let w' : 16 * q + n < length (blank_row v q n vs) = omega (arith, row_length q n vs, s) in
        ap (λ z. get_or (blank_row v q (suc n) vs) (16 * q + z) m) s ∙ get_or-set_same (blank_row v q n vs) (16 * q + n) v m w')
        (λ d. set_keeps (blank_row v q n vs) (16 * q + n) (16 * q + a) (row_sets q n vs a (omega (arith, d)) w))
        (cases_eq a n)

    row_leaves : (q n : ℕ) (vs : List V) (p a : ℕ) → n ≤ 16 → a < 16 → (In (p, a) (row q 0 n) → ⊥) → get_or (blank_row v q n vs) (16 * p + a) m ≡ get_or vs (16 * p + a) m
    row_leaves q n vs p a l w out = go n l (λ j less e f. out (subst (λ z. In z (row q 0 n)) (ap₂ (λ y z. (y, z)) (sym e) (sym f)) (row_in q 0 n j (omega arith) (omega arith))))
      where
        go : (k : ℕ) → k ≤ 16 → ((j : ℕ) → j < k → p ≡ q → a ≡ j → ⊥) → get_or (blank_row v q k vs) (16 * p + a) m ≡ get_or vs (16 * p + a) m
        go zero l never = refl
        go (suc k) l never =
            get_or-set_other (blank_row v q k vs) (16 * q + k) (16 * p + a) v m (λ e. never k (omega arith) (omega (arith, e)) (omega (arith, e)))
            ∙ go k (omega arith) (λ j less. never j (omega arith))

    blanked_length : (bs : List Piece) (qs : List ℕ) (vs : List V) → length (blanked g v bs qs vs) ≡ length vs
    blanked_length [] qs vs = refl
    blanked_length (b ∷ bs) [] vs = refl
    blanked_length (b ∷ bs) (q ∷ qs) vs = blanked_length bs qs (blank_row v q (attributes g b.rule) vs) ∙ row_length q (attributes g b.rule) vs

    blanked_keeps : (bs : List Piece) (qs : List ℕ) (vs : List V) (k : ℕ) → get_or vs k m ≡ v → get_or (blanked g v bs qs vs) k m ≡ v
    blanked_keeps [] qs vs k e = e
    blanked_keeps (b ∷ bs) [] vs k e = e
    blanked_keeps (b ∷ bs) (q ∷ qs) vs k e = blanked_keeps bs qs (blank_row v q (attributes g b.rule) vs) k (row_keeps q (attributes g b.rule) vs k e)

    blanked_sets : (bs : List Piece) (qs : List ℕ) (vs : List V) (x : Instance) → In x (rows (pairs bs) qs) → 16 * x.0 + x.1 < length vs → get_or (blanked g v bs qs vs) (16 * x.0 + x.1) m ≡ v
    blanked_sets [] qs vs x h w = absurd h
    blanked_sets (b ∷ bs) [] vs x h w = absurd h
    blanked_sets (b ∷ bs) (q ∷ qs) vs x h w =
        let n = attributes g b.rule in
        ⊎_elim
        (λ k. let r = in_row g q 0 n x k in
        let l : x.1 < n = omega (arith, r.1) in
        let w' : 16 * q + x.1 < length vs = omega (arith, r.0, w) in
        blanked_keeps bs qs (blank_row v q n vs) (16 * x.0 + x.1) (ap (λ z. get_or (blank_row v q n vs) (16 * z + x.1) m) r.0 ∙ row_sets q n vs x.1 l w'))
        (λ k. blanked_sets bs qs (blank_row v q n vs) x k (omega (arith, row_length q n vs, w)))
        (in_cases x (row q 0 n) (rows (pairs bs) qs) h)

    blanked_leaves : ((r : ℕ) → attributes g r ≤ 16) → (bs : List Piece) (qs : List ℕ) (vs : List V) (x : Instance) → x.1 < 16 → (In x (rows (pairs bs) qs) → ⊥) → get_or (blanked g v bs qs vs) (16 * x.0 + x.1) m ≡ get_or vs (16 * x.0 + x.1) m
    blanked_leaves few [] qs vs x w out = refl
    blanked_leaves few (b ∷ bs) [] vs x w out = refl
    blanked_leaves few (b ∷ bs) (q ∷ qs) vs x w out =
        let n = attributes g b.rule in
        blanked_leaves few bs qs (blank_row v q n vs) x w (λ h. out (in_right x (row q 0 n) (rows (pairs bs) qs) h))
        ∙ row_leaves q n vs x.0 x.1 (few b.rule) w (λ h. out (in_left x (row q 0 n) (rows (pairs bs) qs) h))

  rows_place : (bs : List (ℕ × ℕ)) (qs : List ℕ) (x : Instance) → In x (rows bs qs) → In x.0 qs
  rows_place [] qs x h = absurd h
  rows_place (b ∷ bs) [] x h = absurd h
  rows_place (b ∷ bs) (q ∷ qs) x h = ⊎_elim (λ k. inl (in_row g q 0 (attributes g b.0) x k).0) (λ k. inr (rows_place bs qs x k)) (in_cases x (row q 0 (attributes g b.0)) (rows bs qs) h)

  few_attributes : Sound g → (r : ℕ) → attributes g r ≤ 16
  few_attributes s r =
      let y = (rule g r).left in
      ⊎_elim
      (λ l. (All-get_or SoundSymbol g.symbols y no_symbol l s.symbols_sound).few_attributes)
      (λ l. let e : attributes g r ≡ 0 = ap (λ z. length z.attributes) (get_or_past g.symbols y no_symbol l) in omega (arith, e))
      (cases_lt y (length g.symbols))

  pub blanked_trees : {V : Type 0} (v : V) → Sound g → (ps : List (Option Node)) (bs : List Piece) (vs vs' : List V) → length bs ≤ length (free ps) → 16 * length ps ≤ length vs → vs' ≡ blanked g v bs (taken ps (length bs)) vs
      → (f : Forest) → BlockTree g ps bs f → Blanked g v f vs vs'
  blanked_trees v sound ps bs vs vs' room entries e f tree = record { blank = λ x h. blank x (is x h) (ltb x.1 16) refl; others = λ x out. others x (λ h. out (isnt x h)) (ltb x.1 16) refl }
    where
      same : instances g f ≡ rows (pairs bs) (taken ps (length bs))
      same = instances_rows f ∙ ap₂ rows tree.block tree.at

      is : (x : Instance) → In x (instances g f) → In x (rows (pairs bs) (taken ps (length bs)))
      is x h = subst (In x) same h

      isnt : (x : Instance) → In x (rows (pairs bs) (taken ps (length bs))) → In x (instances g f)
      isnt x h = subst (In x) (sym same) h

      blank : (x : Instance) → In x (rows (pairs bs) (taken ps (length bs))) → (b : Bool) → ltb x.1 16 ≡ b → cond (ltb x.1 16) (get_or vs' (16 * x.0 + x.1) v) v ≡ v
      blank x h true t =
          let low : x.1 < 16 = ltb-true x.1 16 t in
          let inside : x.0 < length ps = (taken_takes ps (length bs) room).inside x.0 (rows_place (pairs bs) (taken ps (length bs)) x h) in
          ap (λ b. cond b (get_or vs' (16 * x.0 + x.1) v) v) t ∙ ap (λ z. get_or z (16 * x.0 + x.1) v) e ∙ blanked_sets v v bs (taken ps (length bs)) vs x h (omega (arith, low, inside, entries))
      blank x h false t = ap (λ b. cond b (get_or vs' (16 * x.0 + x.1) v) v) t

      others : (x : Instance) → (In x (rows (pairs bs) (taken ps (length bs))) → ⊥) → (b : Bool) → ltb x.1 16 ≡ b → cond (ltb x.1 16) (get_or vs' (16 * x.0 + x.1) v) v ≡ cond (ltb x.1 16) (get_or vs (16 * x.0 + x.1) v) v
      others x out true t =
          ap (λ b. cond (ltb x.1 16) b v) (ap (λ z. get_or z (16 * x.0 + x.1) v) e ∙ blanked_leaves v v (few_attributes sound) bs (taken ps (length bs)) vs x (ltb-true x.1 16 t) out)
      others x out false t = ap (λ b. cond b (get_or vs' (16 * x.0 + x.1) v) v) t ∙ sym (ap (λ b. cond b (get_or vs (16 * x.0 + x.1) v) v) t)
