-- Values that a new block begins with.
use Rattle.std.specs.Prelude.{◌≡◌, ℕ, zero, suc, ◌+◌, ◌*◌, List, [], ◌∷◌, slice_set}
use Rattle.grammar.specs.Model.{Grammar}
use Rattle.tour.specs.Runs.{In}
use Rattle.tour.specs.Trees.{Instance, Forest, instances}
use Rattle.places.specs.Places.{attributes, value_at}
use Rattle.blocks.specs.declared.piece.Piece.{Piece}

-- the first n values of a place at v
abbrev pub blank_row : {V : Type 0} → V → ℕ → ℕ → List V → List V
blank_row v p zero vs = vs
blank_row v p (suc n) vs = slice_set (blank_row v p n vs) (16 * p + n) v

-- all values of the pieces at v, each piece at its place
abbrev pub blanked : {V : Type 0} → Grammar → V → List Piece → List ℕ → List V → List V
blanked g v [] qs vs = vs
blanked g v (b ∷ bs) [] vs = vs
blanked g v (b ∷ bs) (q ∷ qs) vs = blanked g v bs qs (blank_row v q (attributes g b.rule) vs)

-- in the words of trees: every value of the trees is v, and no other value is altered
pub record Blanked {V : Type 0} (g : Grammar) (v : V) (f : Forest) (vs vs' : List V) : Type 0 where
  pub blank : (x : Instance) → In x (instances g f) → value_at v vs' x ≡ v
  pub others : (x : Instance) → (In x (instances g f) → ⊥) → value_at v vs' x ≡ value_at v vs x
