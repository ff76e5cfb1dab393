-- An archive that tells values apart.
use Rattle.std.specs.Prelude.{ℕ, Bool, List, [], ◌∷◌, ◌≢◌}
use Rattle.std.specs.List.{AllByRecursion}
use Rattle.archive.specs.declared.clip.Row.{Row}
use Rattle.archive.specs.declared.house.House.{House}
use Rattle.archive.specs.Functions.{result_of}
use Rattle.archive.specs.Rows.{length_of}
use Rattle.archive.specs.Settings.{same_identifier, leaf_by_id, same_path, leaf_by_path}

-- no two of them are equal
abbrev pub Different : {V : Type 0} → List V → Type 0
Different [] = Unit {0}
Different (v ∷ vs) = AllByRecursion (λ w. v ≢ w) vs × Different vs

-- the length of the clip that a code stands for, added to no frames
abbrev pub length_at : {V : Type 0} → (ℕ → V) → (ℕ → V → V → V → V) → ℕ → V
length_at leaf result code = result 3 (result 0 (leaf 0) (leaf 0) (leaf 0)) (leaf code) (leaf 0)

-- two codes whose clips differ in length, and by that in sums, in choices and in what is later;
-- a sum, a length, a choice and what is later differ from each other too
pub record Varied {V : Type 0} (leaf : ℕ → V) (result : ℕ → V → V → V → V) (p q : ℕ) : Type 0 where
  pub lengths : Different (length_at leaf result p ∷ length_at leaf result q ∷ [])
  pub sums : Different (result 2 (length_at leaf result p) (length_at leaf result p) (leaf 0) ∷ result 2 (length_at leaf result p) (length_at leaf result q) (leaf 0) ∷ [])
  pub choices : Different (result 4 (leaf 0) (leaf p) (leaf 0) ∷ result 4 (leaf q) (leaf p) (leaf 0) ∷ [])
  pub laters : Different (result 5 (length_at leaf result p) (length_at leaf result p) (leaf 0) ∷ result 5 (length_at leaf result p) (length_at leaf result q) (leaf 0) ∷ [])
  pub kinds : Different (result 2 (length_at leaf result p) (length_at leaf result q) (leaf 0) ∷ length_at leaf result p ∷ result 4 (leaf p) (leaf q) (leaf 0) ∷ result 5 (length_at leaf result p) (length_at leaf result q) (leaf 0) ∷ [])

-- a clip of 10 frames and another of 20
abbrev pub two_rows : {C : Type 0} → C → C → List (Row C)
two_rows a b = record { clip = a; frames = 10 } ∷ record { clip = b; frames = 20 } ∷ []

-- over these rows the codes 1 and 2 are told apart
abbrev pub VariedOver : {C : Type 0} → (C → C → Bool) → (List (Row C) → ℕ → House C) → C → C → Type 0
VariedOver matches leafs a b = Varied (leafs (two_rows a b)) (λ f v w x. result_of (length_of matches (two_rows a b)) f v w) 1 2

-- by identifier, over the clips 1 and 2
abbrev pub VariedByIdentifier : Type 0
VariedByIdentifier = VariedOver same_identifier (λ rows n. leaf_by_id n) (record { 0 = 1 }) (record { 0 = 2 })

-- by path, over the clips 1/2/3 and 1/2/4
abbrev pub VariedByPath : Type 0
VariedByPath = VariedOver same_path leaf_by_path (record { volume = 1; folder = 2; name = 3 }) (record { volume = 1; folder = 2; name = 4 })
