-- How bytes are cut at a separator.
use Rattle.std.specs.Prelude.{ℕ, ◌<◌, Bool, true, false, List, [], ◌∷◌, length, Some, None, Option, ◌==◌, ◌≢◌, slice_index}

-- c does not stand in xs
abbrev pub Lacks : ℕ → List ℕ → Type 0
Lacks c xs = (k : ℕ) → k < length xs → slice_index xs k ≢ c

-- two parts of a text, around a separator
pub record Halves : Type 0 where
  pub before : List ℕ
  pub after : List ℕ

abbrev pub before_in : ℕ → Option Halves → Option Halves
before_in b None = None
before_in b (Some h) = Some (record { before = b ∷ h.before; after = h.after })

abbrev pub cut_or : Bool → ℕ → List ℕ → Option Halves → Option Halves
cut_or true b bs later = Some (record { before = []; after = bs })
cut_or false b bs later = before_in b later

-- what stands before the first c, and what after it
abbrev pub cut_at : ℕ → List ℕ → Option Halves
cut_at c [] = None
cut_at c (b ∷ bs) = cut_or (b == c) b bs (cut_at c bs)

abbrev pub on_first : ℕ → List (List ℕ) → List (List ℕ)
on_first b [] = (b ∷ []) ∷ []
on_first b (w ∷ ws) = (b ∷ w) ∷ ws

abbrev pub part_or : Bool → ℕ → List (List ℕ) → List (List ℕ)
part_or true b later = [] ∷ later
part_or false b later = on_first b later

-- the parts of a text between the places of c; always at least one
abbrev pub parts_at : ℕ → List ℕ → List (List ℕ)
parts_at c [] = [] ∷ []
parts_at c (b ∷ bs) = part_or (b == c) b (parts_at c bs)
