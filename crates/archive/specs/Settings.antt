-- The two settings: what a code stands for, and how a clip is written.
use Rattle.std.specs.Prelude.{ℕ, zero, suc, Bool, ◌&&◌, List, ◌∷◌, ◌++◌, Some, None, Option, ◌==◌}
use Rattle.std.specs.List.{slice_get}
use Rattle.archive.specs.declared.by_id.Identifier.{Identifier}
use Rattle.archive.specs.declared.by_path.Path.{Path}
use Rattle.archive.specs.declared.clip.Row.{Row}
use Rattle.archive.specs.declared.house.House.{House}
use Rattle.archive.specs.declared.house.House.TheVariants.{Nothing, Clip}
use Rattle.archive.specs.Texts.{numeral}

-- by identifier: nothing, or that clip
abbrev pub leaf_by_id : ℕ → House Identifier
leaf_by_id zero = Nothing
leaf_by_id (suc n) = Clip (record { 0 = suc n })

abbrev pub same_identifier : Identifier → Identifier → Bool
same_identifier a b = a.0 == b.0

-- c7
abbrev pub identifier_text : Identifier → List ℕ
identifier_text a = 99 ∷ numeral a.0

abbrev pub clip_in : Option (Row Path) → House Path
clip_in None = Nothing
clip_in (Some row) = Clip row.clip

-- by path: what row n has, counted from 1
abbrev pub leaf_by_path : List (Row Path) → ℕ → House Path
leaf_by_path rows zero = Nothing
leaf_by_path rows (suc n) = clip_in (slice_get rows n)

abbrev pub same_path : Path → Path → Bool
same_path a b = a.volume == b.volume && (a.folder == b.folder && a.name == b.name)

-- p1/2/3
abbrev pub path_text : Path → List ℕ
path_text a = 112 ∷ (numeral a.volume ++ 47 ∷ (numeral a.folder ++ 47 ∷ numeral a.name))
