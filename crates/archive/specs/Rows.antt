-- What a catalogue says of a clip.
use Rattle.std.specs.Prelude.{ℕ, Bool, List, Option, ◌≢◌, slice_index}
use Rattle.std.specs.Option.{option_map}
use Rattle.std.specs.List.{find}
use Rattle.archive.specs.declared.clip.Row.{Row}

-- the length in the first row that matches
abbrev pub length_of : {C : Type 0} → (C → C → Bool) → List (Row C) → C → Option ℕ
length_of matches rows clip = option_map (λ row. row.frames) (find (λ row. matches row.clip clip) rows)

-- a text that begins with neither - nor f
abbrev pub Led : List ℕ → Type 0
Led bs = (slice_index bs 0 ≢ 45) × (slice_index bs 0 ≢ 102)
