-- What a pushdown list holds, the element that was put on last at the end.
use Rattle.std.specs.Prelude.{ℕ, List, take}

abbrev pub stacked : {X : Type 0} → List X → ℕ → List X
stacked cells n = take n cells
