-- How the counts of a sheet are written.
use Rattle.std.specs.Prelude.{ℕ, List, ◌++◌, codes, decimal}
use Rattle.sheet.specs.declared.counts.Counts.{Counts}

abbrev pub counts_text : Counts → List ℕ
counts_text c = codes "symbols=" ++ (decimal c.symbols ++ (codes " rules=" ++ (decimal c.rules ++ (codes " sets=" ++ (decimal c.sets ++ (codes " instructions=" ++ decimal c.instructions))))))
