-- What a text holds, and how numbers are written.
use Rattle.std.specs.Prelude.{ℕ, zero, suc, ◌+◌, List, [], ◌∷◌, map, take}
use Rattle.std.specs.Int.Digits.{digits_of}
use Rattle.archive.specs.declared.text.Text.{Text}

abbrev pub written : Text → List ℕ
written t = take t.len t.bytes

-- the decimal digits of any number, however large; the library's `decimal` gives 64 of them at most
abbrev pub numeral : ℕ → List ℕ
numeral zero = 48 ∷ []
numeral (suc n) = map (λ d. 48 + d) (digits_of 10 (suc n))
