use Rattle.std.proofs.Common.{◌≡◌, ◌++◌, take}
use Rattle.archive.specs.Texts.{written}
use Rattle.archive.proofs.text.Text.push_number.Given as goal

-- what was there before, and the digits that came so far
abbrev pub invariant-loop-digit : goal.invariant-loop-digit
invariant-loop-digit l = written l.self ≡ take 40 (written l.fn.self ++ take l.digit-index l.digit-items)
