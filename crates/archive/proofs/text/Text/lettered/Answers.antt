use Rattle.std.proofs.Common.{◌≤◌, [], ◌∷◌, length, refl, arith}
use Rattle.archive.specs.Texts.{numeral}
use Rattle.archive.proofs.Writing.{piece, whole, length_numeral}
use Rattle.archive.proofs.text.Text.lettered.Goals as goal

pub returns : goal.returns
returns c =
    let letter = c.args.letter ∷ [] in
    let n = numeral c.args.n in
    let l : length n ≤ 10 = length_numeral c.args.n (omega arith) in
    let one = piece [] _ letter _ c.new-text.ensures c.push.ensures in
    let two = piece letter _ n _ one c.push_number.ensures in
    whole (c.args.letter ∷ n) (c.args.letter ∷ n) _ two refl (omega arith)
