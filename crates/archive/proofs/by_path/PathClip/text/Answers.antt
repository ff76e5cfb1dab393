use Rattle.std.proofs.Common.{◌≡◌, ℕ, ◌≤◌, List, [], ◌∷◌, ◌++◌, length, sym, ◌∙◌, append_assoc, arith, length-append}
use Rattle.std.proofs.lemmas.List.{take_all}
use Rattle.archive.specs.Texts.{numeral}
use Rattle.archive.specs.Settings.{path_text}
use Rattle.archive.proofs.Writing.{piece, whole, length_numeral}
use Rattle.archive.proofs.by_path.PathClip.text.Goals as goal

pub returns : goal.returns
returns c =
    let p = c.args.self in
    let v = 112 ∷ numeral p.volume in
    let f = numeral p.folder in
    let n = numeral p.name in
    let lv : length (numeral p.volume) ≤ 10 = length_numeral p.volume (omega arith) in
    let lf : length f ≤ 10 = length_numeral p.folder (omega arith) in
    let ln : length n ≤ 10 = length_numeral p.name (omega arith) in
    let slash : List ℕ = 47 ∷ [] in
    let one = c.lettered-text.ensures ∙ sym (take_all 40 v (omega arith)) in
    let two = piece v _ slash _ one c.push.ensures in
    let three = piece (v ++ slash) _ f _ two c.push_number.ensures in
    let four = piece ((v ++ slash) ++ f) _ slash _ three c.push-2.ensures in
    let five = piece (((v ++ slash) ++ f) ++ slash) _ n _ four c.push_number-2.ensures in
    let e : (((v ++ slash) ++ f) ++ slash) ++ n ≡ path_text p = simp append_assoc in
    whole ((((v ++ slash) ++ f) ++ slash) ++ n) (path_text p) _ five e (simp length-append (omega arith))
