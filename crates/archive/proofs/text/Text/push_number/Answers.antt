use Rattle.std.proofs.Common.{◌≡◌, ◌++◌, take, ℕ, suc, ◌+◌, List, [], ◌∷◌, get_or, sym, ap, ◌∙◌, append_assoc, arith, rules}
use Rattle.std.proofs.Math.Seq.{take-suc}
use Rattle.std.proofs.lemmas.List.{take_all}
use Rattle.archive.specs.Texts.{written}
use Rattle.archive.proofs.Writing.{piece, written_so_far, numeral_decimal}
use Rattle.archive.proofs.text.Text.push_number.Goals as goal

-- a byte that is pushed behind what is written, where it is the next digit
pushed : (start done w v : List ℕ) (byte digit : ℕ) → w ≡ take 40 (start ++ done) → v ≡ take 40 (w ++ byte ∷ []) → byte ≡ digit → v ≡ take 40 (start ++ (done ++ digit ∷ []))
pushed start done w v byte digit so_far push same = piece (start ++ done) _ _ _ so_far push ∙ ap (take 40) (append_assoc start done _ ∙ ap (λ (d : ℕ). start ++ (done ++ d ∷ [])) same)

pub loop-digit-init : goal.loop-digit-init
loop-digit-init c = written_so_far c.args.self.now.bytes c.args.self.now.len c.args.self.now.within c.args.self.now.size

pub loop-digit-preserved : goal.loop-digit-preserved
loop-digit-preserved c =
    let start = written c.args.self.now in
    let digits = c.as_bytes-digit-items.result.now in
    let i = c.loop-digit.digit-index in
    let next : i + 1 ≡ suc i = omega arith in
    let e = ap (λ (k : ℕ). take k digits) next ∙ take-suc digits i 0 (omega (arith, c.loop-digit-test.true)) in
    pushed start (take i digits) _ _ _ (get_or digits i 0) c.loop-digit.invariant c.push.ensures (search rules) ∙ ap (λ (l : List ℕ). take 40 (start ++ l)) (sym e)

pub returns : goal.returns
returns c =
    let digits = c.as_bytes-digit-items.result.now in
    let all = take_all c.loop-digit.digit-index digits (omega (arith, c.loop-digit-test.false, c.loop-digit.auto)) in
    let written_out = c.as_bytes-digit-items.ensures.value ∙ c.format.ensures.text ∙ sym (numeral_decimal c.args.n (omega arith)) in
    c.loop-digit.invariant ∙ ap (λ (l : List ℕ). take 40 (written c.args.self.now ++ l)) (all ∙ written_out)
