use Rattle.std.proofs.Common.{◌≡◌, ℕ, zero, suc, ◌<◌, List, codes, length, get_or, sym, ap, rules, arith}
use Rattle.std.proofs.lemmas.Grind.{same_number_lists}
use Rattle.lines.specs.Lines.{key_in}
use Rattle.grammar.specs.declared.refusal.Refusal.TheVariants.{LineForm}
use Rattle.std.specs.Option.{ok_or}
use Rattle.lines.proofs.says.KeyTryFromRefSliceU8.try_from.Goals as goal

six : (xs : List ℕ) → length xs ≡ 6 → get_or xs 0 0 ≡ 115 → get_or xs 1 0 ≡ 121 → get_or xs 2 0 ≡ 109 → get_or xs 3 0 ≡ 98 → get_or xs 4 0 ≡ 111 → get_or xs 5 0 ≡ 108 → xs ≡ codes "symbol"
six xs n a b c d e f = same_number_lists xs (codes "symbol") n at
  where
    at : (k : ℕ) → k < length xs → get_or xs k 0 ≡ get_or (codes "symbol") k 0
    at zero l = a
    at (suc zero) l = b
    at (suc (suc zero)) l = c
    at (suc (suc (suc zero))) l = d
    at (suc (suc (suc (suc zero)))) l = e
    at (suc (suc (suc (suc (suc zero))))) l = f
    at (suc (suc (suc (suc (suc (suc k)))))) l = absurd (omega arith)

pub returns-in-symbol : goal.returns-in-symbol
returns-in-symbol c =
    let name = c.args.name.now in
    let n : length name ≡ 6 = omega arith in
    let b0 : get_or name 0 0 ≡ 115 = search rules in
    let b1 : get_or name 1 0 ≡ 121 = search rules in
    let b2 : get_or name 2 0 ≡ 109 = search rules in
    let b3 : get_or name 3 0 ≡ 98 = search rules in
    let b4 : get_or name 4 0 ≡ 111 = search rules in
    let b5 : get_or name 5 0 ≡ 108 = search rules in
    sym (ap (λ xs. ok_or (key_in xs) LineForm) (six name n b0 b1 b2 b3 b4 b5))
