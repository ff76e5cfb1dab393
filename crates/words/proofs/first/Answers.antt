use Rattle.std.proofs.Common.{◌≡◌, ℕ, List, ◌∷◌, [], Some, None, map, ap, rules}
use Rattle.words.specs.Cuts.{cut_at}
use Rattle.words.specs.Tokens.{lex, words_in}
use Rattle.words.proofs.Parts.{parts_cut, parts_last}
use Rattle.words.proofs.first.Goals as goal

word_cut : (s a b : List ℕ) → cut_at 32 s ≡ Some (record { before = a; after = b }) → words_in s ≡ lex a ∷ words_in b
word_cut s a b e = ap (map lex) (parts_cut 32 s (record { before = a; after = b }) e)

word_last : (s : List ℕ) → cut_at 32 s ≡ None → words_in s ≡ lex s ∷ []
word_last s e = ap (map lex) (parts_last 32 s e)

pub returns : goal.returns
returns c = search (rules, word_cut, word_last)
