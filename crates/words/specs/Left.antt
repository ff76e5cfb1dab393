-- The words that are yet to come.
use Rattle.std.specs.Prelude.{◌≡◌, ℕ, List, [], Some, None, Option, IfSome}
use Rattle.std.specs.Iterator.{YieldsFirstBy}
use Rattle.std.specs.Borrow.{Bor}
use Rattle.words.specs.Tokens.{Token, Keyed, token_of, words_in}
use Rattle.words.specs.Tokens.Token.{key}
use Rattle.words.specs.declared.Line.{Line}
use Rattle.words.specs.declared.Placed.{Placed}
use Rattle.words.specs.declared.Words.{Words}

abbrev pub left_in : Option (Bor (List ℕ)) → List Token
left_in None = []
left_in (Some s) = words_in s.now

abbrev pub left : Words → List Token
left w = left_in w.rest

-- the token of a word that is placed in a line
abbrev pub token_at : Placed → Token
token_at p = token_of p.word

-- from w comes the first of the words that are left, placed in the line, and v is what is left then; or none is left
abbrev pub Gives : Words → Option Placed → Words → Type 0
Gives w r v = YieldsFirstBy token_at left w r v × IfSome r (λ p. p.line ≡ w.line) × (v.line ≡ w.line)

-- line l, numbered n, is what was read
abbrev pub KeyedLine : Line → ℕ → Option Keyed → Type 0
KeyedLine l n None = ⊥
KeyedLine l n (Some k) = (token_of l.key.word ≡ key k.name) × (left l.words ≡ k.words) × (l.key.line ≡ n) × (l.words.line ≡ n)
