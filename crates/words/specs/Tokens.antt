-- What the words of a line are.
use Rattle.std.specs.Prelude.{ℕ, Bool, true, false, List, [], ◌∷◌, map, Some, None, Option}
use Rattle.words.specs.Cuts.{Halves, cut_at, parts_at}
use Rattle.words.specs.Numbers.{digit, number_in, both}
use Rattle.words.specs.declared.Word.{Word}
use Rattle.words.specs.declared.Word.TheVariants.{Key, Number, Pair, Instruction}

-- a word by its bytes: a number begins with a digit, a pair too and has a dot, an instruction is a byte that is no
-- digit with a digit behind it; every other word is a key
pub data Token : Type 0 where
  key : List ℕ → Token
  number : List ℕ → Token
  pair : List ℕ → List ℕ → Token
  instruction : List ℕ → Token

-- the token that a word stands for
abbrev pub token_of : Word → Token
token_of (Key k) = key k.now
token_of (Number n) = number n.now
token_of (Pair a b) = pair a.now b.now
token_of (Instruction i) = instruction i.now

abbrev pub numeric : List ℕ → Option Halves → Token
numeric bs None = number bs
numeric bs (Some h) = pair h.before h.after

abbrev pub lettered : List ℕ → Bool → Token
lettered bs true = instruction bs
lettered bs false = key bs

abbrev pub behind : ℕ → List ℕ → Token
behind b [] = key (b ∷ [])
behind b (c ∷ bs) = lettered (b ∷ c ∷ bs) (digit c)

abbrev pub by_first : Bool → ℕ → List ℕ → Token
by_first true b bs = numeric (b ∷ bs) (cut_at 46 (b ∷ bs))
by_first false b bs = behind b bs

abbrev pub lex : List ℕ → Token
lex [] = key []
lex (b ∷ bs) = by_first (digit b) b bs

-- the words of a text, parted by one space
abbrev pub words_in : List ℕ → List Token
words_in bs = map lex (parts_at 32 bs)

-- a line: what stands before its first `=`, and the words behind that
pub record Keyed : Type 0 where
  pub name : List ℕ
  pub words : List Token

abbrev pub keyed_by : Option Halves → Option Keyed
keyed_by None = None
keyed_by (Some h) = Some (record { name = h.before; words = words_in h.after })

abbrev pub line_in : List ℕ → Option Keyed
line_in bs = keyed_by (cut_at 61 bs)

-- the number that a word is
abbrev pub number_of : Token → Option ℕ
number_of (key k) = None
number_of (number n) = number_in n
number_of (pair a b) = None
number_of (instruction i) = None

-- the two numbers of a dotted pair
abbrev pub pair_word : Token → Option (ℕ × ℕ)
pair_word (key k) = None
pair_word (number n) = None
pair_word (pair a b) = both (number_in a) (number_in b)
pair_word (instruction i) = None
