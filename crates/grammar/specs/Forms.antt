-- What a word says.
use Rattle.std.specs.Prelude.{ℕ, cond, List, [], ◌∷◌, length, Some, None, Ok, Err, Option, Result, ◌==◌, nat_le}
use Rattle.words.specs.Numbers.{number_in, pair_in}
use Rattle.words.specs.Tokens.{Token, pair_word}
use Rattle.words.specs.Tokens.Token.{key, number, pair, instruction}
use Rattle.grammar.specs.declared.terms.Flow.{Flow}
use Rattle.grammar.specs.declared.terms.Flow.TheVariants.{Inherited, Synthesized}
use Rattle.grammar.specs.declared.terms.Attribute.{Attribute}
use Rattle.grammar.specs.declared.terms.Argument.{Argument}
use Rattle.grammar.specs.declared.terms.Argument.TheVariants.{Datum, Of}
use Rattle.grammar.specs.declared.terms.Instruction.{Instruction}
use Rattle.grammar.specs.declared.terms.Instruction.TheVariants.{Evaluate, Visit, Return}
use Rattle.grammar.specs.declared.refusal.Refusal.{Refusal}
use Rattle.grammar.specs.declared.refusal.Refusal.TheVariants.{LineForm, Range}

abbrev pub with_visit : Flow → Option ℕ → Option Attribute
with_visit f None = None
with_visit f (Some n) = Some (record { flow = f; visit = n })

-- I or S, and then a visit
abbrev pub attribute_in : List ℕ → Option Attribute
attribute_in [] = None
attribute_in (b ∷ bs) = cond (b == 73) (with_visit Inherited (number_in bs)) (cond (b == 83) (with_visit Synthesized (number_in bs)) None)

abbrev pub attribute_word : Token → Option Attribute
attribute_word (key k) = None
attribute_word (number n) = None
attribute_word (pair a b) = None
attribute_word (instruction i) = attribute_in i

abbrev pub argument_of : Option (ℕ × ℕ) → Option Argument
argument_of None = None
argument_of (Some p) = Some (Of p.0 p.1)

abbrev pub datum_in : List ℕ → Option Argument
datum_in [] = None
datum_in (b ∷ []) = cond (b == 100) (Some Datum) None
datum_in (b ∷ c ∷ bs) = None

-- a dotted pair, or d
abbrev pub argument_word : Token → Option Argument
argument_word (key k) = datum_in k
argument_word (number n) = None
argument_word (pair a b) = argument_of (pair_word (pair a b))
argument_word (instruction i) = None

abbrev pub evaluate_of : Option (ℕ × ℕ) → Option Instruction
evaluate_of None = None
evaluate_of (Some p) = Some (Evaluate p.0 p.1)

abbrev pub visit_of : Option (ℕ × ℕ) → Option Instruction
visit_of None = None
visit_of (Some p) = Some (Visit p.0 p.1)

abbrev pub return_of : Option ℕ → Option Instruction
return_of None = None
return_of (Some n) = Some (Return n)

-- e, v or r, and then a pair or a number
abbrev pub instruction_in : List ℕ → Option Instruction
instruction_in [] = None
instruction_in (b ∷ bs) = cond (b == 101) (evaluate_of (pair_in bs)) (cond (b == 118) (visit_of (pair_in bs)) (cond (b == 114) (return_of (number_in bs)) None))

abbrev pub instruction_word : Token → Option Instruction
instruction_word (key k) = None
instruction_word (number n) = None
instruction_word (pair a b) = None
instruction_word (instruction i) = instruction_in i

abbrev pub onto : {X : Type 0} → Option X → Option (List X) → Option (List X)
onto None xs = None
onto (Some x) None = None
onto (Some x) (Some xs) = Some (x ∷ xs)

-- what all the words say, if each says something
abbrev pub all_of : {X : Type 0} → (Token → Option X) → List Token → Option (List X)
all_of f [] = Some []
all_of f (w ∷ ws) = onto (f w) (all_of f ws)

-- the line's form comes before the number of its words
abbrev pub at_most : {X : Type 0} → ℕ → Option (List X) → Result (List X) Refusal
at_most n None = Err LineForm
at_most n (Some xs) = cond (nat_le (length xs) n) (Ok xs) (Err Range)
