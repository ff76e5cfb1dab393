-- Each kind of word: it is read as x just where it is the writing of x.
use Rattle.std.proofs.Common.{◌≡◌, ℕ, ◌<◌, ◌≤◌, Bool, true, false, cond, eqb, List, [], ◌∷◌, map, Some, None, decimal, Option, sym, refl, ap, ◌∙◌, subst, arith}
use Rattle.std.specs.Int.{IsInRange}
use Rattle.std.specs.List.{AllByRecursion}
use Rattle.std.proofs.lemmas.Bool.{eqb-true}
use Rattle.std.proofs.lemmas.Bool.Decides.{nat_tests}
use Rattle.words.specs.Cuts.{Lacks, Halves, cut_at}
use Rattle.words.specs.Numbers.{digit, number_in, both, pair_of, pair_in}
use Rattle.words.specs.Tokens.{Token, numeric, lettered, by_first, lex, number_of, pair_word}
use Rattle.words.specs.Tokens.Token.{key, number, pair, instruction}
use Rattle.words.proofs.Parts.{lacks_cons, cut_none}
use Rattle.grammar.specs.Forms.{with_visit, attribute_in, attribute_word, argument_of, datum_in, argument_word, evaluate_of, visit_of, return_of, instruction_in, instruction_word, onto, all_of}
use Rattle.grammar.specs.declared.terms.Flow.{Flow}
use Rattle.grammar.specs.declared.terms.Flow.TheVariants.{Inherited, Synthesized}
use Rattle.grammar.specs.declared.terms.Attribute.{Attribute}
use Rattle.grammar.specs.declared.terms.Argument.{Argument}
use Rattle.grammar.specs.declared.terms.Argument.TheVariants.{Datum, Of}
use Rattle.grammar.specs.declared.terms.Instruction.{Instruction}
use Rattle.grammar.specs.declared.terms.Instruction.TheVariants.{Evaluate, Visit, Return}
use Rattle.sheet.specs.Writing.{write_pair, letter, write_attribute, write_argument, write_instruction}
use Rattle.sheet.proofs.Statements.{SmallArgument, SmallInstruction}
use Rattle.sheet.proofs.Numerals.{Numeric, number_comes, number_goes_back, number_lacks, number_begins, pair_comes, pair_goes_back, pair_cuts, pair_lacks, pair_begins}

-- w writes what f reads, of those that are small, and with no space or line end
pub record Spells {X : Type 0} (f : Token → Option X) (w : X → List ℕ) (Small : X → Type 0) : Type 0 where
  pub back : (bs : List ℕ) (x : X) → f (lex bs) ≡ Some x → (bs ≡ w x) × Small x
  pub come : (x : X) → Small x → f (lex (w x)) ≡ Some x
  pub lacks : (c : ℕ) (x : X) → c < 33 → Small x → Lacks c (w x)

-- which token bytes are
data Lexed (bs : List ℕ) : Token → Type 0 where
  is_key : Lexed bs (key bs)
  is_number : Lexed bs (number bs)
  is_pair : (h : Halves) → cut_at 46 bs ≡ Some h → Lexed bs (pair h.before h.after)
  is_instruction : Lexed bs (instruction bs)

lexed : (bs : List ℕ) → Lexed bs (lex bs)
lexed [] = is_key
lexed (b ∷ bs) = first (digit b) bs
  where
    cut : (cs : List ℕ) (o : Option Halves) → cut_at 46 cs ≡ o → Lexed cs (numeric cs o)
    cut cs None e = is_number
    cut cs (Some h) e = is_pair h e

    second : (cs : List ℕ) (t : Bool) → Lexed cs (lettered cs t)
    second cs true = is_instruction
    second cs false = is_key

    first : (t : Bool) (cs : List ℕ) → Lexed (b ∷ cs) (by_first t b cs)
    first true cs = cut (b ∷ cs) (cut_at 46 (b ∷ cs)) refl
    first false [] = is_key
    first false (c ∷ cs) = second (b ∷ c ∷ cs) (digit c)

is_digit : (b : ℕ) → IsInRange 48 57 b → digit b ≡ true
is_digit b h = grind (arith, nat_tests)

lex_numeric : (w : List ℕ) → Numeric w → lex w ≡ numeric w (cut_at 46 w)
lex_numeric [] h = absurd (omega arith)
lex_numeric (b ∷ bs) h = ap (λ t. by_first t b bs) (is_digit b h.1)

lex_lettered : (b : ℕ) (w : List ℕ) → digit b ≡ false → Numeric w → lex (b ∷ w) ≡ instruction (b ∷ w)
lex_lettered b [] d h = absurd (omega arith)
lex_lettered b (c ∷ w) d h = ap (λ t. by_first t b (c ∷ w)) d ∙ ap (lettered (b ∷ c ∷ w)) (is_digit c h.1)

-- numbers
number_lexed : (bs : List ℕ) (t : Token) (n : ℕ) → Lexed bs t → number_of t ≡ Some n → number_in bs ≡ Some n
number_lexed bs _ n is_key e = absurd (grind arith)
number_lexed bs _ n is_number e = e
number_lexed bs _ n (is_pair h c) e = absurd (grind arith)
number_lexed bs _ n is_instruction e = absurd (grind arith)

lex_number : (n : ℕ) → n < 1000 → lex (decimal n) ≡ number (decimal n)
lex_number n h = lex_numeric (decimal n) (number_begins n h) ∙ ap (numeric (decimal n)) (cut_none 46 (decimal n) (number_lacks 46 n (omega arith) h))

pub numbers : Spells number_of decimal (λ n. n < 1000)
numbers = record {
  back = λ bs n e. number_goes_back bs n (number_lexed bs (lex bs) n (lexed bs) e);
  come = λ n h. ap number_of (lex_number n h) ∙ number_comes n h;
  lacks = λ c n l h. number_lacks c n (omega arith) h;
}

-- pairs
abbrev pub write_both : ℕ × ℕ → List ℕ
write_both p = write_pair p.0 p.1

abbrev pub SmallBoth : ℕ × ℕ → Type 0
SmallBoth p = (p.0 < 1000) × (p.1 < 1000)

pair_lexed : (bs : List ℕ) (t : Token) (p : ℕ × ℕ) → Lexed bs t → pair_word t ≡ Some p → pair_in bs ≡ Some p
pair_lexed bs _ p is_key e = absurd (grind arith)
pair_lexed bs _ p is_number e = absurd (grind arith)
pair_lexed bs _ p (is_pair h c) e = ap pair_of c ∙ e
pair_lexed bs _ p is_instruction e = absurd (grind arith)

lex_pair : (x y : ℕ) → x < 1000 → lex (write_pair x y) ≡ pair (decimal x) (decimal y)
lex_pair x y h = lex_numeric (write_pair x y) (pair_begins x y h) ∙ ap (numeric (write_pair x y)) (pair_cuts x y h)

pair_word_lem : (x y : ℕ) → x < 1000 → y < 1000 → pair_word (lex (write_pair x y)) ≡ Some (x, y)
pair_word_lem x y h k = ap pair_word (lex_pair x y h) ∙ (λ i. both (number_comes x h i) (number_comes y k i))

pub pairs : Spells pair_word write_both SmallBoth
pairs = record {
  back = λ bs p e. pair_goes_back bs p (pair_lexed bs (lex bs) p (lexed bs) e);
  come = λ p h. pair_word_lem p.0 p.1 h.0 h.1;
  lacks = λ c p l h. pair_lacks c p.0 p.1 (omega arith) h.0 h.1;
}

-- a test that decides between two readings
pub by_cond : {X G : Type 0} (t : Bool) (o p : Option X) (x : X) → cond t o p ≡ Some x → (t ≡ true → o ≡ Some x → G) → (p ≡ Some x → G) → G
by_cond true o p x e f g = f refl e
by_cond false o p x e f g = g e

-- a reading that is made of another by g
made_of : {X Y : Type 0} (on : Option Y → Option X) (g : Y → X) → on None ≡ None → ((y : Y) → on (Some y) ≡ Some (g y)) → (o : Option Y) (x : X) → on o ≡ Some x → (y : Y) × (o ≡ Some y) × (g y ≡ x)
made_of on g n s None x e = let z : None ≡ Some x = sym n ∙ e in absurd (grind arith)
made_of on g n s (Some y) x e = let z : Some (g y) ≡ Some x = sym (s y) ∙ e in (y, refl, (cc))

-- its first byte is the letter c
letter_back : {S : Type 0} (b c : ℕ) (bs w : List ℕ) → eqb b c ≡ true → (c ∷ bs ≡ w) × S → (b ∷ bs ≡ w) × S
letter_back b c bs w t r = (ap (λ z. z ∷ bs) (eqb-true b c t) ∙ r.0, r.1)

-- attributes
abbrev pub SmallAttribute : Attribute → Type 0
SmallAttribute x = x.visit < 1000

visit_back : (f : Flow) (bs : List ℕ) (x : Attribute) → with_visit f (number_in bs) ≡ Some x → (letter f ∷ bs ≡ write_attribute x) × SmallAttribute x
visit_back f bs x e =
    let m = made_of (with_visit f) (λ n. record { flow = f; visit = n }) refl (λ n. refl) (number_in bs) x e in
    let r = number_goes_back bs m.0 m.1 in
    subst (λ y. (letter f ∷ bs ≡ write_attribute y) × SmallAttribute y) m.2 (ap (λ ds. letter f ∷ ds) r.0, r.1)

attribute_back : (bs : List ℕ) (x : Attribute) → attribute_in bs ≡ Some x → (bs ≡ write_attribute x) × SmallAttribute x
attribute_back [] x e = absurd (grind arith)
attribute_back (b ∷ bs) x e =
    by_cond (eqb b 73) _ _ x e
    (λ t i. letter_back b 73 bs (write_attribute x) t (visit_back Inherited bs x i))
    (λ e₁. by_cond (eqb b 83) _ _ x e₁ (λ t i. letter_back b 83 bs (write_attribute x) t (visit_back Synthesized bs x i)) (λ z. absurd (grind arith)))

attribute_lexed : (bs : List ℕ) (t : Token) (x : Attribute) → Lexed bs t → attribute_word t ≡ Some x → attribute_in bs ≡ Some x
attribute_lexed bs _ x is_key e = absurd (grind arith)
attribute_lexed bs _ x is_number e = absurd (grind arith)
attribute_lexed bs _ x (is_pair h c) e = absurd (grind arith)
attribute_lexed bs _ x is_instruction e = e

attribute_comes : (f : Flow) (n : ℕ) → n < 1000 → attribute_word (lex (letter f ∷ decimal n)) ≡ Some (record { flow = f; visit = n })
attribute_comes Inherited n h = ap attribute_word (lex_lettered 73 (decimal n) refl (number_begins n h)) ∙ ap (with_visit Inherited) (number_comes n h)
attribute_comes Synthesized n h = ap attribute_word (lex_lettered 83 (decimal n) refl (number_begins n h)) ∙ ap (with_visit Synthesized) (number_comes n h)

letter_high : (f : Flow) → 33 ≤ letter f
letter_high Inherited = omega arith
letter_high Synthesized = omega arith

pub attributes : Spells attribute_word write_attribute SmallAttribute
attributes = record {
  back = λ bs x e. attribute_back bs x (attribute_lexed bs (lex bs) x (lexed bs) e);
  come = λ x h. attribute_comes x.flow x.visit h;
  lacks = λ c x l h. lacks_cons c (letter x.flow) (decimal x.visit) (λ e. omega (arith, letter_high x.flow)) (number_lacks c x.visit (omega arith) h);
}

-- arguments
datum_back : (bs : List ℕ) (x : Argument) → datum_in bs ≡ Some x → (bs ≡ write_argument x) × SmallArgument x
datum_back [] x e = absurd (grind arith)
datum_back (b ∷ []) x e =
    by_cond (eqb b 100) _ _ x e
    (λ t i. let is : Datum ≡ x = cc in subst (λ y. (b ∷ [] ≡ write_argument y) × SmallArgument y) is (ap (λ z. z ∷ []) (eqb-true b 100 t), tt))
    (λ z. absurd (grind arith))
datum_back (b ∷ c ∷ bs) x e = absurd (grind arith)

argument_lexed : (bs : List ℕ) (t : Token) (x : Argument) → Lexed bs t → argument_word t ≡ Some x → (bs ≡ write_argument x) × SmallArgument x
argument_lexed bs _ x is_key e = datum_back bs x e
argument_lexed bs _ x is_number e = absurd (grind arith)
argument_lexed bs _ x (is_pair h c) e =
    let m = made_of argument_of (λ p. Of p.0 p.1) refl (λ p. refl) (pair_word (pair h.before h.after)) x e in
    subst (λ y. (bs ≡ write_argument y) × SmallArgument y) m.2 (pair_goes_back bs m.0 (ap pair_of c ∙ m.1))
argument_lexed bs _ x is_instruction e = absurd (grind arith)

argument_comes : (x : Argument) → SmallArgument x → argument_word (lex (write_argument x)) ≡ Some x
argument_comes Datum h = refl
argument_comes (Of o a) h = ap argument_word (lex_pair o a h.0) ∙ (λ i. argument_of (both (number_comes o h.0 i) (number_comes a h.1 i)))

argument_lacks : (c : ℕ) (x : Argument) → c < 33 → SmallArgument x → Lacks c (write_argument x)
argument_lacks c Datum l h = lacks_cons c 100 [] (λ e. omega arith) (λ k m e. omega arith)
argument_lacks c (Of o a) l h = pair_lacks c o a (omega arith) h.0 h.1

pub arguments : Spells argument_word write_argument SmallArgument
arguments = record { back = λ bs x e. argument_lexed bs (lex bs) x (lexed bs) e; come = argument_comes; lacks = argument_lacks }

-- instructions
instruction_back : (bs : List ℕ) (x : Instruction) → instruction_in bs ≡ Some x → (bs ≡ write_instruction x) × SmallInstruction x
instruction_back [] x e = absurd (grind arith)
instruction_back (b ∷ bs) x e =
    by_cond (eqb b 101) _ _ x e (λ t i. letter_back b 101 bs (write_instruction x) t (evaluate i))
    (λ e₁. by_cond (eqb b 118) _ _ x e₁ (λ t i. letter_back b 118 bs (write_instruction x) t (visit i))
    (λ e₂. by_cond (eqb b 114) _ _ x e₂ (λ t i. letter_back b 114 bs (write_instruction x) t (return i)) (λ z. absurd (grind arith))))
  where
    evaluate : evaluate_of (pair_in bs) ≡ Some x → (101 ∷ bs ≡ write_instruction x) × SmallInstruction x
    evaluate i =
        let m = made_of evaluate_of (λ p. Evaluate p.0 p.1) refl (λ p. refl) (pair_in bs) x i in
        let r = pair_goes_back bs m.0 m.1 in
        subst (λ y. (101 ∷ bs ≡ write_instruction y) × SmallInstruction y) m.2 (ap (λ ds. 101 ∷ ds) r.0, r.1)

    visit : visit_of (pair_in bs) ≡ Some x → (118 ∷ bs ≡ write_instruction x) × SmallInstruction x
    visit i =
        let m = made_of visit_of (λ p. Visit p.0 p.1) refl (λ p. refl) (pair_in bs) x i in
        let r = pair_goes_back bs m.0 m.1 in
        subst (λ y. (118 ∷ bs ≡ write_instruction y) × SmallInstruction y) m.2 (ap (λ ds. 118 ∷ ds) r.0, r.1)

    return : return_of (number_in bs) ≡ Some x → (114 ∷ bs ≡ write_instruction x) × SmallInstruction x
    return i =
        let m = made_of return_of Return refl (λ n. refl) (number_in bs) x i in
        let r = number_goes_back bs m.0 m.1 in
        subst (λ y. (114 ∷ bs ≡ write_instruction y) × SmallInstruction y) m.2 (ap (λ ds. 114 ∷ ds) r.0, r.1)

instruction_lexed : (bs : List ℕ) (t : Token) (x : Instruction) → Lexed bs t → instruction_word t ≡ Some x → instruction_in bs ≡ Some x
instruction_lexed bs _ x is_key e = absurd (grind arith)
instruction_lexed bs _ x is_number e = absurd (grind arith)
instruction_lexed bs _ x (is_pair h c) e = absurd (grind arith)
instruction_lexed bs _ x is_instruction e = e

instruction_comes : (x : Instruction) → SmallInstruction x → instruction_word (lex (write_instruction x)) ≡ Some x
instruction_comes (Evaluate o a) h = ap instruction_word (lex_lettered 101 (write_pair o a) refl (pair_begins o a h.0)) ∙ ap evaluate_of (pair_comes o a h.0 h.1)
instruction_comes (Visit k j) h = ap instruction_word (lex_lettered 118 (write_pair k j) refl (pair_begins k j h.0)) ∙ ap visit_of (pair_comes k j h.0 h.1)
instruction_comes (Return j) h = ap instruction_word (lex_lettered 114 (decimal j) refl (number_begins j h)) ∙ ap return_of (number_comes j h)

instruction_lacks : (c : ℕ) (x : Instruction) → c < 33 → SmallInstruction x → Lacks c (write_instruction x)
instruction_lacks c (Evaluate o a) l h = lacks_cons c 101 (write_pair o a) (λ e. omega arith) (pair_lacks c o a (omega arith) h.0 h.1)
instruction_lacks c (Visit k j) l h = lacks_cons c 118 (write_pair k j) (λ e. omega arith) (pair_lacks c k j (omega arith) h.0 h.1)
instruction_lacks c (Return j) l h = lacks_cons c 114 (decimal j) (λ e. omega arith) (number_lacks c j (omega arith) h)

pub instructions : Spells instruction_word write_instruction SmallInstruction
instructions = record { back = λ bs x e. instruction_back bs x (instruction_lexed bs (lex bs) x (lexed bs) e); come = instruction_comes; lacks = instruction_lacks }

-- many words
onto_back : {X : Type 0} (o : Option X) (r : Option (List X)) (xs : List X) → onto o r ≡ Some xs → (y : X) × (ys : List X) × (o ≡ Some y) × (r ≡ Some ys) × (y ∷ ys ≡ xs)
onto_back None r xs h = absurd (grind arith)
onto_back (Some y) None xs h = absurd (grind arith)
onto_back (Some y) (Some ys) xs h = (y, ys, refl, refl, (cc))

module _ {X : Type 0} (f : Token → Option X) (w : X → List ℕ) (Small : X → Type 0) (s : Spells f w Small) where
  pub words_back : (ws : List (List ℕ)) (xs : List X) → all_of f (map lex ws) ≡ Some xs → (ws ≡ map w xs) × AllByRecursion Small xs
  words_back [] xs e = let is : [] ≡ xs = cc in subst (λ ys. ([] ≡ map w ys) × AllByRecursion Small ys) is (refl, tt)
  words_back (v ∷ ws) xs e =
      let p = onto_back (f (lex v)) (all_of f (map lex ws)) xs e in
      let one = s.back v p.0 p.2 in
      let more = words_back ws p.1 p.3 in
      subst (λ ys. (v ∷ ws ≡ map w ys) × AllByRecursion Small ys) p.4 ((λ i. one.0 i ∷ more.0 i), (one.1, more.1))

  pub words_come : (xs : List X) → AllByRecursion Small xs → all_of f (map lex (map w xs)) ≡ Some xs
  words_come [] h = refl
  words_come (x ∷ xs) h = (λ i. onto (s.come x h.0 i) (words_come xs h.1 i))

  pub words_lack : (c : ℕ) (xs : List X) → c < 33 → AllByRecursion Small xs → AllByRecursion (Lacks c) (map w xs)
  words_lack c [] l h = tt
  words_lack c (x ∷ xs) l h = (s.lacks c x l h.0, words_lack c xs l h.1)
