-- Each kind of line: it is taken as l just where it is the writing of l.
use Rattle.std.proofs.Common.{◌≡◌, ℕ, ◌<◌, ◌≤◌, Bool, true, false, cond, leb, List, [], ◌∷◌, ◌++◌, map, length, Some, None, Ok, Err, codes, decimal, Option, Result, sym, refl, ap, ◌∙◌, subst, arith}
use Rattle.std.specs.List.{AllByRecursion}
use Rattle.std.specs.Str.{bytes_eq}
use Rattle.std.proofs.lemmas.List.{length-map}
use Rattle.std.proofs.lemmas.Bool.{cond-true, leb-true, le-leb}
use Rattle.std.proofs.lemmas.Slice.Eq.{bytes_eq-Decides}
use Rattle.words.specs.Cuts.{Lacks, Halves, cut_at, parts_at}
use Rattle.words.specs.Tokens.{Token, keyed_by, lex, words_in, number_of, pair_word}
use Rattle.words.proofs.Parts.{cut_back, cut_lacks, parts_some}
use Rattle.grammar.specs.Forms.{attribute_word, argument_word, instruction_word, all_of, at_most}
use Rattle.grammar.specs.declared.terms.Argument.{Argument}
use Rattle.grammar.specs.declared.terms.Instruction.{Instruction}
use Rattle.grammar.specs.declared.refusal.Refusal.{Refusal}
use Rattle.grammar.specs.declared.refusal.Refusal.TheVariants.{Range}
use Rattle.lines.specs.LineKinds.{Line}
use Rattle.lines.specs.LineKinds.Line.{symbol_line, rule_line, set_line, plan_line}
use Rattle.lines.specs.Lines.{key_in, together, equation, function_in, symbol_in, rule_in, set_in, planned_by, plan_in, parse}
use Rattle.reader.specs.Steps.{State, allowed}
use Rattle.reader.specs.Steps.Step.{next}
use Rattle.reader.specs.Judgement.{on_line, if_allowed, on_key, on_keyed, judge_line}
use Rattle.lines.specs.declared.says.Key.{Key}
use Rattle.lines.specs.declared.says.Key.TheVariants.{OfSymbol, OfRule, OfSet, OfPlan}
use Rattle.sheet.specs.Writing.{write_pair, write_attribute, write_argument, write_instruction, spaced, write_line}
use Rattle.sheet.proofs.Statements.{kind, SmallArgument, SmallInstruction, Writable, ReadAs, LinesGoBack, LinesCome, LinesLackEnds}
use Rattle.sheet.proofs.Numerals.{lacks_append}
use Rattle.sheet.proofs.WordForms.{Spells, SmallAttribute, by_cond, words_back, words_come, words_lack, numbers, pairs, attributes, arguments, instructions}
use Rattle.sheet.proofs.Spacing.{words_joined, words_parted, spaced_lacks}

abbrev pub name_of : Key → List ℕ
name_of OfSymbol = codes "symbol"
name_of OfRule = codes "rule"
name_of OfSet = codes "set"
name_of OfPlan = codes "plan"

pub key_back : (name : List ℕ) (k : Key) → key_in name ≡ Some k → name ≡ name_of k
key_back name k e =
    by_cond (bytes_eq name (codes "symbol")) _ _ k e (λ t i. at OfSymbol t i)
    (λ e₁. by_cond (bytes_eq name (codes "rule")) _ _ k e₁ (λ t i. at OfRule t i)
    (λ e₂. by_cond (bytes_eq name (codes "set")) _ _ k e₂ (λ t i. at OfSet t i)
    (λ e₃. by_cond (bytes_eq name (codes "plan")) _ _ k e₃ (λ t i. at OfPlan t i) (λ z. absurd (grind arith)))))
  where
    at : (j : Key) → bytes_eq name (name_of j) ≡ true → Some j ≡ Some k → name ≡ name_of k
    at j t i = let is : j ≡ k = cc in (bytes_eq-Decides name (name_of j)).0 t ∙ ap name_of is

together_back : {X Y Z : Type 0} (f : X → Y → Z) (o : Option X) (r : Result Y Refusal) (z : Z) → together f o r ≡ Ok z → (x : X) × (y : Y) × (o ≡ Some x) × (r ≡ Ok y) × (f x y ≡ z)
together_back f None r z e = absurd (grind arith)
together_back f (Some x) (Err u) z e = absurd (grind arith)
together_back f (Some x) (Ok y) z e = (x, y, refl, refl, (cc))

at_most_back : {X : Type 0} (n : ℕ) (o : Option (List X)) (xs : List X) → at_most n o ≡ Ok xs → (o ≡ Some xs) × (length xs ≤ n)
at_most_back n None xs e = absurd (grind arith)
at_most_back n (Some ys) xs e = by (leb (length ys) n) refl e
  where
    by : (t : Bool) → leb (length ys) n ≡ t → cond t (Ok ys) (Err Range) ≡ Ok xs → (Some ys ≡ Some xs) × (length xs ≤ n)
    by true h k = let is : ys ≡ xs = cc in (ap Some is, subst (λ zs. length zs ≤ n) is (leb-true (length ys) n h))
    by false h k = absurd (grind arith)

at_most_comes : {X : Type 0} (n : ℕ) (xs : List X) → length xs ≤ n → at_most n (Some xs) ≡ Ok xs
at_most_comes n xs h = cond-true (leb (length xs) n) _ _ (le-leb (length xs) n h)

-- a number, and then at most n words of one kind
module _ {X Z : Type 0} (f : Token → Option X) (w : X → List ℕ) (Small : X → Type 0) (s : Spells f w Small) (n : ℕ) (mk : ℕ → List X → Z) where
  counted_back : (v : List ℕ) (ws : List (List ℕ)) (z : Z) → together mk (number_of (lex v)) (at_most n (all_of f (map lex ws))) ≡ Ok z → (x : ℕ) × (xs : List X) × (mk x xs ≡ z) × (v ∷ ws ≡ decimal x ∷ map w xs) × ((x < 1000) × (length xs ≤ n) × AllByRecursion Small xs)
  counted_back v ws z e =
      let t = together_back mk (number_of (lex v)) (at_most n (all_of f (map lex ws))) z e in
      let a = at_most_back n (all_of f (map lex ws)) t.1 t.3 in
      let p = numbers.back v t.0 t.2 in
      let q = words_back f w Small s ws t.1 a.0 in
      (t.0, t.1, t.4, (λ i. p.0 i ∷ q.0 i), (p.1, a.1, q.1))

  counted_comes : (x : ℕ) (xs : List X) → x < 1000 → length xs ≤ n → AllByRecursion Small xs → together mk (number_of (lex (decimal x))) (at_most n (all_of f (map lex (map w xs)))) ≡ Ok (mk x xs)
  counted_comes x xs h l a = (λ i. together mk (numbers.come x h i) (at_most n (words_come f w Small s xs a i))) ∙ ap (together mk (Some x)) (at_most_comes n xs l)

-- the words ws behind the name of k are the writing of l
pub record OfKind (k : Key) (ws : List (List ℕ)) (l : Line) : Type 0 where
  pub written : name_of k ++ 61 ∷ spaced ws ≡ write_line l
  pub key : k ≡ kind l
  pub small : Writable l

symbol_back : (ws : List (List ℕ)) (l : Line) → symbol_in (map lex ws) ≡ Ok l → OfKind OfSymbol ws l
symbol_back [] l e = absurd (grind arith)
symbol_back (v ∷ ws) l e =
    let c = counted_back attribute_word write_attribute SmallAttribute attributes 16 symbol_line v ws l e in
    subst (OfKind OfSymbol (v ∷ ws)) c.2 (record { written = ap (λ vs. codes "symbol=" ++ spaced vs) c.3; key = refl; small = c.4 })

rule_back : (ws : List (List ℕ)) (l : Line) → rule_in (map lex ws) ≡ Ok l → OfKind OfRule ws l
rule_back [] l e = absurd (grind arith)
rule_back (v ∷ ws) l e =
    let c = counted_back number_of decimal (λ n. n < 1000) numbers 4 rule_line v ws l e in
    subst (OfKind OfRule (v ∷ ws)) c.2 (record { written = ap (λ vs. codes "rule=" ++ spaced vs) c.3; key = refl; small = c.4 })

function_back : (ws : List (List ℕ)) (z : ℕ × List Argument) → function_in (map lex ws) ≡ Ok z → (ws ≡ decimal z.0 ∷ map write_argument z.1) × ((z.0 < 1000) × (length z.1 ≤ 3) × AllByRecursion SmallArgument z.1)
function_back [] z e = absurd (grind arith)
function_back (v ∷ ws) z e =
    let c = counted_back argument_word write_argument SmallArgument arguments 3 (λ n xs. (n, xs)) v ws z e in
    subst (λ (y : ℕ × List Argument). (v ∷ ws ≡ decimal y.0 ∷ map write_argument y.1) × ((y.0 < 1000) × (length y.1 ≤ 3) × AllByRecursion SmallArgument y.1)) c.2 (c.3, c.4)

set_back : (ws : List (List ℕ)) (l : Line) → set_in (map lex ws) ≡ Ok l → OfKind OfSet ws l
set_back [] l e = absurd (grind arith)
set_back (v ∷ ws) l e =
    let t = together_back equation (pair_word (lex v)) (function_in (map lex ws)) l e in
    let p = pairs.back v t.0 t.2 in
    let q = function_back ws t.1 t.3 in
    subst (OfKind OfSet (v ∷ ws)) t.4 (record { written = (λ i. codes "set=" ++ spaced (p.0 i ∷ q.0 i)); key = refl; small = (p.1, q.1.0, q.1.1, q.1.2) })

plan_back : (ws : List (List ℕ)) (l : Line) → 0 < length ws → plan_in (map lex ws) ≡ Ok l → OfKind OfPlan ws l
plan_back ws l some e = by (all_of instruction_word (map lex ws)) refl e
  where
    by : (o : Option (List Instruction)) → all_of instruction_word (map lex ws) ≡ o → planned_by o ≡ Ok l → OfKind OfPlan ws l
    by None h k = absurd (grind arith)
    by (Some is) h k =
        let q = words_back instruction_word write_instruction SmallInstruction instructions ws is h in
        let line : plan_line is ≡ l = cc in
        let long : length ws ≡ length is = ap length q.0 ∙ length-map is write_instruction in
        subst (OfKind OfPlan ws) line (record { written = ap (λ vs. codes "plan=" ++ spaced vs) q.0; key = refl; small = (omega arith, q.1) })

pub parse_back : (k : Key) (ws : List (List ℕ)) (l : Line) → 0 < length ws → parse k (map lex ws) ≡ Ok l → OfKind k ws l
parse_back OfSymbol ws l some e = symbol_back ws l e
parse_back OfRule ws l some e = rule_back ws l e
parse_back OfSet ws l some e = set_back ws l e
parse_back OfPlan ws l some e = plan_back ws l some e

pub lines_go_back : LinesGoBack
lines_go_back st bytes st' e = cut (cut_at 61 bytes) refl e
  where
    line : (h : Halves) (k : Key) (r : Result Line Refusal) (b : Bool) → bytes ≡ name_of k ++ 61 ∷ h.after → parse k (words_in h.after) ≡ r → allowed st k ≡ b → if_allowed b (on_line st r) ≡ next st' → ReadAs st bytes st'
    line h k r false w p a q = absurd (grind arith)
    line h k (Err u) true w p a q = absurd (grind arith)
    line h k (Ok l) true w p a q =
        let o = parse_back k (parts_at 32 h.after) l (parts_some 32 h.after) p in
        record { line = l; written = w ∙ ap (λ cs. name_of k ++ 61 ∷ cs) (sym (words_joined h.after)) ∙ o.written; small = o.small; key = ap (allowed st) (sym o.key) ∙ a; taken = q }

    named : (h : Halves) (o : Option Key) → bytes ≡ h.before ++ 61 ∷ h.after → key_in h.before ≡ o → on_key st o (words_in h.after) ≡ next st' → ReadAs st bytes st'
    named h None w i q = absurd (grind arith)
    named h (Some k) w i q = line h k (parse k (words_in h.after)) (allowed st k) (w ∙ ap (λ n. n ++ 61 ∷ h.after) (key_back h.before k i)) refl refl q

    cut : (o : Option Halves) → cut_at 61 bytes ≡ o → on_keyed st (keyed_by o) ≡ next st' → ReadAs st bytes st'
    cut None c q = absurd (grind arith)
    cut (Some h) c q = named h (key_in h.before) (cut_back 61 bytes h c).whole refl q

-- the words of a line
abbrev words_of : Line → List (List ℕ)
words_of (symbol_line v xs) = decimal v ∷ map write_attribute xs
words_of (rule_line l rs) = decimal l ∷ map decimal rs
words_of (set_line e) = write_pair e.occurrence e.attribute ∷ decimal e.function ∷ map write_argument e.arguments
words_of (plan_line is) = map write_instruction is

some_words : (l : Line) → Writable l → 0 < length (words_of l)
some_words (symbol_line v xs) s = omega arith
some_words (rule_line l rs) s = omega arith
some_words (set_line e) s = omega arith
some_words (plan_line is) s = simp length-map s.0

words_of_lack : (c : ℕ) (l : Line) → c < 33 → Writable l → AllByRecursion (Lacks c) (words_of l)
words_of_lack c (symbol_line v xs) h s = (numbers.lacks c v h s.0, words_lack attribute_word write_attribute SmallAttribute attributes c xs h s.2)
words_of_lack c (rule_line l rs) h s = (numbers.lacks c l h s.0, words_lack number_of decimal (λ n. n < 1000) numbers c rs h s.2)
words_of_lack c (set_line e) h s = (pairs.lacks c (e.occurrence, e.attribute) h s.0, (numbers.lacks c e.function h s.1, words_lack argument_word write_argument SmallArgument arguments c e.arguments h s.3))
words_of_lack c (plan_line is) h s = words_lack instruction_word write_instruction SmallInstruction instructions c is h s.1

parse_comes : (l : Line) → Writable l → parse (kind l) (map lex (words_of l)) ≡ Ok l
parse_comes (symbol_line v xs) s = counted_comes attribute_word write_attribute SmallAttribute attributes 16 symbol_line v xs s.0 s.1 s.2
parse_comes (rule_line l rs) s = counted_comes number_of decimal (λ n. n < 1000) numbers 4 rule_line l rs s.0 s.1 s.2
parse_comes (set_line e) s =
    (λ i. together equation (pairs.come (e.occurrence, e.attribute) s.0 i) (counted_comes argument_word write_argument SmallArgument arguments 3 (λ n xs. (n, xs)) e.function e.arguments s.1 s.2 s.3 i))
parse_comes (plan_line is) s = ap planned_by (words_come instruction_word write_instruction SmallInstruction instructions is s.1)

line_named : (st : State) (l : Line) → judge_line st (write_line l) ≡ if_allowed (allowed st (kind l)) (on_line st (parse (kind l) (words_in (spaced (words_of l)))))
line_named st (symbol_line v xs) = refl
line_named st (rule_line l rs) = refl
line_named st (set_line e) = refl
line_named st (plan_line is) = refl

pub lines_come : LinesCome
lines_come st l s =
    line_named st l
    ∙ ap (λ ws. if_allowed (allowed st (kind l)) (on_line st (parse (kind l) (map lex ws)))) (words_parted (words_of l) (some_words l s) (words_of_lack 32 l (omega arith) s))
    ∙ ap (λ r. if_allowed (allowed st (kind l)) (on_line st r)) (parse_comes l s)

behind_name : (name : List ℕ) (l : Line) → cut_at 10 name ≡ None → Writable l → Lacks 10 (name ++ spaced (words_of l))
behind_name name l c s = lacks_append 10 name (spaced (words_of l)) (cut_lacks 10 name c) (spaced_lacks 10 (words_of l) (λ e. omega arith) (words_of_lack 10 l (omega arith) s))

pub lines_lack_ends : LinesLackEnds
lines_lack_ends (symbol_line v xs) s = behind_name (codes "symbol=") (symbol_line v xs) refl s
lines_lack_ends (rule_line l rs) s = behind_name (codes "rule=") (rule_line l rs) refl s
lines_lack_ends (set_line e) s = behind_name (codes "set=") (set_line e) refl s
lines_lack_ends (plan_line is) s = behind_name (codes "plan=") (plan_line is) refl s
