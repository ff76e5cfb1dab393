-- The turns of an occurrence, compared with the numbers that they should be.
use Rattle.std.proofs.Common.{◌≡◌, ℕ, suc, ◌+◌, ◌-◌, ◌<◌, ◌≤◌, Bool, true, false, ◌&&◌, eqb, List, [], ◌∷◌, ◌++◌, length, get_or, drop, is_some, Some, None, Option, sym, refl, ap, ◌∙◌, ⊎_elim, arith}
use Rattle.std.specs.Option.{option_to_list}
use Rattle.std.specs.Str.{bytes_eq}
use Rattle.std.proofs.lemmas.List.{at_drop_more, at_drop_all}
use Rattle.std.proofs.lemmas.Bool.{cases_lt, eq-eqb, ne_eqb}
use Rattle.grammar.specs.declared.terms.Instruction.{Instruction}
use Rattle.grammar.specs.declared.terms.Instruction.TheVariants.{Evaluate, Visit, Return}
use Rattle.plans.specs.PlanRules.{is_return}
use Rattle.plans.specs.PlanTests.{keep_if, visit_turn, turns_of, numbers_from}
use Rattle.plans.proofs.Deciding.{never}

kept_first : (t : Bool) (j : ℕ) (js : List ℕ) → keep_if t j js ≡ keep_if t j [] ++ js
kept_first true j js = refl
kept_first false j js = refl

-- the turn that the first instruction is, if any, and those of the others
pub turns_first : (k : ℕ) (x : Instruction) (is : List Instruction) → turns_of k (x ∷ is) ≡ turns_of k (x ∷ []) ++ turns_of k is
turns_first k (Evaluate o a) is = refl
turns_first k (Visit o j) is = kept_first (visit_turn k o) j (turns_of k is)
turns_first k (Return j) is = kept_first (eqb 0 k) j (turns_of k is)

-- turn_of's answer at the left occurrence tells a return
pub turn_return : (x : Instruction) (o : Option ℕ) → option_to_list o ≡ turns_of 0 (x ∷ []) → is_return x ≡ is_some o
turn_return (Evaluate p a) None e = refl
turn_return (Evaluate p a) (Some i) e = never (cc)
turn_return (Visit k j) None e = refl
turn_return (Visit k j) (Some i) e = never (cc)
turn_return (Return j) None e = never (cc)
turn_return (Return j) (Some i) e = refl

-- of the numbers 1 to n, those after m
numbers_more : (m n : ℕ) → m < n → numbers_from (m + 1) (n - m) ≡ (m + 1) ∷ numbers_from (m + 1 + 1) (n - (m + 1))
numbers_more m n h =
    let left : n - m ≡ suc (n - (m + 1)) = omega arith in
    let next : suc (m + 1) ≡ m + 1 + 1 = omega arith in
    ap (numbers_from (m + 1)) left ∙ ap (λ i. (m + 1) ∷ numbers_from i (n - (m + 1))) next

numbers_done : (m n : ℕ) → n ≤ m → numbers_from (m + 1) (n - m) ≡ []
numbers_done m n h = let none : n - m ≡ 0 = omega arith in ap (numbers_from (m + 1)) none

-- the turns of occurrence k among these instructions are those of 1 to n that come after m
abbrev pub order_from : ℕ → ℕ → ℕ → List Instruction → Bool
order_from k n m is = bytes_eq (turns_of k is) (numbers_from (m + 1) (n - m))

pub order_none : (k n : ℕ) (plan : List Instruction) → order_from k n 0 plan ≡ bytes_eq (turns_of k plan) (numbers_from 1 n)
order_none k n plan = let all : n - 0 ≡ n = omega arith in ap (λ v. bytes_eq (turns_of k plan) (numbers_from 1 v)) all

-- a scan for the turns of occurrence k has come to place i, with m of them in order
module _ (k n m : ℕ) (plan : List Instruction) (i : ℕ) where
  -- place i is no turn
  pub order_other : (d : Instruction) → i < length plan → [] ≡ turns_of k (get_or plan i d ∷ []) → order_from k n m (drop (i + 1) plan) ≡ order_from k n m (drop i plan)
  order_other d h none =
      sym (at_drop_more (order_from k n m) plan i d h
      ∙ ap (λ ts. bytes_eq ts (numbers_from (m + 1) (n - m))) (turns_first k (get_or plan i d) (drop (i + 1) plan) ∙ ap (λ ts. ts ++ turns_of k (drop (i + 1) plan)) (sym none)))

  turn_here : (d : Instruction) (j : ℕ) → i < length plan → j ∷ [] ≡ turns_of k (get_or plan i d ∷ []) → order_from k n m (drop i plan) ≡ bytes_eq (j ∷ turns_of k (drop (i + 1) plan)) (numbers_from (m + 1) (n - m))
  turn_here d j h here =
      at_drop_more (order_from k n m) plan i d h
      ∙ ap (λ ts. bytes_eq ts (numbers_from (m + 1) (n - m))) (turns_first k (get_or plan i d) (drop (i + 1) plan) ∙ ap (λ ts. ts ++ turns_of k (drop (i + 1) plan)) (sym here))

  compared : (d : Instruction) (j : ℕ) → i < length plan → j ∷ [] ≡ turns_of k (get_or plan i d ∷ []) → m < n → order_from k n m (drop i plan) ≡ (eqb j (m + 1) && order_from k n (m + 1) (drop (i + 1) plan))
  compared d j h here l = turn_here d j h here ∙ ap (bytes_eq (j ∷ turns_of k (drop (i + 1) plan))) (numbers_more m n l)

  -- it is the turn that comes next
  pub order_more : (d : Instruction) (j : ℕ) → i < length plan → j ∷ [] ≡ turns_of k (get_or plan i d ∷ []) → m < n → j ≡ m + 1 → order_from k n (m + 1) (drop (i + 1) plan) ≡ order_from k n m (drop i plan)
  order_more d j h here l e = sym (compared d j h here l ∙ ap (λ t. t && order_from k n (m + 1) (drop (i + 1) plan)) (eq-eqb j (m + 1) e))

  -- it is another one
  pub order_wrong : (d : Instruction) (j : ℕ) → i < length plan → j ∷ [] ≡ turns_of k (get_or plan i d ∷ []) → m < n → (j ≡ m + 1 → ⊥) → order_from k n m (drop i plan) ≡ false
  order_wrong d j h here l e = compared d j h here l ∙ ap (λ t. t && order_from k n (m + 1) (drop (i + 1) plan)) (ne_eqb j (m + 1) e)

  -- it is one too many
  pub order_over : (d : Instruction) (j : ℕ) → i < length plan → j ∷ [] ≡ turns_of k (get_or plan i d ∷ []) → n ≤ m → order_from k n m (drop i plan) ≡ false
  order_over d j h here l = turn_here d j h here ∙ ap (bytes_eq (j ∷ turns_of k (drop (i + 1) plan))) (numbers_done m n l)

  -- the plan ends, with all turns or with too few
  pub order_end : length plan ≤ i → m ≤ n → order_from k n m (drop i plan) ≡ eqb m n
  order_end h l = at_drop_all (order_from k n m) plan i h ∙ ⊎_elim less all (cases_lt m n)
    where
      less : m < n → order_from k n m [] ≡ eqb m n
      less g = ap (bytes_eq []) (numbers_more m n g) ∙ sym (ne_eqb m n (λ e. omega arith))

      all : n ≤ m → order_from k n m [] ≡ eqb m n
      all g = ap (bytes_eq []) (numbers_done m n g) ∙ sym (eq-eqb m n (omega arith))
