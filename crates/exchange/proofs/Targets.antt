-- The targets of a rule's equations at a node.
use Rattle.std.proofs.Common.{◌≡◌, ℕ, zero, suc, ◌+◌, ◌<◌, ◌≤◌, Bool, true, false, ◌&&◌, ◌||◌, ltb, List, [], ◌∷◌, map, length, get_or, take, drop, is_some, Some, None, Option, sym, refl, ap, ◌∙◌, ap₂, subst, add-one, arith, ltb-false, ltb-true}
use Rattle.std.specs.Option.{option_map}
use Rattle.std.specs.List.{slice_get, range_with_len}
use Rattle.std.proofs.lemmas.Option.{slice_get-get_or}
use Rattle.std.proofs.lemmas.List.{get_or-map, get_or_past, length-map, take_all}
use Rattle.grammar.specs.Model.{Equation, Grammar}
use Rattle.grammar.specs.Rows.{equation_of}
use Rattle.grammar.specs.Tests.{some}
use Rattle.grammar.specs.Rows.{EquationRow}
use Rattle.plans.specs.declared.Group.{Group}
use Rattle.sheet.specs.Answers.{group_rule}
use Rattle.sheet.specs.Meaning.{Sound}
use Rattle.tour.specs.Rules.{rule, occurs, no_rule}
use Rattle.tour.specs.Trees.{Instance, at_of}
use Rattle.places.specs.Places.{at, used, arity, firsts, cell_of, table}
use Rattle.places.specs.declared.node.Node.{Node}
use Rattle.exchange.specs.Takers.{Fits, FitsThere, FitsAt, takes_from, wakes, takers_among, takers_at}
use Rattle.exchange.specs.Waking.{is_at}
use Rattle.exchange.specs.declared.taken.Taken.{Taken}
use Rattle.exchange.proofs.Sheets.{equation_sound, rule_sound, few_attributes, defined_standing, nth_is}
use Rattle.exchange.proofs.Somes.{some_more}
use Rattle.places.proofs.Firsts.{firsts_at, length_firsts, at_of_firsts}

-- a used place is in the table
pub used_within : (ps : List (Option Node)) (p : ℕ) → used ps p ≡ true → p < length ps
used_within ps p h = by (ltb p (length ps)) refl
  where
    by : (b : Bool) → ltb p (length ps) ≡ b → p < length ps
    by true e = ltb-true p (length ps) e
    by false e = let z = ap is_some (get_or_past ps p None (ltb-false p (length ps) e)) in let y : false ≡ true = sym z ∙ h in let k : ◌≡◌ {A = ℕ} 0 1 = cc in absurd (omega arith)

pub fits_used : (g : Grammar) (ps : List (Option Node)) (p : ℕ) → FitsAt g ps p → used ps p ≡ true
fits_used g ps p = by (at ps p)
  where
    by : (x : Option Node) → FitsThere g ps x → is_some x ≡ true
    by None f = absurd f
    by (Some n) f = refl

-- an equation of the rule of the node n at p, ready to be looked at
pub record Ready (g : Grammar) (ps : List (Option Node)) (p : ℕ) (n : Node) (e : EquationRow) : Type 0 where
  pub occurrence : e.occurrence ≤ 4
  pub attribute : e.attribute < 16
  pub there : at_of p n.children e.occurrence < length ps
  pub kid : at_of p (firsts (arity g n.rule) n.children) e.occurrence ≡ at_of p n.children e.occurrence

module _ (g : Grammar) (ps : List (Option Node)) (p : ℕ) (n : Node) (s : Sound g) (f : Fits g ps n) (l : p < length ps) where
  pub occurrence_within : (o : ℕ) → o ≤ arity g n.rule → at_of p n.children o < length ps
  occurrence_within zero h = l
  occurrence_within (suc k) h = f.children_within k (omega arith)

  pub ready : (es : List EquationRow) → map equation_of es ≡ (rule g n.rule).equations → (i : ℕ) (e : EquationRow) → i < length es → e ≡ get_or es i e → Ready g ps p n e
  ready es same i e h is =
      let m : get_or (rule g n.rule).equations i (equation_of e) ≡ equation_of e = ap (λ x. get_or x i (equation_of e)) (sym same) ∙ get_or-map equation_of es i e (equation_of e) h ∙ ap equation_of (sym is) in
      let w : i < length (rule g n.rule).equations = (let a : length (rule g n.rule).equations ≡ length es = ap length (sym same) ∙ length-map es equation_of in omega arith) in
      let q = equation_sound g n.rule i (equation_of e) s f.rule_there w in
      let d = defined_standing g (rule g n.rule) _ _ q.target in
      let o : e.occurrence ≤ arity g n.rule = subst (λ (y : Equation). y.occurrence ≤ arity g n.rule) m d.occurrence in
      let few = few_attributes g (occurs (rule g n.rule) (get_or (rule g n.rule).equations i (equation_of e)).occurrence) s in
      let four = (rule_sound g n.rule s f.rule_there).few_right in
      record {
        occurrence = omega arith;
        attribute = subst (λ (y : Equation). y.attribute < 16) m (let b = d.attribute in omega arith);
        there = occurrence_within e.occurrence o;
        kid = at_of_firsts p (arity g n.rule) e.occurrence n.children o;
      }

-- one equation more
pub takers_more : (place at : ℕ → ℕ) (from : Taken) (es : List EquationRow) (i : ℕ) (e : EquationRow) → i < length es → e ≡ get_or es i e → place e.occurrence ≡ at e.occurrence → (x : Instance) → takers_among place from (take (i + 1) (map equation_of es)) x ≡ (takers_among place from (take i (map equation_of es)) x || wakes at from (equation_of e) x)
takers_more place at from es i e h is same x =
    let l : i < length (map equation_of es) = (let k = length-map es equation_of in omega arith) in
    let m : get_or (map equation_of es) i (equation_of e) ≡ equation_of e = get_or-map equation_of es i e (equation_of e) h ∙ ap equation_of (sym is) in
    some_more (λ q. wakes place from q x) (map equation_of es) i (equation_of e) l
    ∙ ap (λ q. takers_among place from (take i (map equation_of es)) x || wakes place from q x) m
    ∙ ap (λ k. takers_among place from (take i (map equation_of es)) x || (is_at k e.attribute x && some (takes_from from) (equation_of e).arguments)) same

-- the rule that a sheet answers
pub group_rule_lem : (g : Grammar) (r : ℕ) (k : Group) → option_map group_rule (Some k) ≡ slice_get g.rules r → group_rule k ≡ rule g r
group_rule_lem g r k e = sym (nth_is g.rules r (group_rule k) no_rule (sym e))

pub rule_there : (g : Grammar) (r : ℕ) → r < length g.rules → slice_get g.rules r ≡ None → ⊥
rule_there g r h e = let k = slice_get-get_or g.rules r no_rule h in let z : ◌≡◌ {A = ℕ} 0 1 = cc in omega arith

-- all of them
pub takers_all : (g : Grammar) (ps : List (Option Node)) (p : ℕ) (n : Node) (from : Taken) → at ps p ≡ Some n → (es : List EquationRow) (i : ℕ) → length es ≤ i → map equation_of es ≡ (rule g n.rule).equations → (x : Instance) → takers_among (at_of p (firsts (arity g n.rule) n.children)) from (take i (map equation_of es)) x ≡ takers_at g (table g ps) p from x
takers_all g ps p n from e es i h same x =
    let whole = take_all i (map equation_of es) (let k = length-map es equation_of in omega arith) in
    ap (λ qs. takers_among (at_of p (firsts (arity g n.rule) n.children)) from qs x) (whole ∙ same)
    ∙ ap (λ z. takers_among (at_of p (cell_of g z).kids) from (rule g (cell_of g z).rule).equations x) (sym e)

-- the children of a node
pub kids_length : (g : Grammar) (ps : List (Option Node)) (p : ℕ) (n : Node) → at ps p ≡ Some n → length (table g ps p).kids ≡ arity g n.rule
kids_length g ps p n e = ap (λ z. length (cell_of g z).kids) e ∙ length_firsts (arity g n.rule) n.children

pub kids_at : (g : Grammar) (ps : List (Option Node)) (p : ℕ) (n : Node) → at ps p ≡ Some n → (k : ℕ) → k < arity g n.rule → get_or (table g ps p).kids k 0 ≡ get_or n.children k 0
kids_at g ps p n e k h = ap (λ z. get_or (cell_of g z).kids k 0) e ∙ firsts_at (arity g n.rule) k n.children h

drop_head : (i : ℕ) (cs : List ℕ) → get_or cs i 0 ≡ get_or (drop i cs) 0 0
drop_head zero cs = refl
drop_head (suc i) [] = refl
drop_head (suc i) (c ∷ cs) = drop_head i cs

drop_next : (i : ℕ) (cs : List ℕ) → drop (suc i) cs ≡ drop 1 (drop i cs)
drop_next zero cs = refl
drop_next (suc i) [] = refl
drop_next (suc i) (c ∷ cs) = drop_next i cs

-- the first numbers of a row, one by one
pub firsts_each : (n i : ℕ) (cs : List ℕ) → map (λ k. get_or cs k 0) (range_with_len i n) ≡ firsts n (drop i cs)
firsts_each zero i cs = refl
firsts_each (suc n) i cs = ap₂ (λ x xs. x ∷ xs) (drop_head i cs) (firsts_each n (i + 1) cs ∙ ap (λ k. firsts n (drop k cs)) (add-one i) ∙ ap (firsts n) (drop_next i cs))
