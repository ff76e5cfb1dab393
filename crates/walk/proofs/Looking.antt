-- What is read off the sheet and the places.
use Rattle.std.proofs.Common.{◌≡◌, ℕ, zero, suc, ◌<◌, ◌≤◌, List, [], ◌∷◌, length, get_or, Some, None, Option, unwrap_or, sym, refl, ap, ◌∙◌, arith}
use Rattle.std.specs.Option.{option_map}
use Rattle.std.specs.List.{slice_get}
use Rattle.grammar.specs.Model.{Grammar, Rule}
use Rattle.places.specs.Places.{at, arity, table, cell_of}
use Rattle.places.specs.declared.node.Node.{Node}
use Rattle.places.proofs.Firsts.{firsts_at, length_firsts}
use Rattle.plans.specs.declared.Group.{Group}
use Rattle.sheet.specs.Answers.{group_rule}
use Rattle.tour.specs.Rules.{rule, no_rule}
use Rattle.tour.specs.Trees.{at_of}
use Rattle.tour.specs.Walks.{plan_at}

rule_read_lem : (rs : List Rule) (k : ℕ) → get_or rs k no_rule ≡ unwrap_or (slice_get rs k) no_rule
rule_read_lem [] k = refl
rule_read_lem (r ∷ rs) zero = refl
rule_read_lem (r ∷ rs) (suc k) = rule_read_lem rs k

-- the rule that a sheet shows under a number
pub rule_found : (g : Grammar) (k : ℕ) (o : Option Group) (x : Group) → option_map group_rule o ≡ slice_get g.rules k → o ≡ Some x → rule g k ≡ group_rule x
rule_found g k o x e s = rule_read_lem g.rules k ∙ ap (λ r. unwrap_or r no_rule) (sym e ∙ ap (option_map group_rule) s)

pub rule_missing : (g : Grammar) (k : ℕ) (o : Option Group) → option_map group_rule o ≡ slice_get g.rules k → o ≡ None → rule g k ≡ no_rule
rule_missing g k o e s = rule_read_lem g.rules k ∙ ap (λ r. unwrap_or r no_rule) (sym e ∙ ap (option_map group_rule) s)

-- the plan of the node at a place
pub plan_of : (g : Grammar) (ps : List (Option Node)) (p : ℕ) (n : Node) → at ps p ≡ Some n → plan_at g (table g ps) p ≡ (rule g n.rule).plan
plan_of g ps p n e = ap (λ o. (rule g (cell_of g o).rule).plan) e

-- a child stands where the node says
pub child_at : (g : Grammar) (ps : List (Option Node)) (p : ℕ) (n : Node) → at ps p ≡ Some n → (k : ℕ) → k < arity g n.rule → get_or (table g ps p).kids k 0 ≡ get_or n.children k 0
child_at g ps p n e k h = ap (λ o. get_or (cell_of g o).kids k 0) e ∙ firsts_at (arity g n.rule) k n.children h

pub kids_count : (g : Grammar) (ps : List (Option Node)) (p : ℕ) (n : Node) → at ps p ≡ Some n → length (table g ps p).kids ≡ arity g n.rule
kids_count g ps p n e = ap (λ o. length (cell_of g o).kids) e ∙ length_firsts (arity g n.rule) n.children

-- and an occurrence that is there
pub occurrence_at : (g : Grammar) (ps : List (Option Node)) (p : ℕ) (n : Node) → at ps p ≡ Some n → (o : ℕ) → o ≤ length (table g ps p).kids → at_of p n.children o ≡ at_of p (table g ps p).kids o
occurrence_at g ps p n e zero l = refl
occurrence_at g ps p n e (suc k) l = sym (child_at g ps p n e k (omega (arith, kids_count g ps p n e)))

pub equations_of : (g : Grammar) (ps : List (Option Node)) (p : ℕ) (n : Node) → at ps p ≡ Some n → (rule g (table g ps p).rule).equations ≡ (rule g n.rule).equations
equations_of g ps p n e = ap (λ o. (rule g (cell_of g o).rule).equations) e
