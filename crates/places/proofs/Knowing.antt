-- What a sheet shows of the nodes of a rule.
use Rattle.std.proofs.Common.{◌≡◌, ℕ, ◌≤◌, length, Some, refl, ap, sym, ◌∙◌, subst, arith}
use Rattle.std.specs.List.{slice_get}
use Rattle.grammar.specs.Scopes.{attributes_at}
use Rattle.plans.specs.Groups.{group_scope}
use Rattle.plans.specs.declared.Group.{Group}
use Rattle.sheet.specs.Answers.{grammar_of, group_rule}
use Rattle.sheet.specs.declared.kept.Sheet.{Sheet}
use Rattle.places.specs.Kinds.{Known}
use Rattle.places.specs.Places.{attributes}
use Rattle.places.proofs.Looks.{rule_found, rule_attributes}
use Rattle.places.proofs.Sheets.{sheet_sound, sound_rule, sound_attributes}

pub known : (s : Sheet) (r : ℕ) (k : Group) (n : ℕ) → Some (group_rule k) ≡ slice_get (grammar_of s).rules r → (group_scope k).symbols ≡ (grammar_of s).symbols → n ≡ attributes_at (group_scope k) 0
    → Known (grammar_of s) r k.production.left k.production.right.now n
known s r k n e same count =
    let g = grammar_of s in
    let found = rule_found g r r (group_rule k) refl e in
    let h = sheet_sound s r found.1 in
    let c : attributes g r ≡ n = sym (count ∙ rule_attributes g (group_scope k) r same (sym (ap (λ q. q.left) found.0)) (omega arith)) in
    record {
      there = found.1;
      left_is = ap (λ q. q.left) found.0;
      right_is = ap (λ q. q.right) found.0;
      count_is = c;
      few_rules = h.few_rules;
      few_right = subst (λ z. length z ≤ 4) (ap (λ q. q.right) found.0) (sound_rule g h r found.1).few_right;
      few_attributes = let f = sound_attributes g h r in omega arith;
    }
