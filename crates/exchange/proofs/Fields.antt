-- What a written field leaves.
use Rattle.std.proofs.Common.{◌≡◌, ℕ, ◌≤◌, Bool, true, false, eqb, ltb, List, length, set, None, Option, sym, refl, ap, ◌∙◌, subst, get_or-set_other, get_or-set_same, ltb-false, ltb-true, eqb-true}
use lib.Seq.{set-get_or}
use borrow.Author.Tests.{eqb-false}
use Rattle.std.proofs.lemmas.List.{get_or_past, length-set, set_past}
use Rattle.std.specs.Option.{option_map}
use Rattle.places.specs.Places.{at}
use Rattle.places.specs.declared.node.Node.{Node}
use Rattle.exchange.specs.Setting.{changed_at}

none_there : (ps : List (Option Node)) (p : ℕ) → length ps ≤ p → at ps p ≡ None
none_there ps p h = get_or_past ps p None h

-- a free place stays free
pub unchanged : (f : Node → Node) (ps : List (Option Node)) (p : ℕ) → at ps p ≡ None → changed_at f ps p ≡ ps
unchanged f ps p e = ap (λ x. set ps p x) (ap (option_map f) e ∙ sym e) ∙ set-get_or ps p None

pub changed_length : (f : Node → Node) (ps : List (Option Node)) (p : ℕ) → length (changed_at f ps p) ≡ length ps
changed_length f ps p = length-set ps p (option_map f (at ps p))

pub changed_here : (f : Node → Node) (ps : List (Option Node)) (p : ℕ) → at (changed_at f ps p) p ≡ option_map f (at ps p)
changed_here f ps p = by (ltb p (length ps)) refl
  where
    by : (b : Bool) → ltb p (length ps) ≡ b → at (changed_at f ps p) p ≡ option_map f (at ps p)
    by true h = get_or-set_same ps p (option_map f (at ps p)) None (ltb-true p (length ps) h)
    by false h =
        let l = ltb-false p (length ps) h in
        ap (λ qs. at qs p) (set_past ps p (option_map f (at ps p)) l) ∙ none_there ps p l ∙ sym (ap (option_map f) (none_there ps p l))

pub changed_else : (f : Node → Node) (ps : List (Option Node)) (p q : ℕ) → (q ≡ p → ⊥) → at (changed_at f ps p) q ≡ at ps q
changed_else f ps p q ne = get_or-set_other ps p q (option_map f (at ps p)) None ne

-- a fact of every place that the change keeps
pub changed_keeps : (P : ℕ → Option Node → Type 0) (f : Node → Node) (ps : List (Option Node)) (p : ℕ) → (P p (at ps p) → P p (option_map f (at ps p))) → (q : ℕ) → P q (at ps q) → P q (at (changed_at f ps p) q)
changed_keeps P f ps p keeps q h = by (eqb q p) refl
  where
    by : (b : Bool) → eqb q p ≡ b → P q (at (changed_at f ps p) q)
    by true e =
        let k = eqb-true q p e in
        subst (λ r. P r (at (changed_at f ps p) r)) (sym k) (subst (P p) (sym (changed_here f ps p)) (keeps (subst (λ r. P r (at ps r)) k h)))
    by false e = subst (P q) (sym (changed_else f ps p q (eqb-false q p e))) h
