-- What was read of a line's words so far.
use Rattle.std.proofs.Common.{◌≡◌, ℕ, ◌<◌, ◌≤◌, List, [], ◌∷◌, ◌++◌, length, Some, None, Ok, Err, Option, Result, MatchResult, sym, refl, ap, ◌∙◌, append_assoc, append-nil, arith, le-leb}
use Rattle.std.specs.Result.{result_and}
use Rattle.std.proofs.lemmas.List.{length_push}
use Rattle.words.specs.Tokens.{Token}
use Rattle.grammar.specs.Forms.{onto, all_of, at_most}
use Rattle.grammar.specs.declared.refusal.Refusal.{Refusal}
use Rattle.grammar.specs.declared.refusal.Refusal.TheVariants.{Range}
use Rattle.arrayvec.specs.ArrayVec.{ArrayVec}

abbrev pub prefixed : {X : Type 0} → List X → Option (List X) → Option (List X)
prefixed ps None = None
prefixed ps (Some qs) = Some (ps ++ qs)

prefixed_nil : {X : Type 0} (x : Option (List X)) → prefixed [] x ≡ x
prefixed_nil None = refl
prefixed_nil (Some qs) = refl

prefixed_more : {X : Type 0} (ps : List X) (a : X) (x : Option (List X)) → prefixed ps (onto (Some a) x) ≡ prefixed (ps ++ a ∷ []) x
prefixed_more ps a None = refl
prefixed_more ps a (Some qs) = ap Some (sym (append_assoc ps (a ∷ []) qs))

module _ {X : Type 0} (f : Token → Option X) where
  -- ws are the words that are left of all, and xs is what was read of those before them
  pub record Sofar (all : List Token) (xs : List X) (ws : List Token) : Type 0 where
    pub reads : prefixed xs (all_of f ws) ≡ all_of f all

  pub sofar_none : (all : List Token) → Sofar all [] all
  sofar_none all = record { reads = prefixed_nil (all_of f all) }

  pub sofar_more : (all : List Token) (xs : List X) (ls : List Token) (w : Token) (ws : List Token) (x : X) → Sofar all xs ls → ls ≡ w ∷ ws → Some x ≡ f w → Sofar all (xs ++ x ∷ []) ws
  sofar_more all xs ls w ws x h e is = record { reads = sym (prefixed_more xs x (all_of f ws)) ∙ ap (λ o. prefixed xs (onto o (all_of f ws))) is ∙ sym (ap (λ l. prefixed xs (all_of f l)) e) ∙ h.reads }

  pub sofar_bad : (all : List Token) (xs : List X) (ls : List Token) (w : Token) (ws : List Token) → Sofar all xs ls → ls ≡ w ∷ ws → None ≡ f w → all_of f all ≡ None
  sofar_bad all xs ls w ws h e is = sym h.reads ∙ ap (λ l. prefixed xs (all_of f l)) e ∙ ap (λ o. prefixed xs (onto o (all_of f ws))) (sym is)

  pub sofar_done : (all : List Token) (xs : List X) (ls : List Token) → Sofar all xs ls → ls ≡ [] → all_of f all ≡ Some xs
  sofar_done all xs ls h e = sym h.reads ∙ ap (λ l. prefixed xs (all_of f l)) e ∙ ap Some (append-nil xs)

  -- what a list of at most n holds of what was read: all of it, or it is full and more has come
  pub record Taken (n : ℕ) (all ws : List Token) (list : ArrayVec X) (fits : Result (Unit {0}) Refusal) : Type 0 where
    pub seen : List X
    pub sofar : Sofar all seen ws
    pub held : MatchResult fits (λ _. (list.items ≡ seen) × (length seen ≤ n)) (λ e. (e ≡ Range) × (n < length seen) × (length list.items ≡ n))

  -- one word more, which the list took if it had room
  pub taken_more : {E : Type 0} (n : ℕ) (all ls : List Token) (list list' : ArrayVec X) (fits told : Result (Unit {0}) Refusal) (pushed : Result (Unit {0}) E) (w : Token) (ws : List Token) (x : X) → Taken n all ls list fits → ls ≡ w ∷ ws → Some x ≡ f w → MatchResult pushed (λ _. told ≡ Ok tt) (λ _. told ≡ Err Range) → MatchResult pushed (λ _. (length list.items < n) × (list'.items ≡ list.items ++ x ∷ [])) (λ _. (length list.items ≡ n) × (list' ≡ list)) → Taken n all ws list' (result_and fits told)
  taken_more {E = E} n all ls list list' fits told pushed w ws x h e is t p = record {
    seen = h.seen ++ x ∷ [];
    sofar = sofar_more all h.seen ls w ws x h.sofar e is;
    held = by fits pushed h.held t p;
  }
    where
      by : (k : Result (Unit {0}) Refusal) (q : Result (Unit {0}) E) → MatchResult k (λ _. (list.items ≡ h.seen) × (length h.seen ≤ n)) (λ e. (e ≡ Range) × (n < length h.seen) × (length list.items ≡ n)) → MatchResult q (λ _. told ≡ Ok tt) (λ _. told ≡ Err Range) → MatchResult q (λ _. (length list.items < n) × (list'.items ≡ list.items ++ x ∷ [])) (λ _. (length list.items ≡ n) × (list' ≡ list)) → MatchResult (result_and k told) (λ _. (list'.items ≡ h.seen ++ x ∷ []) × (length (h.seen ++ x ∷ []) ≤ n)) (λ e. (e ≡ Range) × (n < length (h.seen ++ x ∷ [])) × (length list'.items ≡ n))
      by (Ok u) (Ok v) k q p = rw q (p.1 ∙ ap (λ l. l ++ x ∷ []) k.0, omega (arith, length_push h.seen x, ap length k.0, p.0))
      by (Ok u) (Err v) k q p = rw q (refl, omega (arith, length_push h.seen x, ap length k.0, p.0), ap (λ l. length l.items) p.1 ∙ p.0)
      by (Err r) (Ok v) k q p = absurd (omega (arith, k.2, p.0))
      by (Err r) (Err v) k q p = (k.0, omega (arith, length_push h.seen x, k.1), ap (λ l. length l.items) p.1 ∙ p.0)

  -- what is known where no word is left
  pub taken_all : (n : ℕ) (all : List Token) (ls : List Token) (list : ArrayVec X) (fits : Result (Unit {0}) Refusal) → Taken n all ls list fits → ls ≡ [] → fits ≡ Ok tt → Ok list.items ≡ at_most n (all_of f all)
  taken_all n all ls list (Ok u) h e is = rw (sofar_done all h.seen ls h.sofar e) (rw h.held.0 (rw (le-leb (length h.seen) n h.held.1) refl))
  taken_all n all ls list (Err r) h e is = absurd (grind arith)
