-- Laws of `cut_at` and `parts_at`.
use Rattle.std.proofs.Common.{◌≡◌, ℕ, zero, suc, ◌+◌, ◌<◌, Bool, true, false, eqb, List, [], ◌∷◌, ◌++◌, length, get_or, take, Some, None, Option, sym, refl, ap, ◌∙◌, subst, arith}
use Rattle.std.specs.List.{between}
use Rattle.std.proofs.lemmas.List.{take-append-drop, drop_more, take_rest, length-take-le, get_or-take}
use Rattle.std.proofs.lemmas.Bool.{eqb-true, eqb-false, eq-eqb, ne_eqb}
use Rattle.words.specs.Cuts.{Lacks, Halves, cut_at, cut_or, before_in, on_first, part_or, parts_at}

pub lacks_tail : (c b : ℕ) (bs : List ℕ) → Lacks c (b ∷ bs) → Lacks c bs
lacks_tail c b bs h k l e = h (suc k) (omega arith) e

pub lacks_cons : (c b : ℕ) (bs : List ℕ) → (b ≡ c → ⊥) → Lacks c bs → Lacks c (b ∷ bs)
lacks_cons c b bs n h zero l e = n e
lacks_cons c b bs n h (suc k) l e = h k (omega arith) e

pub cut_found : (c : ℕ) (a b : List ℕ) → Lacks c a → cut_at c (a ++ c ∷ b) ≡ Some (record { before = a; after = b })
cut_found c [] b h = ap (λ t. cut_or t c b (cut_at c b)) (eq-eqb c c refl)
cut_found c (x ∷ a) b h =
    ap (λ t. cut_or t x (a ++ c ∷ b) (cut_at c (a ++ c ∷ b))) (ne_eqb x c (h 0 (omega arith)))
    ∙ ap (before_in x) (cut_found c a b (lacks_tail c x a h))

pub cut_none : (c : ℕ) (s : List ℕ) → Lacks c s → cut_at c s ≡ None
cut_none c [] h = refl
cut_none c (x ∷ s) h =
    ap (λ t. cut_or t x s (cut_at c s)) (ne_eqb x c (h 0 (omega arith))) ∙ ap (before_in x) (cut_none c s (lacks_tail c x s h))

-- what a cut says of the text
pub record Cut (c : ℕ) (s : List ℕ) (h : Halves) : Type 0 where
  pub whole : s ≡ h.before ++ c ∷ h.after
  pub first : Lacks c h.before

lacks_nil : (c : ℕ) → Lacks c []
lacks_nil c k l e = omega arith

pub cut_back : (c : ℕ) (s : List ℕ) (h : Halves) → cut_at c s ≡ Some h → Cut c s h
cut_back c [] h e = absurd (grind arith)
cut_back c (x ∷ s) h e = by (eqb x c) (cut_at c s) refl (λ g q. cut_back c s g q) e
  where
    by : (t : Bool) (later : Option Halves) → eqb x c ≡ t → ((g : Halves) → later ≡ Some g → Cut c s g) → cut_or t x s later ≡ Some h → Cut c (x ∷ s) h
    by true later ex r q =
        let k : record { before = []; after = s } ≡ h = cc in
        subst (Cut c (x ∷ s)) k (record { whole = ap (λ y. y ∷ s) (eqb-true x c ex); first = lacks_nil c })
    by false None ex r q = absurd (grind arith)
    by false (Some g) ex r q =
        let k : record { before = x ∷ g.before; after = g.after } ≡ h = cc in
        let f = r g refl in
        subst (Cut c (x ∷ s)) k (record { whole = ap (λ l. x ∷ l) f.whole; first = lacks_cons c x g.before (eqb-false x c ex) f.first })

pub cut_lacks : (c : ℕ) (s : List ℕ) → cut_at c s ≡ None → Lacks c s
cut_lacks c [] e = lacks_nil c
cut_lacks c (x ∷ s) e = by (eqb x c) (cut_at c s) refl (λ q. cut_lacks c s q) e
  where
    by : (t : Bool) (later : Option Halves) → eqb x c ≡ t → (later ≡ None → Lacks c s) → cut_or t x s later ≡ None → Lacks c (x ∷ s)
    by true later ex r q = absurd (grind arith)
    by false None ex r q = lacks_cons c x s (eqb-false x c ex) (r refl)
    by false (Some g) ex r q = absurd (grind arith)

pub parts_found : (c : ℕ) (w rest : List ℕ) → Lacks c w → parts_at c (w ++ c ∷ rest) ≡ w ∷ parts_at c rest
parts_found c [] rest h = ap (λ t. part_or t c (parts_at c rest)) (eq-eqb c c refl)
parts_found c (b ∷ w) rest h =
    ap (λ t. part_or t b (parts_at c (w ++ c ∷ rest))) (ne_eqb b c (h 0 (omega arith)))
    ∙ ap (on_first b) (parts_found c w rest (lacks_tail c b w h))

pub parts_none : (c : ℕ) (w : List ℕ) → Lacks c w → parts_at c w ≡ w ∷ []
parts_none c [] h = refl
parts_none c (b ∷ w) h =
    ap (λ t. part_or t b (parts_at c w)) (ne_eqb b c (h 0 (omega arith))) ∙ ap (on_first b) (parts_none c w (lacks_tail c b w h))

-- a cut takes the first part off
pub parts_cut : (c : ℕ) (s : List ℕ) (h : Halves) → cut_at c s ≡ Some h → parts_at c s ≡ h.before ∷ parts_at c h.after
parts_cut c s h e = let r = cut_back c s h e in ap (parts_at c) r.whole ∙ parts_found c h.before h.after r.first

pub parts_last : (c : ℕ) (s : List ℕ) → cut_at c s ≡ None → parts_at c s ≡ s ∷ []
parts_last c s e = parts_none c s (cut_lacks c s e)

-- the place of the first c gives the cut
pub cut_at_lem : (s : List ℕ) (i c : ℕ) → i < length s → get_or s i 0 ≡ c → ((k : ℕ) → k < i → get_or s k 0 ≡ c → ⊥) → cut_at c s ≡ Some (record { before = take i s; after = between (i + 1) (length s) s })
cut_at_lem s i c h e f =
    let t = take-append-drop i s in
    let d = drop_more s i 0 h in
    let r = take_rest s (i + 1) in
    let w : s ≡ take i s ++ c ∷ between (i + 1) (length s) s = cc in
    let lacks : Lacks c (take i s) = λ k l q. let n = length-take-le i s (omega arith) in let m : k < i = omega arith in f k m (sym (get_or-take i s k 0 m) ∙ q) in
    ap (cut_at c) w ∙ cut_found c (take i s) (between (i + 1) (length s) s) lacks

pub parts_some : (c : ℕ) (bs : List ℕ) → 0 < length (parts_at c bs)
parts_some c [] = omega arith
parts_some c (b ∷ bs) = on (eqb b c) (parts_at c bs)
  where
    on : (t : Bool) (ps : List (List ℕ)) → 0 < length (part_or t b ps)
    on true ps = omega arith
    on false [] = omega arith
    on false (w ∷ ws) = omega arith
