-- Parts joined at a byte, and cut there again.
use Rattle.std.proofs.Common.{◌≡◌, ℕ, ◌<◌, Bool, true, false, eqb, List, [], ◌∷◌, ◌++◌, length, sym, refl, ap, ◌∙◌, arith}
use Rattle.std.specs.List.{AllByRecursion}
use Rattle.std.proofs.lemmas.Bool.{eqb-true}
use Rattle.words.specs.Cuts.{Lacks, on_first, part_or, parts_at}
use Rattle.words.proofs.Parts.{lacks_cons, parts_found, parts_none, parts_some}
use Rattle.sheet.specs.Writing.{spaced}
use Rattle.sheet.proofs.Numerals.{lacks_append}

-- parts with c between them
abbrev pub joined_at : ℕ → List (List ℕ) → List ℕ
joined_at c [] = []
joined_at c (w ∷ []) = w
joined_at c (w ∷ v ∷ ws) = w ++ c ∷ joined_at c (v ∷ ws)

join_on : (c b : ℕ) (ps : List (List ℕ)) → joined_at c (on_first b ps) ≡ b ∷ joined_at c ps
join_on c b [] = refl
join_on c b (w ∷ []) = refl
join_on c b (w ∷ v ∷ ws) = refl

join_cut : (c : ℕ) (ps : List (List ℕ)) → 0 < length ps → joined_at c ([] ∷ ps) ≡ c ∷ joined_at c ps
join_cut c [] h = absurd (omega arith)
join_cut c (w ∷ ws) h = refl

-- bytes are their parts, joined
pub parts_join : (c : ℕ) (bs : List ℕ) → joined_at c (parts_at c bs) ≡ bs
parts_join c [] = refl
parts_join c (b ∷ bs) = by (eqb b c) refl (parts_join c bs)
  where
    by : (t : Bool) → eqb b c ≡ t → joined_at c (parts_at c bs) ≡ bs → joined_at c (part_or t b (parts_at c bs)) ≡ b ∷ bs
    by true e r = join_cut c (parts_at c bs) (parts_some c bs) ∙ (λ i. sym (eqb-true b c e) i ∷ r i)
    by false e r = join_on c b (parts_at c bs) ∙ ap (λ l. b ∷ l) r

spaced_joined : (ws : List (List ℕ)) → spaced ws ≡ joined_at 32 ws
spaced_joined [] = refl
spaced_joined (w ∷ []) = refl
spaced_joined (w ∷ v ∷ ws) = ap (λ l. w ++ 32 ∷ l) (spaced_joined (v ∷ ws))

-- bytes are their words with spaces between them
pub words_joined : (bs : List ℕ) → spaced (parts_at 32 bs) ≡ bs
words_joined bs = spaced_joined (parts_at 32 bs) ∙ parts_join 32 bs

-- words with spaces between them are cut where the spaces are
pub words_parted : (ws : List (List ℕ)) → 0 < length ws → AllByRecursion (Lacks 32) ws → parts_at 32 (spaced ws) ≡ ws
words_parted [] l h = absurd (omega arith)
words_parted (w ∷ []) l h = parts_none 32 w h.0
words_parted (w ∷ v ∷ ws) l h = parts_found 32 w (spaced (v ∷ ws)) h.0 ∙ ap (λ vs. w ∷ vs) (words_parted (v ∷ ws) (omega arith) h.1)

pub spaced_lacks : (c : ℕ) (ws : List (List ℕ)) → (32 ≡ c → ⊥) → AllByRecursion (Lacks c) ws → Lacks c (spaced ws)
spaced_lacks c [] n h = λ k l e. omega arith
spaced_lacks c (w ∷ []) n h = h.0
spaced_lacks c (w ∷ v ∷ ws) n h = lacks_append c w (32 ∷ spaced (v ∷ ws)) h.0 (lacks_cons c 32 (spaced (v ∷ ws)) n (spaced_lacks c (v ∷ ws) n h.1))
