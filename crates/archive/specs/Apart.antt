-- Two clips are one where they match, and where they have one text; so are two values of the house.
-- These are proofs. They stand here since ghost members hold them, and those take from specs/ alone.
use Rattle.std.specs.Prelude.{◌≡◌, ℕ, ◌&&◌, List, ◌∷◌, ◌++◌, Decides, ◌==◌, slice_index, refl}
use Rattle.std.proofs.Common.{sym, ap, arith}
use Rattle.std.proofs.lemmas.Bool.Decides.{Decides-like, Decides-and, Decides-eqb}
use Rattle.archive.specs.declared.by_id.Identifier.{Identifier}
use Rattle.archive.specs.declared.by_path.Path.{Path}
use Rattle.archive.specs.Rows.{Led}
use Rattle.archive.specs.Texts.{numeral}
use Rattle.archive.specs.declared.house.House.{House}
use Rattle.archive.specs.declared.house.House.TheVariants.{Nothing, Frames, Clip}
use Rattle.archive.specs.Functions.{house_text}
use Rattle.archive.specs.Settings.{same_identifier, identifier_text, same_path, path_text}
use Rattle.archive.specs.Numerals.{same_from_numeral, same_at_slash}

same_identifier_lem : (a b : Identifier) → a.0 ≡ b.0 → a ≡ b
same_identifier_lem a b p = λ i. record { 0 = p i }

same_path_lem : (a b : Path) → a.volume ≡ b.volume → a.folder ≡ b.folder → a.name ≡ b.name → a ≡ b
same_path_lem a b p q r = λ i. record { volume = p i; folder = q i; name = r i }

pub identifier_exact : (a b : Identifier) → Decides (same_identifier a b) (a ≡ b)
identifier_exact a b = Decides-like (same_identifier a b) (same_identifier_lem a b) (λ e. ap (λ (i : Identifier). i.0) e) (Decides-eqb a.0 b.0)

pub identifier_apart : (a b : Identifier) → identifier_text a ≡ identifier_text b → a ≡ b
identifier_apart a b h = let e : numeral a.0 ≡ numeral b.0 = cc in same_identifier_lem a b (same_from_numeral a.0 b.0 e)

pub identifier_led : (a : Identifier) → Led (identifier_text a)
identifier_led a = (λ e. omega arith, λ e. omega arith)

pub path_exact : (a b : Path) → Decides (same_path a b) (a ≡ b)
path_exact a b =
    Decides-like (same_path a b) (λ e. same_path_lem a b e.0 e.1.0 e.1.1)
    (λ e. (ap (λ (p : Path). p.volume) e, (ap (λ (p : Path). p.folder) e, ap (λ (p : Path). p.name) e)))
    (Decides-and (a.volume == b.volume) (a.folder == b.folder && a.name == b.name) (Decides-eqb a.volume b.volume)
    (Decides-and (a.folder == b.folder) (a.name == b.name) (Decides-eqb a.folder b.folder) (Decides-eqb a.name b.name)))

pub path_apart : (a b : Path) → path_text a ≡ path_text b → a ≡ b
path_apart a b h =
    let e : numeral a.volume ++ 47 ∷ (numeral a.folder ++ 47 ∷ numeral a.name) ≡ numeral b.volume ++ 47 ∷ (numeral b.folder ++ 47 ∷ numeral b.name) = cc in
    let v = same_at_slash a.volume b.volume _ _ e in
    let f = same_at_slash a.folder b.folder _ _ v.1 in
    same_path_lem a b v.0 f.0 (same_from_numeral a.name b.name f.1)

pub path_led : (a : Path) → Led (path_text a)
path_led a = (λ e. omega arith, λ e. omega arith)

-- values of the house have texts of their own, if clips have
pub values_apart : {C : Type 0} (texts : C → List ℕ) → ((a b : C) → texts a ≡ texts b → a ≡ b) → ((a : C) → Led (texts a))
    → (v w : House C) → house_text texts v ≡ house_text texts w → v ≡ w
values_apart texts apart led Nothing Nothing h = refl
values_apart texts apart led Nothing (Frames n) h = cc
values_apart texts apart led Nothing (Clip d) h = absurd ((led d).0 (ap (λ (l : List ℕ). slice_index l 0) (sym h)))
values_apart texts apart led (Frames m) Nothing h = cc
values_apart texts apart led (Frames m) (Frames n) h = let e : numeral m ≡ numeral n = cc in ap Frames (same_from_numeral m n e)
values_apart texts apart led (Frames m) (Clip d) h = absurd ((led d).1 (ap (λ (l : List ℕ). slice_index l 0) (sym h)))
values_apart texts apart led (Clip c) Nothing h = absurd ((led c).0 (ap (λ (l : List ℕ). slice_index l 0) h))
values_apart texts apart led (Clip c) (Frames n) h = absurd ((led c).1 (ap (λ (l : List ℕ). slice_index l 0) h))
values_apart texts apart led (Clip c) (Clip d) h = ap Clip (apart c d h)
