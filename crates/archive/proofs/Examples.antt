-- Two rows that the functions of the house tell apart.
use Rattle.std.proofs.Common.{◌≡◌, [], ◌∷◌, ap}
use Rattle.archive.specs.declared.by_id.Identifier.{Identifier}
use Rattle.archive.specs.declared.by_path.Path.{Path}
use Rattle.archive.specs.declared.house.House.{House}
use Rattle.archive.specs.declared.house.House.TheVariants.{Frames, Clip}
use Rattle.archive.specs.Varied.{Different, VariedByIdentifier, VariedByPath}

-- what the functions give of a clip of 10 frames and another of 20
record Given {C : Type 0} (a b : C) : Type 0 where
  lengths : Different {V = House C} (Frames 10 ∷ Frames 20 ∷ [])
  sums : Different {V = House C} (Frames 20 ∷ Frames 30 ∷ [])
  choices : Different {V = House C} (Clip a ∷ Clip b ∷ [])
  kinds : Different {V = House C} (Frames 30 ∷ Frames 10 ∷ Clip a ∷ Frames 20 ∷ [])

given : {C : Type 0} (a b : C) → (a ≡ b → ⊥) → Given a b
given a b h = record {
  lengths = ((λ e. cc, tt), (tt, tt));
  sums = ((λ e. cc, tt), (tt, tt));
  choices = ((λ e. h cc, tt), (tt, tt));
  kinds = ((λ e. cc, (λ e. cc, (λ e. cc, tt))), ((λ e. cc, (λ e. cc, tt)), ((λ e. cc, tt), (tt, tt))));
}

pub varied_by_identifier : VariedByIdentifier
varied_by_identifier =
    let a : Identifier = record { 0 = 1 } in
    let b : Identifier = record { 0 = 2 } in
    let f = given a b (λ e. cc (ap (λ (i : Identifier). i.0) e)) in
    record { lengths = f.lengths; sums = f.sums; choices = f.choices; laters = f.lengths; kinds = f.kinds }

pub varied_by_path : VariedByPath
varied_by_path =
    let a : Path = record { volume = 1; folder = 2; name = 3 } in
    let b : Path = record { volume = 1; folder = 2; name = 4 } in
    let f = given a b (λ e. cc (ap (λ (p : Path). p.name) e)) in
    record { lengths = f.lengths; sums = f.sums; choices = f.choices; laters = f.lengths; kinds = f.kinds }
