-- The functions of the house, and how its values are written.
use Rattle.std.specs.Prelude.{ℕ, ◌+◌, min, max, List, [], ◌∷◌, Some, None, Option, Ok, Err, Result}
use Rattle.std.specs.Option.{option_map, ok_or}
use Rattle.std.specs.List.{slice_get}
use Rattle.archive.specs.declared.house.Function.{Function}
use Rattle.archive.specs.declared.house.UnknownFunction.{UnknownFunction}
use Rattle.archive.specs.declared.house.Function.TheVariants.{Zero, Copied, Sum, Extended, Choice, Later, Blank}
use Rattle.archive.specs.declared.house.House.{House}
use Rattle.archive.specs.declared.house.House.TheVariants.{Nothing, Frames, Clip}
use Rattle.archive.specs.Texts.{numeral}

-- the number of a function is its place here; beside it stands how many arguments it takes
abbrev pub functions : List (Function × ℕ)
functions = (Zero, 0) ∷ (Copied, 1) ∷ (Sum, 2) ∷ (Extended, 2) ∷ (Choice, 2) ∷ (Later, 2) ∷ (Blank, 0) ∷ []

-- the function of a number; an error that names the number where there is none
abbrev pub function_of : ℕ → Result Function UnknownFunction
function_of number = ok_or (option_map (λ f. f.0) (slice_get functions number)) (record { 0 = number })

-- how many arguments a function takes, if there is one of that number
abbrev pub count_of : ℕ → Option ℕ
count_of number = option_map (λ f. f.1) (slice_get functions number)

-- frames stop at the largest number of 32 bits
abbrev pub held : ℕ → ℕ
held n = min n 4294967295

-- a value as frames, and as a clip
abbrev pub frames_of : {C : Type 0} → House C → Option ℕ
frames_of Nothing = None
frames_of (Frames n) = Some n
frames_of (Clip c) = None

abbrev pub clip_of : {C : Type 0} → House C → Option C
clip_of Nothing = None
clip_of (Frames n) = None
clip_of (Clip c) = Some c

-- some frames, or nothing
abbrev pub frames_or_nothing : {C : Type 0} → Option ℕ → House C
frames_or_nothing None = Nothing
frames_or_nothing (Some n) = Frames n

-- both as frames, added
abbrev pub sum_of : {C : Type 0} → House C → House C → House C
sum_of (Frames x) (Frames y) = Frames (held (x + y))
sum_of (Frames x) Nothing = Nothing
sum_of (Frames x) (Clip c) = Nothing
sum_of Nothing b = Nothing
sum_of (Clip c) b = Nothing

abbrev pub frames_more : {C : Type 0} → ℕ → Option ℕ → House C
frames_more x (Some y) = Frames (held (x + y))
frames_more x None = Nothing

-- the first as frames, and the length of the second as a clip added
abbrev pub extended_of : {C : Type 0} → (C → Option ℕ) → House C → House C → House C
extended_of lengths (Frames x) (Clip c) = frames_more x (lengths c)
extended_of lengths (Frames x) Nothing = Nothing
extended_of lengths (Frames x) (Frames y) = Nothing
extended_of lengths Nothing b = Nothing
extended_of lengths (Clip c) b = Nothing

-- the first, or the second if the first is nothing
abbrev pub choice_of : {C : Type 0} → House C → House C → House C
choice_of Nothing b = b
choice_of (Frames x) b = Frames x
choice_of (Clip c) b = Clip c

-- the later of two frames
abbrev pub later_of : {C : Type 0} → House C → House C → House C
later_of (Frames x) (Frames y) = Frames (max x y)
later_of (Frames x) Nothing = Nothing
later_of (Frames x) (Clip c) = Nothing
later_of Nothing b = Nothing
later_of (Clip c) b = Nothing

-- what a function gives of its two first values; no function of the house looks at a third
abbrev pub given_by : {C : Type 0} → (C → Option ℕ) → Function → House C → House C → House C
given_by lengths Zero a b = Frames 0
given_by lengths Copied a b = a
given_by lengths Sum a b = sum_of a b
given_by lengths Extended a b = extended_of lengths a b
given_by lengths Choice a b = choice_of a b
given_by lengths Later a b = later_of a b
given_by lengths Blank a b = Nothing

abbrev pub given_if : {C : Type 0} → (C → Option ℕ) → Result Function UnknownFunction → House C → House C → House C
given_if lengths (Ok f) a b = given_by lengths f a b
given_if lengths (Err e) a b = Nothing

-- what the function of a number gives; nothing where there is none
abbrev pub result_of : {C : Type 0} → (C → Option ℕ) → ℕ → House C → House C → House C
result_of lengths number a b = given_if lengths (function_of number) a b

-- a value is written as -, as f and its frames, or as its clip
abbrev pub house_text : {C : Type 0} → (C → List ℕ) → House C → List ℕ
house_text texts Nothing = 45 ∷ []
house_text texts (Frames n) = 102 ∷ numeral n
house_text texts (Clip c) = texts c
