-- An argument that is read from a slice, or missing.
use Rattle.std.proofs.Common.{◌≡◌, ℕ, List, Some, None, Option, unwrap_or, sym, ap, ◌∙◌, Bor}
use Rattle.std.specs.Option.{option_map}
use Rattle.std.specs.Slice.{IsGetResult}
use Rattle.std.specs.List.{slice_get}
use Rattle.std.proofs.lemmas.Option.{slice_get_past, slice_get-get_or}

item_nth : {X : Type 0} (xs : List X) (i : ℕ) (r : Option (Bor X)) → IsGetResult xs i i r → option_map (λ x. x.now) r ≡ slice_get xs i
item_nth xs i None h = sym (slice_get_past xs i h.3)
item_nth xs i (Some x) h = ap Some h.1 ∙ sym (slice_get-get_or xs i x.now h.3.0)

pub supplied_from : {X : Type 0} (xs : List X) (i : ℕ) (missing v : X) (r : Option (Bor X)) (o : Option X)
    → IsGetResult xs i i r → o ≡ option_map (λ x. x.now) r → v ≡ unwrap_or o missing → v ≡ unwrap_or (slice_get xs i) missing
supplied_from {X} xs i missing v r o h e s = s ∙ ap (λ (q : Option X). unwrap_or q missing) (e ∙ item_nth xs i r h)
