-- The frames of a walk, the innermost first.
use Rattle.std.proofs.Common.{◌≡◌, ℕ, ◌≤◌, List, [], ◌∷◌, ◌++◌, reverse, length, take, ap, ◌∙◌}
use Rattle.std.proofs.lemmas.List.{reverse-append, length-reverse, length-take-le}
use Rattle.places.specs.Stack.{stacked}

pub reverse_push : {X : Type 0} (xs ys : List X) (x : X) → ys ≡ xs ++ x ∷ [] → reverse ys ≡ x ∷ reverse xs
reverse_push xs ys x e = ap reverse e ∙ reverse-append xs (x ∷ [])

pub stacked_length : {X : Type 0} (cells : List X) (n : ℕ) → n ≤ length cells → length (reverse (stacked cells n)) ≡ n
stacked_length cells n h = length-reverse (take n cells) ∙ length-take-le n cells h
