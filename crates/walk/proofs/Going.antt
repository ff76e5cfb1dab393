-- Moves, one after the other.
use Rattle.std.proofs.Common.{◌≡◌, ℕ, zero, suc, true, false, List, [], ◌∷◌, ◌++◌, map, Some, Option, sym, refl, ap, ◌∙◌, subst, inl, inr, append_assoc, arith}
use Rattle.grammar.specs.Model.{Grammar}
use Rattle.places.specs.Marks.{owes}
use Rattle.places.specs.Places.{table, owed_at}
use Rattle.places.specs.declared.node.Node.{Node}
use Rattle.tour.specs.Trees.{Instance}
use Rattle.tour.specs.Walks.{plan_at, left_over}
use Rattle.walk.specs.Ahead.{behind_visit, goes_on, depth_left, ahead}
use Rattle.walk.specs.Moves.{moved, meets}
use Rattle.walk.specs.Stands.{Stand}
use Rattle.walk.specs.Walking.{Walking, Unowed, Moves, Reached, at_end}
use Rattle.walk.specs.declared.walker.Met.{Met}
use Rattle.walk.specs.declared.walker.Mode.{Mode}
use Rattle.walk.specs.declared.walker.Mode.TheVariants.{InPlan, Entering, Returning, Done}
use Rattle.tour.proofs.Lists.{in_cases}
use Rattle.walk.proofs.Moving.{moving}

module _ (g : Grammar) (ps : List (Option Node)) where
  pub advanced : (s t : Stand) (o : Option Met) → Walking g ps s → at_end s.mode ≡ false → t ≡ moved g (table g ps) s → o ≡ meets g (table g ps) s → Moves g ps s o t
  advanced s t o w z e f = subst (λ x. Moves g ps s x t) (sym f) (subst (λ x. Moves g ps s (meets g (table g ps) s) x) (sym e) (moving g ps s w z))

  -- nothing is ahead of a walk at its end
  pub end_ahead : (s : Stand) → at_end s.mode ≡ true → ahead g (table g ps) s ≡ []
  end_ahead s e = by s.mode refl e
    where
      by : (m : Mode) → s.mode ≡ m → at_end m ≡ true → ahead g (table g ps) s ≡ []
      by InPlan q z = let y : ◌≡◌ {A = ℕ} 0 1 = cc in absurd (omega arith)
      by (Entering n) q z = let y : ◌≡◌ {A = ℕ} 0 1 = cc in absurd (omega arith)
      by Returning q z = let y : ◌≡◌ {A = ℕ} 0 1 = cc in absurd (omega arith)
      by Done q z = ap (λ m. left_over g (table g ps) (depth_left s) (goes_on (plan_at g (table g ps) s.place) m s.place s.next (map behind_visit s.frames))) q

  -- several moves, the last of which meets an instance
  pub reaches : (s u t : Stand) (m : Met) → ahead g (table g ps) s ≡ ahead g (table g ps) u → Moves g ps u (Some m) t → Reached g ps s m t
  reaches s u t m e v = record { walking = v.walking; meeting = v.meeting m refl; lists = e ∙ v.lists }

unowed_more : (ps : List (Option Node)) (xs : List Instance) (x : Instance) → Unowed ps xs → owed_at ps x ≡ false → Unowed ps (xs ++ x ∷ [])
unowed_more ps xs x u n y m d = elim (in_cases y xs (x ∷ []) m) [ inl k ↦ u y k d | inr (inl e) ↦ never (ap (owed_at ps) (sym e) ∙ d) | inr (inr k) ↦ k ]
  where
    never : owed_at ps x ≡ true → ⊥
    never h = let z : ◌≡◌ {A = ℕ} 0 1 = cc in omega arith

-- past an instance that is not owed
pub passes_unowed : (ps : List (Option Node)) (all rest more : List Instance) (x : Instance) → ((xs : List Instance) × Unowed ps xs × (all ≡ xs ++ rest)) → rest ≡ x ∷ more → owed_at ps x ≡ false → (xs : List Instance) × Unowed ps xs × (all ≡ xs ++ more)
passes_unowed ps all rest more x (xs, u, e) f n = (xs ++ x ∷ [], unowed_more ps xs x u n, e ∙ ap (λ z. xs ++ z) f ∙ sym (append_assoc xs (x ∷ []) more))

-- what is owed under no marks
pub none_owes : (a : ℕ) → owes 0 a ≡ false
none_owes zero = refl
none_owes (suc a) = none_owes a
