-- One walk finds what steps evaluate.
use Rattle.std.proofs.Common.{◌≡◌, ℕ, Bool, true, ◌⊎◌, ◌↔◌, List, [], ◌∷◌, ◌++◌, Option, sym, ap, ◌∙◌, subst, inl, inr, append_assoc}
use Rattle.grammar.specs.Model.{Grammar}
use Rattle.places.specs.Places.{table, owed_at, value_at, state_of}
use Rattle.places.specs.declared.node.Node.{Node}
use Rattle.tour.specs.Runs.{args}
use Rattle.tour.specs.Results.{Meaning, engine}
use Rattle.tour.specs.Runs.{In, Step}
use Rattle.tour.specs.Shapes.{tree_from}
use Rattle.tour.specs.Trees.{Instance}
use Rattle.tour.proofs.Lists.{in_cases}
use Rattle.walk.specs.Ahead.{ahead, instance_of}
use Rattle.walk.specs.OneWalk.{FirstOwed, OneWalkLaw}
use Rattle.walk.specs.Evaluation.{Evaluates}
use Rattle.walk.specs.Stands.{Stand}
use Rattle.walk.specs.declared.walker.Met.{Met}
use Rattle.walk.specs.Walking.{Unowed}

unowed_both : (ps : List (Option Node)) (xs ys : List Instance) → Unowed ps xs → Unowed ps ys → Unowed ps (xs ++ ys)
unowed_both ps xs ys u v x m d = elim (in_cases x xs ys m) [ inl k ↦ u x k d | inr k ↦ v x k d ]

pub one_walk : OneWalkLaw
one_walk g ps root done s e u = record {
  next = λ m t o.
      let front = done ++ o.between in
      let place = e ∙ ap (λ z. done ++ z) o.lists ∙ sym (append_assoc done o.between (instance_of m ∷ ahead g (table g ps) t)) in
      record {
        front = front;
        place = place;
        first = unowed_both ps done o.between u o.unowed;
        due = o.due;
        along = place ∙ sym (append_assoc front (instance_of m ∷ []) (ahead g (table g ps) t));
      };
  none = λ t o. subst (Unowed ps) (sym e) (unowed_both ps done (ahead g (table g ps) s) u o.unowed);
}

-- the evaluation of the first owed instance is a step, once the marks are as a step leaves them
pub step_made : {V : Type 0} (M : Meaning V) (g : Grammar) (ps qs : List (Option Node)) (root : ℕ) (scope : List Instance) (vs ws : List V) (m : Met) (t : Stand) (changed : Bool)
    → FirstOwed g ps root m t
    → Evaluates M g (table g ps) (instance_of m) changed (value_at (M.leaf 0) vs) (value_at (M.leaf 0) ws)
    → ((y : Instance) → In y scope → (owed_at qs y ≡ true) ↔ (((y ≡ instance_of m → ⊥) × (owed_at ps y ≡ true)) ⊎ ((changed ≡ true) × In (instance_of m) (args (engine M g (table g ps) (tree_from (table g ps) 63 root) scope) y))))
    → Step (engine M g (table g ps) (tree_from (table g ps) 63 root) scope) (state_of (M.leaf 0) ps vs) (instance_of m) changed (state_of (M.leaf 0) qs ws)
step_made M g ps qs root scope vs ws m t changed f e marks = record {
  front = f.front;
  back = ahead g (table g ps) t;
  place = f.place;
  first = f.first;
  due = f.due;
  new = e.new;
  kept = e.kept;
  same = e.same;
  differs = e.differs;
  marks = marks;
}
