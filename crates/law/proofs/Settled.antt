-- A settled tree has the values of a fresh evaluation, and the tour meets every instance.
use Rattle.std.proofs.Common.{◌≡◌, true, ◌↔◌, length, sym, ap, ◌∙◌, subst}
use Rattle.grammar.specs.Model.{Grammar}
use Rattle.sheet.specs.Meaning.{Sound}
use Rattle.tour.specs.Runs.{In}
use Rattle.tour.specs.Trees.{Instance, instances}
use Rattle.tour.specs.Touring.{tour}
use Rattle.tour.specs.Engine.{live_below}
use Rattle.places.specs.Places.{used, table, owed_at, value_at}
use Rattle.law.specs.Handed.{Archive, Rundown}
use Rattle.law.specs.Conditions.{tree_of, UnmetInstance, Settled}
use Rattle.law.specs.Book.{Book, BookSettled}
use Rattle.law.specs.Law.{SettledValues}
use Rattle.law.proofs.Right.{Right}
use Rattle.law.proofs.Bridge.{tree_fresh, tree_result, tree_touring, tree_live, tree_marks}
use Rattle.law.proofs.Stepping.{state_in, engine_there}

module _ (g : Grammar) (so : Sound g) {V : Type 0} (m : Archive V) (r : Rundown V) (k : Book) (ri : Right g m r k) where
  -- an instance of the shown tree is one of the book's
  in_book : (x : Instance) → In x (instances g (tree_of g r)) → In x (instances g k.tree)
  in_book x h = subst (λ t. In x (instances g t)) ri.shows.tree_shown h

  in_shown : (x : Instance) → In x (instances g k.tree) → In x (instances g (tree_of g r))
  in_shown x h = subst (λ t. In x (instances g t)) (sym ri.shows.tree_shown) h

  -- the tree is settled by its marks just if it is by the book
  pub settled_by_book : Settled g r ↔ BookSettled g k
  settled_by_book = (
    (λ s x h o. s x (in_shown x h) (tree_marks g so m r k ri x h ∙ o)),
    λ s x h o. s x (in_book x h) (sym (tree_marks g so m r k ri x (in_book x h)) ∙ o),
  )

  idle : BookSettled g k → (x : Instance) → In x (instances g k.tree) → owed_at r.places x ≡ true → ⊥
  idle s x h o = s x h (sym (tree_marks g so m r k ri x h) ∙ o)

  -- a settled tree has the values of a fresh evaluation, and each is its equation's result
  pub settled_values : BookSettled g k → SettledValues g m r k
  settled_values s = record {
    fresh_values = λ x h.
        ap (λ f. f x) (tree_fresh g so m r k ri (live_below g (table g r.places) (used r.places) (length r.places)))
        ∙ (engine_there g m so r k ri).values (state_in g m r) ri.steady (λ y w o. idle s y (in_book y w) o) x (in_shown x h);
    equations_hold = λ x h.
        ri.steady x (tree_live g so m r k ri x h) (idle s x h) ∙ sym (tree_result g so m r k ri x h (value_at (m.leaf 0) r.values));
  }

  -- the tour meets every instance of the tree, so nothing is declined for one that it does not meet
  pub all_met : UnmetInstance g r → ⊥
  all_met u = u.not_met (subst (λ t. In u.which (tour g t)) (sym ri.shows.tree_shown) (((tree_touring g so m r k ri).all u.which).1 (in_book u.which u.in_tree)))
