-- What every call keeps: the table is in shape and shows the book, marks are what is owed, and what is not owed has its
-- equation's result, in the tree and in what is held.
use Rattle.std.proofs.Common.{◌≡◌, ◌*◌, ◌≤◌, length}
use Rattle.grammar.specs.Model.{Grammar}
use Rattle.tour.specs.Runs.{In}
use Rattle.tour.specs.Trees.{Instance}
use Rattle.tour.specs.Steady.{Steady}
use Rattle.places.specs.Places.{table, used, owed_at, state_of}
use Rattle.places.specs.Shape.{InShape}
use Rattle.law.specs.Handed.{Archive, Rundown, meaning}
use Rattle.law.specs.Book.{Book, all_instances}
use Rattle.law.specs.Law.{ShowsBook}

pub record Right {V : Type 0} (g : Grammar) (m : Archive V) (r : Rundown V) (k : Book) : Type 0 where
  pub shape : InShape g r.places r.root
  pub long : 16 * length r.places ≤ length r.values
  pub shows : ShowsBook g m r k
  pub marks : (x : Instance) → In x (all_instances g k) → owed_at r.places x ≡ k.owed x
  pub steady : Steady (meaning m) g (table g r.places) (used r.places) (state_of (m.leaf 0) r.places r.values)
