use Rattle.places.proofs.Trees.{trees_law}
use Rattle.places.proofs.laws.shape_shows_trees.Goals as goal

pub returns : goal.returns
returns c = trees_law
