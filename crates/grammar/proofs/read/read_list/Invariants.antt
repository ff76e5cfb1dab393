use Rattle.words.specs.Left.{left}
use Rattle.grammar.proofs.Taking.{Taken}
use Rattle.grammar.proofs.read.read_list.Given as goal

abbrev pub invariant-loop-placed : goal.invariant-loop-placed
invariant-loop-placed g l =
    (goal.iterator-loop-placed g).can_next l.placed-iterator ×
    (goal.iterator-loop-placed g).is_finite l.placed-iterator ×
    Taken g.T.Spelled.spelled g.row.N (left l.fn.words) (left l.placed-iterator) l.list l.fits
