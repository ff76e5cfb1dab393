use Rattle.std.proofs.Common.{rules, sym, subst}
use Rattle.words.specs.Left.{left}
use Rattle.grammar.proofs.Taking.{Taken, taken_more, taken_all}
use Rattle.grammar.proofs.read.read_list.Goals as goal

pub loop-placed-preserved : goal.loop-placed-preserved
loop-placed-preserved g c = (tt, tt, subst (Taken g.T.Spelled.spelled g.row.N (left c.args.words) (left c.next.new.self) c.try_push.new.self) (sym c.and-fits.ensures) (taken_more g.T.Spelled.spelled g.row.N _ _ _ _ _ _ c.try_push.result _ _ c.in_ok-item.item c.loop-placed.invariant.2 c.in-Some.ensures.steps.0 (search rules) (search rules) (search rules)))

pub returns : goal.returns
returns g c = taken_all g.T.Spelled.spelled g.row.N _ _ _ _ c.loop-placed.invariant.2 c.in-None.ensures.steps.0.0 c.in_ok-fits.was
