use Rattle.std.proofs.Common.{◌&&◌, ltb}
use Rattle.sheet.specs.Answers.{grammar_of}
use Rattle.places.specs.Places.{table}
use Rattle.exchange.specs.Exchanging.{inherited_at}
use Rattle.exchange.specs.Waking.{Woke}
use Rattle.exchange.proofs.exchanging.wake_inherited.Given as goal

abbrev pub invariant-loop-a : goal.invariant-loop-a
invariant-loop-a l = Woke l.initial.places l.places (λ x. ltb x.1 l.a && inherited_at (grammar_of l.sheet) (table (grammar_of l.sheet) l.initial.places) l.p x)
