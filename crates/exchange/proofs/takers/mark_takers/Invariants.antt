use Rattle.std.proofs.Common.{map, take}
use Rattle.grammar.specs.Rows.{equation_of}
use Rattle.sheet.specs.Answers.{grammar_of}
use Rattle.tour.specs.Trees.{at_of}
use Rattle.places.specs.Places.{arity, firsts}
use Rattle.exchange.specs.Takers.{takers_among}
use Rattle.exchange.specs.Waking.{Woke}
use Rattle.exchange.proofs.takers.mark_takers.Given as goal

abbrev pub invariant-loop-equation : goal.invariant-loop-equation
invariant-loop-equation l = Woke l.initial.places l.places (takers_among (at_of l.p (firsts (arity (grammar_of l.sheet) l.node.rule) l.node.children)) l.from (take l.equation-index (map equation_of l.equation-items)))
