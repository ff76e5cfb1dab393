use Rattle.std.proofs.Common.{◌+◌, ap, vec_items, vec_len, sym, ◌∙◌, arith}
use Rattle.lines.specs.Read.{set_of}
use Rattle.std.specs.Option.{option_map}
use Rattle.reader.specs.Steps.{add_to}
use Rattle.reader.specs.Steps.Step.{next}
use Rattle.reader.specs.Views.{state_of}
use Rattle.reader.proofs.Spanned.{spans_more, gained}
use Rattle.reader.proofs.Stepping.{taken, set_room}
use Rattle.reader.proofs.tables.Tables.add_equation.Goals as goal

pub push_reserved-requires : goal.push_reserved-requires
push_reserved-requires c =
    omega (arith, (set_room (state_of c.args.self.now) (set_of c.in_ok-set.set) c.in_ok-function.ensures.fault).few, c.args.self.now.equation_room)

pub invariant_of-self : goal.invariant_of-self
invariant_of-self c =
    let t = c.args.self.now in record {
      symbol_room = t.symbol_room;
      rule_room = t.rule_room;
      equation_room = omega (arith, c.push_reserved.ensures.capacity, t.equation_room);
      plan_room = t.plan_room;
      turn = t.turn;
      spans = spans_more (vec_len t.equations) (vec_len c.push_reserved.new.self) (vec_len t.plan) (vec_len t.plan) (omega (arith, c.push_reserved.ensures.len)) (omega arith) (vec_items t.rules) t.opened t.spans;
    }

pub returns : goal.returns
returns c =
    let t = c.args.self.now in
    let g = gained (vec_items t.equations) (vec_items c.push_reserved.new.self) _ (vec_items t.plan) (vec_items t.rules) t.opened (vec_len t.equations) (vec_len t.plan) t.equations.ok.0 t.plan.ok.0 c.push_reserved.ensures.items t.spans in
    let s = c.in_ok-set.set in
    taken (state_of t) _ _ c.in_ok-set.ensures c.in_ok-function.ensures.fault
    ∙ ap (λ n. next (record { symbols = (state_of t).symbols; rules = (state_of t).rules; opened = option_map (add_to (record { occurrence = s.occurrence; attribute = s.attribute; function = n; arguments = s.arguments.items })) (state_of t).opened; sets = vec_len t.equations + 1; steps = (state_of t).steps })) (sym c.in_ok-function.ensures.function)
    ∙ (λ i. next (record { symbols = (state_of t).symbols; rules = g.rules i; opened = g.opened i; sets = sym c.push_reserved.ensures.len i; steps = (state_of t).steps }))
