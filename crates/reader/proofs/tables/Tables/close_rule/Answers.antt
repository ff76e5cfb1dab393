use Rattle.std.proofs.Common.{rules, ◌≡◌, ◌+◌, ◌-◌, map, length, take, drop, Some, None, vec_items, vec_len, sym, refl, ap, ◌∙◌, arith, length-append}
use Rattle.std.specs.Option.{option_map}
use Rattle.std.specs.Result.{result_err}
use Rattle.std.proofs.lemmas.List.{take_rest}
use Rattle.words.specs.Left.{left}
use Rattle.grammar.specs.Rows.{equation_of}
use Rattle.lines.specs.LineKinds.Line.{plan_line}
use Rattle.reader.specs.Spans.{open_few}
use Rattle.reader.specs.Steps.Step.{next}
use Rattle.reader.specs.Views.{open_of, state_of}
use Rattle.reader.proofs.Closed.{taken_out, open_here, closed_spans, plan_words, joined_part, plan_judged, closed_rules}
use Rattle.reader.proofs.Stepping.{taken, refused, stepped_err}
use Rattle.reader.proofs.tables.Tables.close_rule.Goals as goal

pub invariant_of-self-in-Break-branch-2 : goal.invariant_of-self-in-Break-branch-2
invariant_of-self-in-Break-branch-2 c =
    let t = c.args.self.now in
    let g = taken_out t c.read_plan.new.plan c.take.new.self c.read_plan.ensures.grows c.take.ensures.after in
    record { symbol_room = t.symbol_room; rule_room = t.rule_room; equation_room = t.equation_room; plan_room = omega (arith, c.read_plan.ensures.capacity, t.plan_room); turn = g.turn; spans = g.spans }

pub invariant_of-self-in-Break-branch-3 : goal.invariant_of-self-in-Break-branch-3
invariant_of-self-in-Break-branch-3 c =
    let t = c.args.self.now in
    let g = taken_out t c.read_plan.new.plan c.take.new.self c.read_plan.ensures.grows c.take.ensures.after in
    record { symbol_room = t.symbol_room; rule_room = t.rule_room; equation_room = t.equation_room; plan_room = omega (arith, c.read_plan.ensures.capacity, t.plan_room); turn = g.turn; spans = g.spans }

pub push_reserved-requires : goal.push_reserved-requires
push_reserved-requires c =
    let opened : c.args.self.now.opened ≡ Some c.in_ok-open.open = search rules in
    omega (arith, (open_here c.args.self.now c.in_ok-open.open opened).room, c.args.self.now.rule_room)

pub invariant_of-self-2 : goal.invariant_of-self-2
invariant_of-self-2 c =
    let t = c.args.self.now in
    let opened : t.opened ≡ Some c.in_ok-open.open = search rules in
    let o = open_here t c.in_ok-open.open opened in
    record {
      symbol_room = t.symbol_room;
      rule_room = omega (arith, c.push_reserved.ensures.capacity, t.rule_room);
      equation_room = t.equation_room;
      plan_room = omega (arith, c.read_plan.ensures.capacity, t.plan_room);
      turn = ap (open_few (vec_len c.push_reserved.new.self)) c.take.ensures.after;
      spans = closed_spans t c.read_plan.new.plan (vec_items c.push_reserved.new.self) _ c.take.new.self c.read_plan.ensures.grows c.take.ensures.after c.push_reserved.ensures.items (omega (arith, c.len.ensures)) (omega (arith, c.len-2.ensures));
    }

pub returns-in_err-check_open : goal.returns-in_err-check_open
returns-in_err-check_open c =
    let t = c.args.self.now in
    let opened : t.opened ≡ Some c.in_ok-open.open = search rules in
    let p = plan_words (left c.args.words) (vec_items t.plan) (vec_items c.read_plan.new.plan) c.in_ok-read_plan.ensures.read in
    let x = c.in_err-check_open.field-0.0 in
    let same : result_err c.from_residual-in_err-check_open.result ≡ Some x = search rules in
    let found : Some x ≡ result_err c.check_open.result = search rules in
    stepped_err _ _ x _ same
    (refused (state_of t) _ (plan_line p.instructions) x p.says
    (found
    ∙ c.check_open.ensures
    ∙ plan_judged t c.in_ok-open.open p.instructions c.deref.result.now _ _ opened c.deref.ensures.value
    (take_rest c.deref-2.result.now c.in_ok-open.open.start ∙ ap (drop c.in_ok-open.open.start) c.deref-2.ensures.value)
    (joined_part (vec_items t.plan) c.deref-3.result.now p.instructions c.len-before.result _ (c.len-before.ensures ∙ t.plan.ok.0) refl (c.deref-3.ensures.value ∙ p.joins))
    (omega (arith, p.few, t.plan.ok.0))))

pub returns : goal.returns
returns c =
    let t = c.args.self.now in
    let es = vec_items t.equations in
    let open' = c.in_ok-open.open in
    let p = plan_words (left c.args.words) (vec_items t.plan) (vec_items c.read_plan.new.plan) c.in_ok-read_plan.ensures.read in
    let is = p.instructions in
    let opened : t.opened ≡ Some open' = search rules in
    let whole : take (c.len.result - open'.start) (drop open'.start es) ≡ drop open'.start es = ap (λ n. take (n - open'.start) (drop open'.start es)) (c.len.ensures ∙ t.equations.ok.0) ∙ take_rest es open'.start in
    let ours : take (c.len-2.result - c.len-before.result) (drop c.len-before.result (vec_items c.read_plan.new.plan)) ≡ is = joined_part (vec_items t.plan) (vec_items c.read_plan.new.plan) is c.len-before.result c.len-2.result (c.len-before.ensures ∙ t.plan.ok.0) (c.len-2.ensures ∙ c.read_plan.new.plan.ok.0) p.joins in
    let steps : vec_len t.plan + length is ≡ vec_len c.read_plan.new.plan = omega (arith, t.plan.ok.0, c.read_plan.new.plan.ok.0, ap length p.joins ∙ length-append (vec_items t.plan) is) in
    let none : None ≡ option_map (open_of es) c.take.new.self = sym (ap (option_map (open_of es)) c.take.ensures.after) in
    taken (state_of t) _ (plan_line is) p.says
    (c.in_ok-check_open.ensures
    ∙ plan_judged t open' is c.deref.result.now _ _ opened c.deref.ensures.value
    (take_rest c.deref-2.result.now open'.start ∙ ap (drop open'.start) c.deref-2.ensures.value)
    (joined_part (vec_items t.plan) c.deref-3.result.now is c.len-before.result _ (c.len-before.ensures ∙ t.plan.ok.0) refl (c.deref-3.ensures.value ∙ p.joins))
    (omega (arith, p.few, t.plan.ok.0)))
    ∙ (λ i. next (record {
      symbols = (state_of t).symbols;
      rules = closed_rules t open' is (vec_items c.read_plan.new.plan) (vec_items c.push_reserved.new.self) _ opened p.joins c.push_reserved.ensures.items (λ j. record { left = open'.rule.left; right = open'.rule.right.items; equations = map equation_of (whole j); plan = ours j }) i;
      opened = none i;
      sets = (state_of t).sets;
      steps = steps i;
    }))
