use Rattle.std.proofs.Common.{map, length, Some, vec_items, vec_len, sym, ap, ◌∙◌, arith}
use Rattle.std.proofs.lemmas.List.{drop_all, length-map}
use Rattle.std.proofs.lemmas.Bool.{lt-ltb, le-leb, and_from, and_parts}
use Rattle.grammar.specs.Rows.{equation_of}
use Rattle.grammar.specs.Tests.{every}
use Rattle.lines.specs.Faults.{rule_fault}
use Rattle.reader.specs.Steps.Step.{next}
use Rattle.reader.specs.Spans.{row_fits, open_fits}
use Rattle.reader.specs.Views.{rule_of, state_of}
use Rattle.reader.proofs.Stepping.{taken, few_rules}
use Rattle.reader.proofs.tables.Tables.open_rule.Goals as goal

pub returns : goal.returns
returns c =
    let st = state_of c.args.self.now in
    taken st _ _ c.in_ok-rule.ensures (c.in_ok-check_rule.ensures ∙ (λ i. rule_fault (c.symbol_count.ensures i) (c.rule_count.ensures i) c.in_ok-rule.rule.left c.in_ok-rule.rule.right.items))
    ∙ ap (λ es. next (record { symbols = st.symbols; rules = st.rules; opened = Some (record { left = c.in_ok-rule.rule.left; right = c.in_ok-rule.rule.right.items; equations = map equation_of es }); sets = st.sets; steps = st.steps }))
    (sym (drop_all c.len.result (vec_items c.args.self.now.equations) (omega (arith, c.len.ensures, c.args.self.now.equations.ok.0))))

pub invariant_of-self : goal.invariant_of-self
invariant_of-self c =
    let t = c.args.self.now in record {
      symbol_room = t.symbol_room;
      rule_room = t.rule_room;
      equation_room = t.equation_room;
      plan_room = t.plan_room;
      turn = lt-ltb _ _ (omega (arith, few_rules (length (state_of t).symbols) (length (state_of t).rules) c.in_ok-rule.rule.left c.in_ok-rule.rule.right.items (c.in_ok-check_rule.ensures ∙ (λ i. rule_fault (c.symbol_count.ensures i) (c.rule_count.ensures i) c.in_ok-rule.rule.left c.in_ok-rule.rule.right.items)), length-map (vec_items t.rules) (rule_of (vec_items t.equations) (vec_items t.plan)), t.rules.ok.0));
      spans = and_from _ _ (and_parts (every (row_fits (vec_len t.equations) (vec_len t.plan)) (vec_items t.rules)) (open_fits (vec_len t.equations) t.opened) t.spans).0 (le-leb _ _ (omega (arith, c.len.ensures)));
    }
