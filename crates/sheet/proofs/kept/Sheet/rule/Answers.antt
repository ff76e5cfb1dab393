use Rattle.std.proofs.Common.{◌≡◌, map, IfSome, Some, None, sym, ap, ◌∙◌, subst, arith}
use Rattle.std.specs.Option.{option_map}
use Rattle.grammar.specs.Rows.{symbol_of, equation_of}
use Rattle.plans.specs.Groups.{group_scope}
use Rattle.reader.specs.Views.{part}
use Rattle.sheet.specs.Answers.{grammar_of, group_rule}
use Rattle.sheet.proofs.Looking.{row_parts, row_rule}
use Rattle.sheet.proofs.kept.Sheet.rule.Goals as goal

pub returns-in_err-row : goal.returns-in_err-row
returns-in_err-row c = record {
  rule = ap (option_map group_rule) c.from_residual.ensures ∙ row_rule c.args.self.now.tables c.deref.result.now c.args.number None c.deref.ensures.value c.in_err-row.ensures.lookup;
  symbols = subst (λ o. IfSome o (λ g. (group_scope g).symbols ≡ (grammar_of c.args.self.now).symbols)) (sym c.from_residual.ensures) tt;
}

pub part-requires : goal.part-requires
part-requires c =
    let f = c.in_ok-row.ensures.lookup in
    let p = row_parts c.args.self.now.tables c.deref.result.now c.args.number c.in_ok-row.row.now c.deref.ensures.value f.3.0 f.1 in
    omega (arith, p.equations.inside, c.deref-3.ensures.len)

pub part-requires-2 : goal.part-requires-2
part-requires-2 c =
    let f = c.in_ok-row.ensures.lookup in
    let p = row_parts c.args.self.now.tables c.deref.result.now c.args.number c.in_ok-row.row.now c.deref.ensures.value f.3.0 f.1 in
    omega (arith, p.plan.inside, c.deref-4.ensures.len)

pub returns : goal.returns
returns c =
    let row = c.in_ok-row.row.now in
    let p = c.production.ensures in
    let es = c.part.ensures ∙ ap (part row.equations) c.deref-3.ensures.value in
    let is = c.part-2.ensures ∙ ap (part row.plan) c.deref-4.ensures.value in
    record {
      rule = (λ i. Some (record { left = p.left i; right = p.right i; equations = map equation_of (es i); plan = is i }))
          ∙ row_rule c.args.self.now.tables c.deref.result.now c.args.number (Some c.in_ok-row.row) c.deref.ensures.value c.in_ok-row.ensures.lookup;
      symbols = ap (map symbol_of) (p.symbols ∙ c.deref-2.ensures.value);
    }
