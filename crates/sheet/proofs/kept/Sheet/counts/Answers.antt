use Rattle.std.proofs.Common.{◌≡◌, ◌<◌, ◌^◌, vec_items, sum_by, sym, ap, ◌∙◌, rules, arith}
use Rattle.std.proofs.lemmas.List.{length-map}
use Rattle.grammar.specs.Rows.{symbol_of}
use Rattle.reader.specs.Views.{rule_of}
use Rattle.reader.specs.declared.rows.RuleRow.{RuleRow}
use Rattle.sheet.specs.Answers.{size_of}
use Rattle.sheet.proofs.Looking.{sizes}
use Rattle.sheet.proofs.kept.Sheet.counts.Goals as goal

pub sum-requires-clause-fits : goal.sum-requires-clause-fits
sum-requires-clause-fits c =
    let z = sizes c.args.self.now.tables c.args.self.now.accepted in
    let few : sum_by (λ r. size_of r.equations) c.deref.result.now < 2 ^ 64 = omega (arith, ap (sum_by {X = RuleRow} (λ r. size_of r.equations)) c.deref.ensures.value, z.sets, z.few_sets) in
    search rules

pub sum-requires-2-clause-fits : goal.sum-requires-2-clause-fits
sum-requires-2-clause-fits c =
    let z = sizes c.args.self.now.tables c.args.self.now.accepted in
    let few : sum_by (λ r. size_of r.plan) c.deref-2.result.now < 2 ^ 64 = omega (arith, ap (sum_by {X = RuleRow} (λ r. size_of r.plan)) c.deref-2.ensures.value, z.instructions, z.few_instructions) in
    search rules

pub returns : goal.returns
returns c =
    let t = c.args.self.now.tables in
    let z = sizes t c.args.self.now.accepted in
    let sets : c.sum.result ≡ sum_by (λ r. size_of r.equations) c.deref.result.now = search rules in
    let instructions : c.sum-2.result ≡ sum_by (λ r. size_of r.plan) c.deref-2.result.now = search rules in
    record {
      symbols_are = c.len.ensures ∙ t.symbols.ok.0 ∙ sym (length-map (vec_items t.symbols) symbol_of);
      rules_are = c.len-2.ensures ∙ t.rules.ok.0 ∙ sym (length-map (vec_items t.rules) (rule_of (vec_items t.equations) (vec_items t.plan)));
      sets_are = sets ∙ ap (sum_by {X = RuleRow} (λ r. size_of r.equations)) c.deref.ensures.value ∙ sym z.sets;
      instructions_are = instructions ∙ ap (sum_by {X = RuleRow} (λ r. size_of r.plan)) c.deref-2.ensures.value ∙ sym z.instructions;
    }
