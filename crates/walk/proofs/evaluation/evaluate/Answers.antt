use Rattle.std.proofs.Common.{◌≡◌, ◌+◌, ◌*◌, ◌<◌, length, get_or, set, sym, ap, ◌∙◌, subst, arith, is_some, Some, ap₂, rules}
use Rattle.std.specs.List.{AllByRecursion}
use Rattle.std.proofs.lemmas.List.{get_or_read}
use Rattle.std.proofs.lemmas.Bool.Decides.{Decides-like}
use Rattle.places.specs.Places.{at, table, value_at}
use Rattle.sheet.specs.Answers.{grammar_of}
use Rattle.tour.proofs.Results.{own_worth}
use Rattle.grammar.specs.Rows.{equation_of}
use Rattle.tour.specs.Results.{equation, own_result}
use Rattle.tour.specs.Trees.{at_of}
use Rattle.walk.specs.Ahead.{instance_of}
use Rattle.walk.specs.Evaluation.{meaning_of, result_by, NamedIn, NoEquation}
use Rattle.walk.proofs.Evaluating.{ready, value_kept, tells_change, result_here, never_true}
use Rattle.walk.proofs.Looking.{equations_of}
use Rattle.walk.proofs.Resulting.{evaluated}
use Rattle.walk.proofs.evaluation.evaluate.Goals as goal

pub returns-in_default : goal.returns-in_default
returns-in_default g c = absurd (never_true (sym c.requires.meeting.rule_place_used ∙ ap is_some (sym c.in_default.ensures)))

pub returns-in_default-equation_met : goal.returns-in_default-equation_met
returns-in_default-equation_met g c =
    let m = c.args.met in
    let σ = grammar_of c.args.sheet.now in
    let e = equations_of σ c.args.places.now m.rule_place c.in-Some.node (sym c.in-Some.ensures) in
    absurd ((ready _ _ _ c.requires.accepted c.requires.sound c.requires.meeting).equation_there (subst (NoEquation m.occurrence m.attribute) (sym e) c.in_default-equation_met.ensures))

pub offset_bounds-values-entry : goal.offset_bounds-values-entry
offset_bounds-values-entry g c =
    let h = ready _ _ _ c.requires.accepted c.requires.sound c.requires.meeting in
    let inside : 16 * c.from.result + c.from-2.result < length c.args.values.now = omega (arith, h.attribute_small, h.place_there, c.requires.room, c.from.ensures, c.from-2.ensures) in
    search rules

pub bounds-values-entry : goal.bounds-values-entry
bounds-values-entry g c =
    let h = ready _ _ _ c.requires.accepted c.requires.sound c.requires.meeting in
    omega (arith, h.attribute_small, h.place_there, c.requires.room, c.from.ensures, c.from-2.ensures)

pub returns : goal.returns
returns g c =
    let m = c.args.met in
    let σ = grammar_of c.args.sheet.now in
    let ps = c.args.places.now in
    let T = table σ ps in
    let vs = c.args.values.now in
    let missing = g.A.Archive.leafs c.args.archive.now 0 in
    let M = meaning_of (g.A.Archive.leafs c.args.archive.now) (g.A.Archive.results c.args.archive.now) in
    let v = value_at missing vs in
    let n = c.in-Some.node in
    let h = ready _ _ _ c.requires.accepted c.requires.sound c.requires.meeting in
    let i = 16 * c.from.result + c.from-2.result in
    let ei : i ≡ 16 * m.place + m.attribute = omega (arith, c.from.ensures, c.from-2.ensures) in
    let inside : i < length vs = omega (arith, h.attribute_small, h.place_there, c.requires.room, c.from.ensures, c.from-2.ensures) in
    let there : at ps m.rule_place ≡ Some n = sym c.in-Some.ensures in
    let q = c.in-Some-equation_met.equation.now in
    let met = ap (equation m.occurrence m.attribute) (equations_of σ ps m.rule_place n there) ∙ c.in-Some-equation_met.ensures in
    let new = c.result_of-new.ensures
    ∙ result_here M σ ps m.rule_place n there v (equation_of q) (subst (λ z. AllByRecursion (NamedIn (length (T m.rule_place).kids)) z.arguments) met h.named)
    ∙ ap (result_by M (at_of m.rule_place (T m.rule_place).kids) (T m.rule_place).code v) (sym met)
    ∙ sym (own_worth M σ T m.rule_place m.occurrence m.attribute v) in
    let table' = ap₂ (λ j x. set vs j x) ei (c.replace-old.ensures.after ∙ new) in
    let old = c.replace-old.ensures.value ∙ sym c.index-values-entry.is ∙ get_or_read vs i _ inside c.index-values-entry.is missing ∙ ap (λ n. get_or vs n missing) ei ∙ sym (value_kept missing vs m.place m.attribute h.attribute_small) in
    let changed' = tells_change c.same.result (v (instance_of m)) (own_result M σ T m.rule_place m.occurrence m.attribute v)
    (Decides-like c.same.result (λ e. sym old ∙ e ∙ new) (λ e. old ∙ e ∙ sym new) c.same.ensures) in
    record {
      table = table';
      changed = changed';
      evaluates = evaluated M σ ps m vs _ _ c.requires.accepted c.requires.sound c.requires.meeting c.requires.room table' changed';
    }
