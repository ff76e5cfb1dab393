use Rattle.std.proofs.Common.{rules, ◌≡◌, sym, ◌∙◌}
use Rattle.tour.specs.Trees.{at_of}
use Rattle.places.proofs.Firsts.{at_of_firsts}
use Rattle.places.proofs.node.Node.occurrence_place.Goals as goal

pub returns-in_default-clause-among : goal.returns-in_default-clause-among
returns-in_default-clause-among c = λ count h.
    let e : c.child.result ≡ at_of c.args.place c.args.self.now.children c.args.occurrence = search rules in
    e ∙ sym (at_of_firsts c.args.place count c.args.occurrence c.args.self.now.children h)
