use Rattle.std.proofs.Common.{◌≡◌, Some, subst, rules}
use Rattle.std.proofs.lemmas.Option.{MatchOption-at_some}
use borrow.Author.Tests.{tests}
use Rattle.words.specs.Tokens.{line_in}
use Rattle.reader.specs.Views.{state_of, Stepped}
use Rattle.reader.proofs.Folding.{keyed, answered}
use Rattle.reader.proofs.tables.Tables.read_line.Goals as goal

pub returns : goal.returns
returns c =
    let made : c.new.result ≡ Some c.in_ok-line.line = search rules in
    let k = keyed (state_of c.args.self.now) (line_in c.args.text.now) c.in_ok-line.line c.args.number (MatchOption-at_some _ _ c.in_ok-line.line made c.new.ensures) in
    answered c.read_keyed.new.self _ c.read_keyed.result c.map_err.result c.in_ok-line.line.key.line c.args.number _ c.map_err.ensures.cases (λ e f p. search (rules, tests)) k.1
    (subst (λ s. Stepped c.read_keyed.result s c.read_keyed.new.self) k.0 c.read_keyed.ensures)
