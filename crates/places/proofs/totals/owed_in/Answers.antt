use Rattle.std.proofs.Common.{◌≡◌, arith, rules}
use Rattle.places.specs.Places.{marks_in}
use Rattle.places.specs.Totals.{owed_in}
use Rattle.places.proofs.Digits.{owed_most}
use Rattle.places.proofs.totals.owed_in.Goals as goal

pub returns-clause-few : goal.returns-clause-few
returns-clause-few c = let is : c.map_or.result ≡ owed_in c.args.place = search rules in omega (arith, is, owed_most (marks_in c.args.place) 16)
