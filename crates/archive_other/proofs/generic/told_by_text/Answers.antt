use Rattle.std.proofs.Common.{◌∙◌}
use Rattle.std.proofs.lemmas.Slice.Eq.{slice_eq-Decides}
use Rattle.archive_other.proofs.Telling.{told}
use Rattle.archive_other.proofs.generic.told_by_text.Goals as goal
use Rattle.std.proofs.lemmas.Bool.Decides.{Decides-eqb}

pub returns : goal.returns
returns g c =
    told (g.P.Printable.texts c.args.archive.now) (g.P.Printable.apart c.args.archive.now) c.args.v c.args.w
    c.as_slice.result.now c.as_slice-2.result.now c.eq.result
    (c.as_slice.ensures ∙ c.text.ensures.says) (c.as_slice-2.ensures ∙ c.text-2.ensures.says)
    (slice_eq-Decides Decides-eqb c.as_slice.result.now c.as_slice-2.result.now c.eq.result c.eq.ensures)
