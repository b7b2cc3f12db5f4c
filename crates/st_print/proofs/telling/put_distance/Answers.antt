use Rattle.std.proofs.Common.{◌∙◌, ap, rules, w64, SFits}
use Rattle.std.proofs.lemmas.Int.{to_z-of_z}
use Rattle.std.specs.Fmt.{signed_decimal}
use Rattle.st_print.proofs.Putting.{puts-as, distance-told}
use Rattle.st_print.proofs.telling.put_distance.Goals as goal

pub returns : goal.returns
returns g c =
    let fits : SFits w64 c.args.distance = search rules in
    let same = to_z-of_z w64 c.args.distance fits in
    puts-as _ (distance-told _ _ _ _ (c.as_bytes-number.ensures.value ∙ c.format.ensures.text ∙ ap signed_decimal same)) c.put_told.ensures
