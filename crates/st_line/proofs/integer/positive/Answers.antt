use Rattle.std.proofs.Common.{◌≡◌, ◌∙◌, ◌≤◌, ◌^◌, pos, Some, option_map, arith, to_z}
use Rattle.std.specs.Int.{w128}
use Rattle.std.proofs.lemmas.Int.{ints}
use Rattle.st_line.specs.Operands.{magnitude}
use Rattle.st_line.specs.Views.{capped_magnitude}
use Rattle.st_line.proofs.Capped.{positive_reads}
use Rattle.st_line.proofs.integer.positive.Goals as goal

pub returns : goal.returns
returns c =
    let e : Some c.in_ok-size.size ≡ option_map capped_magnitude (magnitude c.args.text.now) = c.in_ok-size.ensures.value in
    let small : c.in_ok-size.size ≤ 2 ^ 64 = c.in_ok-size.ensures.small in
    let same : to_z w128 c.in_ok-size.size ≡ pos c.in_ok-size.size = omega (arith, ints) in
    let reads = positive_reads c.in_ok-size.size (magnitude c.args.text.now) e in
    (reads.0, reads.1, same ∙ reads.2)
