use Rattle.std.proofs.Common.{rules, ◌≤◌, ◌^◌, ◌-◌, ◌∙◌, arith, w64, SFits}
use Rattle.std.specs.Int.{w128}
use Rattle.std.specs.Prelude.{unsigned_abs}
use Rattle.std.specs.Int.Signed.{nat_abs-le}
use Rattle.std.proofs.lemmas.Int.{to_z-of_z}
use Rattle.st_rv.proofs.Products.{high_half}
use Rattle.st_rv.proofs.results.high_product.Goals as goal

pub returns : goal.returns
returns c =
    let f : SFits w64 c.cast_signed.result = search rules in
    let g : SFits w64 c.cast_signed-2.result = search rules in
    let x = c.cast_signed.ensures in
    let y = c.cast_signed-2.ensures in
    let a = nat_abs-le c.cast_signed-2.result g.sfits in
    let b : unsigned_abs c.cast_signed-2.result ≤ 2 ^ 64 - 1 = omega arith in
    let p = c.from.ensures ∙ to_z-of_z w64 c.cast_signed.result f in
    let q = c.from-2.ensures ∙ to_z-of_z w64 c.cast_signed-2.result g in
    let f' : SFits w128 c.cast_signed.result = record { sfits = omega (arith, f.sfits) } in
    let g' : SFits w128 c.cast_signed-2.result = record { sfits = omega (arith, g.sfits) } in
    rw (p, q, to_z-of_z w128 c.cast_signed.result f', to_z-of_z w128 c.cast_signed-2.result g', high_half _ _ f b, x, y) at c.cast_unsigned.ensures
