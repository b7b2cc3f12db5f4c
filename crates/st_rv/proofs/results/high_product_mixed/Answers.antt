use Rattle.std.proofs.Common.{rules, pos, ◌≤◌, ◌^◌, ◌-◌, ◌∙◌, arith, w64, SFits}
use Rattle.std.specs.Int.{w128}
use Rattle.std.specs.Prelude.{unsigned_abs}
use Rattle.std.proofs.lemmas.Int.{to_z-of_z}
use Rattle.st_rv.proofs.Products.{high_half}
use Rattle.st_rv.proofs.results.high_product_mixed.Goals as goal

pub returns : goal.returns
returns c =
    let f : SFits w64 c.cast_signed.result = search rules in
    let x = c.cast_signed.ensures in
    let b : unsigned_abs (pos c.args.b) ≤ 2 ^ 64 - 1 = omega arith in
    let p = c.from.ensures ∙ to_z-of_z w64 c.cast_signed.result f in
    let q = c.from-2.ensures in
    let f' : SFits w128 c.cast_signed.result = record { sfits = omega (arith, f.sfits) } in
    let g' : SFits w128 (pos c.args.b) = record { sfits = omega arith } in
    rw (p, q, to_z-of_z w128 c.cast_signed.result f', to_z-of_z w128 (pos c.args.b) g', high_half _ _ f b, x) at c.cast_unsigned.ensures
