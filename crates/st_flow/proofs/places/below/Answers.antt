use Rattle.std.proofs.Common.{◌<◌, ◌*◌, arith, subst, sym}
use Rattle.std.specs.Prelude.{nat_lt, ◌-◌}
use Rattle.st_flow.specs.Places.{IsWord}
use Rattle.st_flow.proofs.Words.{word_all, word_part, power_fits}
use Rattle.st_flow.proofs.places.below.Goals as goal

pub returns-then-high-first-ge64 : goal.returns-then-high-first-ge64
returns-then-high-first-ge64 c = word_all c.args.g c.args.high (omega arith)

pub returns-else-high-first-ge64 : goal.returns-else-high-first-ge64
returns-else-high-first-ge64 c =
    let few : c.args.high - 64 * c.args.g < 64 = omega arith in
    let part = word_part c.args.g c.args.high (c.args.high - 64 * c.args.g) (omega arith) in
    subst (λ n. IsWord (n - 1) c.args.g (λ x. nat_lt x c.args.high)) (sym (power_fits (c.args.high - 64 * c.args.g) few)) part
