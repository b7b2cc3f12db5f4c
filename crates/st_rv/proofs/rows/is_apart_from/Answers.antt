use Rattle.std.proofs.Common.{arith, refl}
use Rattle.st_rv.proofs.Apart.{no_row, apart_more, apart_all}
use Rattle.st_rv.proofs.rows.is_apart_from.Goals as goal

pub returns-then-clash : goal.returns-then-clash
returns-then-clash c = (λ h. cc, λ h. absurd (h c.loop-other.other-index no_row (omega arith) (c.if-clash.ensures.0 refl)))

pub loop-other-preserved : goal.loop-other-preserved
loop-other-preserved c =
    apart_more c.args.row.now c.args.others.now c.loop-other.other-index (omega arith) c.loop-other.invariant
    (λ k. let e = c.if-clash.ensures.1 k in cc)

pub returns : goal.returns
returns c = (λ h. apart_all c.args.row.now c.args.others.now c.loop-other.other-index (omega arith) c.loop-other.invariant, λ h. refl)
