use Rattle.std.proofs.Common.{arith}
use Rattle.st_step.proofs.WordParts.{joined, joined_fits}
use Rattle.st_step.proofs.bytes.with_bytes.Goals as goal

pub overflow_add-result : goal.overflow_add-result
overflow_add-result c =
    let e = joined c.args.word c.args.at c.args.size c.args.n _ _ _ c.requires.within c.low_bits-below.ensures c.low_bits.ensures c.low_bits-2.ensures in
    let b = joined_fits c.args.word c.args.at c.args.size c.args.n c.ranges.word.fits c.requires.within in
    record { fits = omega (arith, e, b) }

pub overflow_add-result-2 : goal.overflow_add-result-2
overflow_add-result-2 c =
    let e = joined c.args.word c.args.at c.args.size c.args.n _ _ _ c.requires.within c.low_bits-below.ensures c.low_bits.ensures c.low_bits-2.ensures in
    let b = joined_fits c.args.word c.args.at c.args.size c.args.n c.ranges.word.fits c.requires.within in
    record { fits = omega (arith, e, b) }

pub returns : goal.returns
returns c = joined c.args.word c.args.at c.args.size c.args.n _ _ _ c.requires.within c.low_bits-below.ensures c.low_bits.ensures c.low_bits-2.ensures
