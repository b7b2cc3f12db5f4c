use Rattle.std.proofs.Common.{subst, arith}
use Rattle.st_model.specs.Flow.{reads}
use Rattle.st_flow.specs.Places.{IsWord}
use Rattle.st_flow.proofs.Hits.{none_more}
use Rattle.st_flow.proofs.flow.first_among.Goals as goal

pub loop-i-preserved : goal.loop-i-preserved
loop-i-preserved c =
    let item = c.kind_at-kind.ensures in
    let word = subst (λ kind. IsWord c.reads-read.result c.args.g (reads c.args.program.now c.args.function.now.frame_bytes kind)) item.2 c.reads-read.ensures in
    none_more c.args.program.now c.args.function.now c.args.sets.now c.reads-read.result c.args.g c.loop-i.i item.0 item.1 c.requires.exact word c.in_default.ensures.none c.loop-i.invariant

pub returns-clause-none : goal.returns-clause-none
returns-clause-none c = λ i b lt less bad. c.loop-i.invariant i b lt (omega arith) bad
