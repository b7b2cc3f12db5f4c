use Rattle.std.proofs.Common.{subst, arith}
use Rattle.st_model.specs.Flow.{reads}
use Rattle.st_flow.specs.Places.{IsWord}
use Rattle.st_flow.proofs.Hits.{unread_more}
use Rattle.st_flow.proofs.flow.are_read.Goals as goal

pub loop-i-preserved : goal.loop-i-preserved
loop-i-preserved c =
    let item = c.kind_at-kind.ensures in
    let word = subst (λ kind. IsWord c.reads.result c.args.g (reads c.args.program.now c.args.function.now.frame_bytes kind)) item.2 c.reads.ensures in
    unread_more c.args.program.now c.args.function.now c.reads.result c.args.g c.loop-i.i item.0 item.1 word c.if-reads-ne0.false c.loop-i.invariant

pub returns : goal.returns
returns c = λ e i b lt less read. c.loop-i.invariant i b lt (omega arith) read
