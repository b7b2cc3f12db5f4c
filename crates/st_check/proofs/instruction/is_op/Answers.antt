use Rattle.st_check.proofs.OpNumbers.{op-number}
use Rattle.st_check.proofs.instruction.is_op.Goals as goal

pub returns : goal.returns
returns c = rw (op-number c.args.i.op, op-number c.args.op)
