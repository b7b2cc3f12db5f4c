use Rattle.std.proofs.Common.{arith}
use Rattle.st_plain.proofs.run.PlainRun.back.Goals as goal

pub overflow_cast-result : goal.overflow_cast-result
overflow_cast-result c = omega arith
