use Rattle.std.proofs.Common.{arith}
use Rattle.std.proofs.lemmas.Grind.{common_steps}
use Rattle.st_asm.proofs.places.functions_in.Goals as goal

pub loop-function-preserved : goal.loop-function-preserved
loop-function-preserved c = λ ls tells. grind (arith, common_steps, c.loop-function.invariant ls tells, c.in_ok-function_in.ensures ls tells)
