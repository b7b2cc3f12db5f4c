use Rattle.std.proofs.Common.{◌-◌, None, refl, arith}
use Rattle.st_check.proofs.LeastFaults.{least_onto-function}
use Rattle.st_check.proofs.unit.functions_fault.Goals as goal

pub loop-left-preserved : goal.loop-left-preserved
loop-left-preserved c = record {
  within = omega arith;
  faults = λ tells.
      least_onto-function c.args.functions.now (c.loop-left.left - 1) c.loop-left.left c.index-functions-left.result _ None _ _ c.args.functions.now (omega arith) (omega arith) c.index-functions-left.is refl (c.in_ok-best.ensures c.args.functions.now tells) (c.loop-left.invariant.faults tells);
}
