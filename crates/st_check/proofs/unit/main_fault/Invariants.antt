use Rattle.std.proofs.Common.{◌≡◌, drop}
use Rattle.st_check.specs.Faults.{main_faults}
use Rattle.st_check.proofs.unit.main_fault.Given as goal

abbrev pub invariant-loop-function : goal.invariant-loop-function
invariant-loop-function l = main_faults l.functions ≡ main_faults (drop l.function-index l.functions)
