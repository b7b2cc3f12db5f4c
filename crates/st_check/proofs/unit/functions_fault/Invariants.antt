use Rattle.std.proofs.Common.{◌≡◌, ◌≤◌, drop, length, None}
use Rattle.st_check.specs.Faults.{functions_faults}
use Rattle.st_check.specs.Views.{TellsNames, least_onto}
use Rattle.st_check.proofs.unit.functions_fault.Given as goal

abbrev pub invariant-loop-left : goal.invariant-loop-left
invariant-loop-left l = record {
  within : l.left ≤ length l.functions;
  faults : TellsNames l.names l.functions → l.best ≡ least_onto (functions_faults l.functions l.left (drop l.left l.functions)) None;
}

abbrev pub decreases-loop-left : goal.decreases-loop-left
decreases-loop-left l = l.left
