use Rattle.std.proofs.Common.{◌≤◌, drop, length}
use Rattle.st_check.specs.Views.{TellsNamesFrom}
use Rattle.st_check.proofs.names.names_of.Given as goal

abbrev pub invariant-loop-left : goal.invariant-loop-left
invariant-loop-left l = record {
  within : l.left ≤ length l.functions;
  tells : TellsNamesFrom l.left l.names (drop l.left l.functions);
}

abbrev pub decreases-loop-left : goal.decreases-loop-left
decreases-loop-left l = l.left
