use Rattle.std.proofs.Common.{◌≤◌, drop, length}
use Rattle.st_check.specs.Views.{TellsBegins, groups_view}
use Rattle.st_check.proofs.faults.begins_of.Given as goal

abbrev pub invariant-loop-left : goal.invariant-loop-left
invariant-loop-left l = record {
  within : l.left ≤ length l.groups;
  tells : TellsBegins l.begins (groups_view (drop l.left l.groups));
}

abbrev pub decreases-loop-left : goal.decreases-loop-left
decreases-loop-left l = l.left
