use Rattle.std.proofs.Common.{◌≤◌, ◌-◌, length}
use Rattle.st_main.specs.Input.{IsPart}
use Rattle.st_main.proofs.input.read_input.Given as goal

abbrev pub invariant-loop-input : goal.invariant-loop-input
invariant-loop-input g l = record {
  faults : g.S.Source.faults l.initial.input ≤ g.S.Source.faults l.input;
  part : IsPart (g.S.Source.left l.initial.input) (g.S.Source.left l.input) l.bytes.items;
}

abbrev pub decreases-loop-input : goal.decreases-loop-input
decreases-loop-input g l = 16777217 - length l.bytes.items
