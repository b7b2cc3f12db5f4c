use Rattle.std.proofs.Common.{◌≡◌, ◌-◌, ◌≤◌}
use Rattle.st_model.specs.Memory.{data_of}
use Rattle.st_model.specs.Ordinary.{run, TalliesWithin}
use Rattle.st_model.specs.Ends.{IsOrdered}
use Rattle.st_model.proofs.ordinary.run.Given as goal

abbrev pub invariant-loop-left : goal.invariant-loop-left
invariant-loop-left l = record {
  left : l.left ≤ l.steps;
  same : run l.program (data_of l.rodata l.input) l.left l.state ≡ run l.program (data_of l.rodata l.input) l.steps l.fn.state;
  tallies : TalliesWithin (l.steps - l.left) l.state.rest;
  order : IsOrdered l.state.rest;
}

abbrev pub decreases-loop-left : goal.decreases-loop-left
decreases-loop-left l = l.left
