use Rattle.std.proofs.Common.{◌≡◌, ◌+◌, ◌-◌, ◌≤◌, Some}
use Rattle.st_model.specs.Memory.{load_from, data_byte, data_of}
use Rattle.st_model.proofs.memory.load_data.Given as goal

-- the bytes from the place that the loop has come down to
abbrev pub invariant-loop-left : goal.invariant-loop-left
invariant-loop-left l = record {
  left : l.left ≤ l.size;
  same : Some l.value ≡ load_from (data_byte (data_of l.rodata l.input)) (l.at + l.left) (l.size - l.left);
}

abbrev pub decreases-loop-left : goal.decreases-loop-left
decreases-loop-left l = l.left
