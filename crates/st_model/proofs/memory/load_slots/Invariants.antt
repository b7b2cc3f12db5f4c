use Rattle.std.proofs.Common.{◌≡◌, ◌+◌, ◌-◌, ◌≤◌, Some}
use Rattle.st_model.specs.Memory.{load_from, slot_byte}
use Rattle.st_model.proofs.memory.load_slots.Given as goal

-- the bytes from the place that the loop has come down to
abbrev pub invariant-loop-left : goal.invariant-loop-left
invariant-loop-left l = record {
  left : l.left ≤ l.size;
  same : Some l.value ≡ load_from (slot_byte l.cells) (l.at + l.left) (l.size - l.left);
}

abbrev pub decreases-loop-left : goal.decreases-loop-left
decreases-loop-left l = l.left
