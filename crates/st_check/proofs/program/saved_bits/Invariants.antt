use Rattle.std.proofs.Common.{◌≡◌, ◌≤◌, ◌*◌, ◌-◌, drop, length}
use Rattle.st_check.specs.Programs.{saved_bits}
use Rattle.st_check.proofs.program.saved_bits.Given as goal

abbrev pub invariant-loop-left : goal.invariant-loop-left
invariant-loop-left l = record {
  within : l.left ≤ length l.saved;
  few : l.bits ≤ 16384 * (length l.saved - l.left);
  bits : l.bits ≡ saved_bits (drop l.left l.saved);
}

abbrev pub decreases-loop-left : goal.decreases-loop-left
decreases-loop-left l = l.left
