use Rattle.std.proofs.Common.{◌≡◌, ◌+◌, ◌≤◌, drop, length}
use Rattle.std.specs.Prelude.{neg_ℤ}
use Rattle.st_check.specs.Shape.{saved_registers, open_saved}
use Rattle.st_check.proofs.Prologues.{with_all_saved}
use Rattle.st_check.proofs.prologue.open_saved.Given as goal

abbrev pub invariant-loop-at : goal.invariant-loop-at
invariant-loop-at l = record {
  count : l.at ≡ 3 + length l.saved.items;
  few : length l.saved.items + length l.left ≤ 11;
  same : with_all_saved l.saved.items (open_saved l.label (neg_ℤ l.first.imm) (length l.saved.items) l.left (drop l.at l.items)) ≡ open_saved l.label (neg_ℤ l.first.imm) 0 saved_registers (drop 3 l.items);
}
