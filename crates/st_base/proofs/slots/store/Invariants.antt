use Rattle.std.proofs.Common.{◌≡◌, ◌+◌, ◌≤◌, length}
use Rattle.st_base.specs.Slots.{store_bytes}
use Rattle.st_base.proofs.slots.store.Given as goal

abbrev pub invariant-loop-left : goal.invariant-loop-left
invariant-loop-left l = record {
  room : l.place + l.left ≤ length l.cells;
  place : l.place + l.left ≡ l.at + l.size;
  same : store_bytes l.cells l.place l.left l.value ≡ store_bytes l.fn.cells l.at l.size l.fn.value;
}

abbrev pub decreases-loop-left : goal.decreases-loop-left
decreases-loop-left l = l.left
