use Rattle.std.proofs.Common.{◌≡◌, ◌≤◌, ◌+◌, length, drop}
use Rattle.st_model.specs.Layout.{saved_among}
use Rattle.st_post.proofs.saved.count_among.Given as goal

abbrev pub invariant-loop-place : goal.invariant-loop-place
invariant-loop-place l = record {
  few : l.count ≤ l.place;
  rest : l.count + length (saved_among l.bits l.place (drop l.place l.registers)) ≡ length (saved_among l.bits 0 l.registers);
}
