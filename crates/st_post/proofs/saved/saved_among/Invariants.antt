use Rattle.std.proofs.Common.{◌≡◌, ◌≤◌, ◌++◌, length, drop}
use Rattle.st_model.specs.Layout.{saved_among}
use Rattle.st_post.proofs.saved.saved_among.Given as goal

abbrev pub invariant-loop-place : goal.invariant-loop-place
invariant-loop-place l = record {
  few : length l.saved.items ≤ l.place;
  rest : l.saved.items ++ saved_among l.bits l.place (drop l.place l.registers) ≡ saved_among l.bits 0 l.registers;
}
