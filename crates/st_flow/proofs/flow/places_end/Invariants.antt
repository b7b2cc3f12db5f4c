use Rattle.std.proofs.Common.{◌≡◌, ◌<◌, ◌≤◌, ◌+◌, ◌^◌, ℕ, Some, slice_get, true}
use Rattle.st_model.specs.declared.program.Item.{Item}
use Rattle.st_flow.specs.Tables.{callee_argument}
use Rattle.st_flow.proofs.flow.places_end.Given as goal

abbrev pub invariant-loop-i : goal.invariant-loop-i
invariant-loop-i l = record {
  frame : 32 + l.function.frame_bytes ≤ l.end;
  most : l.end < 2 ^ 33;
  passed : (i x : ℕ) (item : Item) → i < l.i → slice_get l.function.items i ≡ Some item → callee_argument l.program item.kind x ≡ true → x < l.end;
}
