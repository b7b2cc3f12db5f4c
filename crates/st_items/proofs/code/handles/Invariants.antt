use Rattle.std.proofs.Common.{◌≡◌, length, replicate, drop}
use Rattle.st_base.specs.declared.reg.Reg.TheVariants.{Zero}
use Rattle.st_items.specs.Tables.{AreInCode, handles_of}
use Rattle.st_items.proofs.code.handles.Given as goal

abbrev pub invariant-loop-row : goal.invariant-loop-row
invariant-loop-row l = record {
  rest : handles_of (drop l.row-index l.forks) l.table.items ≡ handles_of l.forks (replicate l.count Zero);
  inside : AreInCode l.count (drop l.row-index l.forks);
  long : length l.table.items ≡ l.count;
}
