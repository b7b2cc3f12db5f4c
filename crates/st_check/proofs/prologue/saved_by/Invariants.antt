use Rattle.std.proofs.Common.{◌≡◌, drop}
use Rattle.std.specs.Prelude.{neg_ℤ}
use Rattle.st_check.specs.Shape.{saved_by}
use Rattle.st_check.proofs.prologue.saved_by.Given as goal

abbrev pub invariant-loop-j : goal.invariant-loop-j
invariant-loop-j l = saved_by (neg_ℤ l.first.imm) l.k l.left l.ins ≡ saved_by (neg_ℤ l.first.imm) l.k (drop l.j l.left) l.ins
