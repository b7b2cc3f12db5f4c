use Rattle.std.proofs.Common.{◌≡◌, drop}
use Rattle.std.specs.Prelude.{neg_ℤ}
use Rattle.st_check.specs.Shape.{departing}
use Rattle.st_check.specs.Views.{tests_of}
use Rattle.st_check.proofs.epilogue.departing.Given as goal

abbrev pub invariant-loop-k : goal.invariant-loop-k
invariant-loop-k l = departing l.initial.last (tests_of (neg_ℤ l.first.imm) l.form) l.lines ≡ departing l.last (tests_of (neg_ℤ l.first.imm) (drop l.k l.form)) (drop l.k l.lines)
