use Rattle.std.proofs.Common.{length}
use Rattle.st_rv.specs.Rows.{AreApart}
use Rattle.st_rv.proofs.rows.are_apart.Given as goal

abbrev pub invariant-loop-row : goal.invariant-loop-row
invariant-loop-row l = record {
  apart : AreApart l.left → AreApart l.rows;
  left : AreApart l.rows → AreApart l.left;
}

abbrev pub decreases-loop-row : goal.decreases-loop-row
decreases-loop-row l = length l.left
