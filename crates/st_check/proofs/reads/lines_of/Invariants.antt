use Rattle.std.proofs.Common.{◌≡◌, ◌++◌, map, drop, Some}
use Rattle.st_check.specs.Acceptance.{lines_at}
use Rattle.st_check.proofs.reads.lines_of.Given as goal

abbrev pub invariant-loop-at : goal.invariant-loop-at
invariant-loop-at l = map Some l.lines ++ lines_at l.function (drop l.at-index l.path) ≡ lines_at l.function l.path
