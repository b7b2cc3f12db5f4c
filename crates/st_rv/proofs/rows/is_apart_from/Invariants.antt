use Rattle.std.proofs.Common.{take}
use Rattle.st_rv.specs.Rows.{IsApartFrom}
use Rattle.st_rv.proofs.rows.is_apart_from.Given as goal

abbrev pub invariant-loop-other : goal.invariant-loop-other
invariant-loop-other l = IsApartFrom l.row (take l.other-index l.others)
