use Rattle.std.proofs.Common.{◌≡◌, drop}
use Rattle.st_rv.specs.Rows.{first_in}
use Rattle.st_rv.proofs.rows.first_row.Given as goal

abbrev pub invariant-loop-row : goal.invariant-loop-row
invariant-loop-row l = first_in (drop l.row-index l.rows) l.w ≡ first_in l.rows l.w
