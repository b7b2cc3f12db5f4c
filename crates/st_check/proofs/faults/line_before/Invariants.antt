use Rattle.std.proofs.Common.{◌≡◌, ◌-◌, drop}
use Rattle.st_check.specs.Faults.{line_before}
use Rattle.st_check.proofs.faults.line_before.Given as goal

abbrev pub invariant-loop-at : goal.invariant-loop-at
invariant-loop-at l = line_before l.fn.label l.count l.items ≡ line_before l.last (l.count - l.at) (drop l.at l.items)
