use Rattle.std.proofs.Common.{◌≡◌, drop}
use Rattle.st_check.specs.Faults.{is_in}
use Rattle.st_check.proofs.registers.is_in.Given as goal

abbrev pub invariant-loop-other : goal.invariant-loop-other
invariant-loop-other l = is_in l.reg l.saved ≡ is_in l.reg (drop l.other-index l.saved)
