use Rattle.std.proofs.Common.{◌≡◌, ◌++◌}
use Rattle.st_asm.specs.Assembly.{zeros}
use Rattle.st_asm.proofs.statements.add_zeros.Given as goal

abbrev pub invariant-loop : goal.invariant-loop
invariant-loop l = l.bytes.items ≡ l.fn.bytes.items ++ zeros l.counter
