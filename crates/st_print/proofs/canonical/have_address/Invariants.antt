use Rattle.std.proofs.Common.{◌≡◌, drop}
use Rattle.st_print.specs.Canonical.{have_address}
use Rattle.st_print.proofs.canonical.have_address.Given as goal

abbrev pub invariant-loop-function : goal.invariant-loop-function
invariant-loop-function l = have_address (drop l.function-index l.functions) ≡ have_address l.functions
