use Rattle.st_check.specs.Reads.{ReadsDefinedBelow}
use Rattle.st_check.proofs.reads.first_read_fault.Given as goal

abbrev pub invariant-loop-function : goal.invariant-loop-function
invariant-loop-function l = ReadsDefinedBelow l.program l.function-index
