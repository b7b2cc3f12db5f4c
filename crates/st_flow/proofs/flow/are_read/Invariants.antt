use Rattle.std.proofs.Common.{◌<◌, ◌+◌, ◌*◌, ℕ}
use Rattle.st_flow.specs.Undefined.{ReadsPlace}
use Rattle.st_flow.proofs.flow.are_read.Given as goal

abbrev pub invariant-loop-i : goal.invariant-loop-i
invariant-loop-i l = (i b : ℕ) → b < 64 → i < l.i → ReadsPlace l.program l.function i (64 * l.g + b) → ⊥
