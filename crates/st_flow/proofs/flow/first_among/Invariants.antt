use Rattle.std.proofs.Common.{◌<◌, ◌+◌, ◌*◌, ℕ}
use Rattle.st_flow.specs.Tables.{IsBad}
use Rattle.st_flow.proofs.flow.first_among.Given as goal

abbrev pub invariant-loop-i : goal.invariant-loop-i
invariant-loop-i l = (i b : ℕ) → b < 64 → i < l.i → IsBad l.program l.function i (64 * l.g + b) → ⊥
