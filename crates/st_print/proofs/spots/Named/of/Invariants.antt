use Rattle.std.proofs.Common.{◌≡◌, ◌||◌, drop}
use Rattle.st_line.specs.declared.source.Target.{Target}
use Rattle.st_print.specs.Spots.{is_named}
use Rattle.st_print.specs.Numbering.{is_held}
use Rattle.st_print.proofs.spots.Named.of.Given as goal

abbrev pub invariant-loop-function : goal.invariant-loop-function
invariant-loop-function l = (spot : Target) → (is_held l.named spot || is_named (drop l.function-index l.functions) spot) ≡ is_named l.functions spot
