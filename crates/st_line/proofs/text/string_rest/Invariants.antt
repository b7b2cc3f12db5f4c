-- The loop of `string_rest`: the bytes so far, and those of what is left, are the string's.
use Rattle.std.proofs.Common.{◌≡◌, length}
use Rattle.st_line.specs.Operands.{string_rest}
use Rattle.st_line.specs.Views.{with_front}
use Rattle.st_line.proofs.text.string_rest.Given as goal

abbrev pub invariant-loop-byte : goal.invariant-loop-byte
invariant-loop-byte l = with_front l.found.items (string_rest l.left) ≡ string_rest l.text

abbrev pub decreases-loop-byte : goal.decreases-loop-byte
decreases-loop-byte l = length l.left
