-- The loop of `push_word`: the bytes so far, and those of what is left of the word, are the word's.
use Rattle.std.proofs.Common.{◌≡◌, ◌++◌}
use Rattle.st_line.specs.Statement.{little_endian}
use Rattle.st_line.proofs.directives.push_word.Given as goal

abbrev pub invariant-loop-left : goal.invariant-loop-left
invariant-loop-left l = l.bytes.items ++ little_endian l.left l.rest ≡ l.fn.bytes.items ++ little_endian l.count l.word

abbrev pub decreases-loop-left : goal.decreases-loop-left
decreases-loop-left l = l.left
