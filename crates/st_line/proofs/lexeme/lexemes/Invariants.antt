-- The loop of `lexemes`: the lexemes so far, and those of the tokens that are left, are the line's.
use Rattle.std.proofs.Common.{◌≡◌, ◌++◌, drop}
use Rattle.st_line.specs.Operands.{lexemes_after, lexemes_of}
use Rattle.st_line.specs.Views.{lexes}
use Rattle.st_line.proofs.lexeme.lexemes.Given as goal

abbrev pub invariant-loop-token : goal.invariant-loop-token
invariant-loop-token l = lexes l.found.items ++ lexemes_after l.line l.before (drop l.token-index l.token-items) ≡ lexemes_of l.line
