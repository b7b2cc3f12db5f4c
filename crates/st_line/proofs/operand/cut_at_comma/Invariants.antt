-- The loop of `cut_at_comma`: no comma so far.
use Rattle.std.proofs.Common.{◌≡◌, ◌++◌, take, drop}
use Rattle.st_line.specs.Views.{lexes, before_comma, after_comma}
use Rattle.st_line.proofs.operand.cut_at_comma.Given as goal

abbrev pub invariant-loop-i : goal.invariant-loop-i
invariant-loop-i l = record {
  before : lexes (take l.i l.lexemes) ++ before_comma (lexes (drop l.i l.lexemes)) ≡ before_comma (lexes l.lexemes);
  after : after_comma (lexes (drop l.i l.lexemes)) ≡ after_comma (lexes l.lexemes);
}
