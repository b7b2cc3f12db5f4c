use Rattle.std.proofs.Common.{◌≡◌, length}
use Rattle.st_words.proofs.tests.draws.Given as goal

abbrev pub invariant-loop-n : goal.invariant-loop-n
invariant-loop-n l = length l.board.kept.views ≡ 2
