use Rattle.std.proofs.Common.{◌≡◌, ◌++◌, drop, map}
use Rattle.st_print.specs.Joined.{joined}
use Rattle.st_print.proofs.pieces.push_pieces.Given as goal

abbrev pub invariant-loop-piece : goal.invariant-loop-piece
invariant-loop-piece l = l.text.items ++ joined (map (λ p. p.now) (drop l.piece-index l.pieces)) ≡ l.initial.text.items ++ joined (map (λ p. p.now) l.pieces)
