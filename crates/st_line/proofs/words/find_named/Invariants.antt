-- The loop of `find_named`: no row so far has the text.
use Rattle.std.proofs.Common.{◌≡◌, drop, map}
use Rattle.st_line.specs.Operands.{named_in}
use Rattle.st_line.proofs.words.find_named.Given as goal

abbrev pub invariant-loop-value : goal.invariant-loop-value
invariant-loop-value g l = named_in (map (λ p. (p.0, p.1.now)) (drop l.value-index l.table)) l.text ≡ named_in (map (λ p. (p.0, p.1.now)) l.table) l.text
