use Rattle.std.proofs.Common.{◌<◌, ℕ}
use Rattle.st_flow.specs.Joined.{PutsTo}
use Rattle.st_flow.proofs.path.taker.Given as goal

abbrev pub invariant-loop-j : goal.invariant-loop-j
invariant-loop-j l = (j : ℕ) → j < l.j → PutsTo l.map.nodes.items l.map.reach.items l.puts l.k l.target j → ⊥
