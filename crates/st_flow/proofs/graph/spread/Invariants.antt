use Rattle.std.proofs.Common.{length, ◌+◌, ◌-◌, ◌*◌, sum}
use Rattle.st_flow.proofs.Spreading.{Spreads}
use Rattle.st_flow.proofs.graph.spread.Given as goal

abbrev pub invariant-loop-j : goal.invariant-loop-j
invariant-loop-j l = Spreads l.nodes l.ranks l.seeds l.keeps l.sets.items l.waiting.keys

abbrev pub decreases-loop-j : goal.decreases-loop-j
decreases-loop-j l = length l.nodes * 18446744073709551616 - sum l.sets.items + length l.waiting.keys
