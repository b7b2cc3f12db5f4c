use Rattle.st_flow.specs.Graph.{IsBegun}
use Rattle.st_flow.proofs.graph.seeded.Given as goal

abbrev pub invariant-loop-i : goal.invariant-loop-i
invariant-loop-i l = IsBegun l.ranks l.seeds l.i l.waiting.keys
