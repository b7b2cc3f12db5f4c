use Rattle.std.proofs.Common.{◌≡◌, length}
use Rattle.st_flow.proofs.order.ranks_of.Given as goal

abbrev pub invariant-loop-turn : goal.invariant-loop-turn
invariant-loop-turn l = length l.ranks.items ≡ length l.nodes
