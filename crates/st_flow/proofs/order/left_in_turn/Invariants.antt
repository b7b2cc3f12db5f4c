use Rattle.std.proofs.Common.{◌≡◌, length, ◌+◌, ◌*◌}
use Rattle.st_flow.specs.Search.{unseen}
use Rattle.st_flow.specs.Order.{AreVisits, AreNodes}
use Rattle.st_flow.proofs.order.left_in_turn.Given as goal

abbrev pub invariant-loop-visit : goal.invariant-loop-visit
invariant-loop-visit l = record {
  long : length l.seen.items ≡ length l.nodes;
  visits : AreVisits (length l.nodes) l.stack.items;
  left : AreNodes (length l.nodes) l.left.items;
}

abbrev pub decreases-loop-visit : goal.decreases-loop-visit
decreases-loop-visit l = 3 * unseen l.seen.items + length l.stack.items
