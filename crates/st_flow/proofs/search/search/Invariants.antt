use Rattle.std.proofs.Common.{◌≡◌, ◌<◌, ◌≤◌, ℕ, length, ◌+◌, ◌-◌, slice_get, Some}
use Rattle.st_flow.specs.declared.search.Found.{Found}
use Rattle.st_flow.specs.Graph.{HasBit, IsEdge}
use Rattle.st_flow.specs.Search.{HasSeen, Searches, unseen}
use Rattle.st_flow.proofs.search.search.Given as goal

abbrev pub invariant-loop-i : goal.invariant-loop-i
invariant-loop-i l = record {
  searches : Searches l.nodes l.seeds l.keeps l.k l.found.items l.seen.items;
  begun : (j : ℕ) → j < l.i → HasBit l.seeds j l.k → HasSeen l.seen.items j;
}

abbrev pub invariant-loop-head : goal.invariant-loop-head
invariant-loop-head l = record {
  searches : Searches l.nodes l.seeds l.keeps l.k l.found.items l.seen.items;
  begun : (j : ℕ) → j < length l.nodes → HasBit l.seeds j l.k → HasSeen l.seen.items j;
  passed : (q i : ℕ) (f : Found) → q < l.head → slice_get l.found.items q ≡ Some f → IsEdge l.nodes f.node i → HasBit l.keeps f.node l.k → HasSeen l.seen.items i;
  within : l.head ≤ length l.found.items;
}

abbrev pub decreases-loop-head : goal.decreases-loop-head
decreases-loop-head l = unseen l.seen.items + length l.found.items - l.head
