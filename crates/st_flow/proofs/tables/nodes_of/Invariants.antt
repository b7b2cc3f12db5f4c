use Rattle.std.proofs.Common.{◌≡◌, ◌<◌, ℕ, length}
use Rattle.std.specs.Prelude.{◌↔◌}
use Rattle.st_flow.specs.Graph.{IsEdge}
use Rattle.st_flow.specs.Tables.{IsNextIn}
use Rattle.st_flow.proofs.tables.nodes_of.Given as goal

abbrev pub invariant-loop-i : goal.invariant-loop-i
invariant-loop-i l = record {
  long : length l.nodes.items ≡ l.i;
  exact : (j k : ℕ) → IsEdge l.nodes.items j k ↔ ((j < l.i) × IsNextIn l.function j k);
}
