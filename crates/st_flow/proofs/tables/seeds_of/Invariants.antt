use Rattle.std.proofs.Common.{◌≡◌, ℕ, length}
use Rattle.std.specs.Prelude.{◌↔◌}
use Rattle.st_flow.specs.Graph.{HasBit, IsSeedBelow}
use Rattle.st_flow.proofs.tables.seeds_of.Given as goal

abbrev pub invariant-loop-j : goal.invariant-loop-j
invariant-loop-j l = record {
  long : length l.seeds.items ≡ length l.nodes;
  bits : (i k : ℕ) → HasBit l.seeds.items i k ↔ IsSeedBelow l.nodes l.reach l.puts l.first l.j i k;
}
