use Rattle.std.proofs.Common.{◌≡◌, ◌<◌, ◌+◌, ◌*◌, ℕ, length}
use Rattle.std.specs.Prelude.{◌↔◌}
use Rattle.st_flow.specs.Graph.{HasBit}
use Rattle.st_flow.specs.Tables.{Changes}
use Rattle.st_flow.proofs.tables.table.Given as goal

abbrev pub invariant-loop-i : goal.invariant-loop-i
invariant-loop-i l = record {
  long : length l.words.items ≡ l.i;
  bits : (j b : ℕ) → b < 64 → HasBit l.words.items j b ↔ ((j < l.i) × Changes l.change l.function (64 * l.g + b) j);
}
