use Rattle.std.proofs.Common.{◌≡◌, None, replicate}
use Rattle.st_base.proofs.lists.Cells.undefined.Given as goal

abbrev pub invariant-loop : goal.invariant-loop
invariant-loop g l = l.items.items ≡ replicate l.counter None
