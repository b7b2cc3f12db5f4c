use Rattle.std.proofs.Common.{◌≡◌, drop}
use Rattle.st_print.specs.Canonical.{has_address}
use Rattle.st_print.proofs.canonical.has_address.Given as goal

abbrev pub invariant-loop-item : goal.invariant-loop-item
invariant-loop-item l = has_address (drop l.item-index l.items) ≡ has_address l.items
