use Rattle.std.proofs.Common.{◌≡◌, ◌||◌, drop}
use Rattle.st_line.specs.declared.source.Target.{Target}
use Rattle.st_print.specs.Spots.{is_named_in}
use Rattle.st_print.specs.Numbering.{is_held}
use Rattle.st_print.proofs.spots.Named.add_items.Given as goal

abbrev pub invariant-loop-item : goal.invariant-loop-item
invariant-loop-item l = (spot : Target) → (is_held l.self spot || is_named_in (drop l.item-index l.items) spot) ≡ (is_held l.initial.self spot || is_named_in l.items spot)
