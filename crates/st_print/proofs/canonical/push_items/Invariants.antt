use Rattle.std.proofs.Common.{◌≡◌, ◌++◌, drop, List}
use Rattle.st_line.specs.declared.source.Target.{Target}
use Rattle.st_print.specs.Canonical.{lines_text, item_lines}
use Rattle.st_print.specs.Numbering.{AreLabels}
use Rattle.st_print.proofs.canonical.push_items.Given as goal

abbrev pub invariant-loop-i : goal.invariant-loop-i
invariant-loop-i l = (spots : List Target) → AreLabels l.labels spots → l.text.items ++ lines_text (item_lines spots l.function l.i (drop l.i l.items)) ≡ l.initial.text.items ++ lines_text (item_lines spots l.function 0 l.items)
