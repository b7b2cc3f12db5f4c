use Rattle.std.proofs.Common.{◌≡◌, ◌++◌, drop, List}
use Rattle.st_line.specs.declared.source.Target.{Target}
use Rattle.st_print.specs.Canonical.{lines_text, byte_lines}
use Rattle.st_print.specs.Numbering.{AreLabels}
use Rattle.st_print.proofs.canonical.push_bytes.Given as goal

abbrev pub invariant-loop-i : goal.invariant-loop-i
invariant-loop-i l = (spots : List Target) → AreLabels l.labels spots → l.text.items ++ lines_text (byte_lines spots l.i (drop l.i l.rodata)) ≡ l.initial.text.items ++ lines_text (byte_lines spots 0 l.rodata)
