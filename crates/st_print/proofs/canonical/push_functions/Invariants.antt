use Rattle.std.proofs.Common.{◌≡◌, ◌++◌, drop, List}
use Rattle.st_line.specs.declared.source.Target.{Target}
use Rattle.st_print.specs.Canonical.{lines_text, functions_lines}
use Rattle.st_print.specs.Numbering.{AreLabels}
use Rattle.st_print.proofs.canonical.push_functions.Given as goal

abbrev pub invariant-loop-f : goal.invariant-loop-f
invariant-loop-f l = (spots : List Target) → AreLabels l.labels spots → l.text.items ++ lines_text (functions_lines spots l.f (drop l.f l.functions)) ≡ l.initial.text.items ++ lines_text (functions_lines spots 0 l.functions)
