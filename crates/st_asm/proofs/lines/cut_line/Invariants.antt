use Rattle.std.proofs.Common.{◌≡◌, take, drop}
use Rattle.st_asm.specs.Labels.{lines_of}
use Rattle.st_asm.proofs.LineCuts.{onto_line}
use Rattle.st_asm.proofs.lines.cut_line.Given as goal

abbrev pub invariant-loop-i : goal.invariant-loop-i
invariant-loop-i l = lines_of l.text ≡ onto_line (take l.i l.text) (lines_of (drop l.i l.text))
