use Rattle.std.proofs.Common.{◌++◌, take, filter, List}
use Rattle.st_line.specs.declared.source.Target.{Target}
use Rattle.st_print.specs.Spots.{data_places}
use Rattle.st_print.specs.Numbering.{is_held, AreLabels}
use Rattle.st_print.proofs.labels.Labels.add_bytes.Given as goal

abbrev pub invariant-loop-i : goal.invariant-loop-i
invariant-loop-i l = (spots : List Target) → AreLabels l.initial.self spots → AreLabels l.self (spots ++ filter (λ spot. is_held l.named spot) (take l.i (data_places 0 l.rodata)))
