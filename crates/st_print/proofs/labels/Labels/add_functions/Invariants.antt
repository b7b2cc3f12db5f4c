use Rattle.std.proofs.Common.{◌++◌, take, filter, List}
use Rattle.st_line.specs.declared.source.Target.{Target}
use Rattle.st_print.specs.Spots.{function_places}
use Rattle.st_print.specs.Numbering.{is_held, AreLabels}
use Rattle.st_print.proofs.labels.Labels.add_functions.Given as goal

abbrev pub invariant-loop-f : goal.invariant-loop-f
invariant-loop-f l = (spots : List Target) → AreLabels l.initial.self spots → AreLabels l.self (spots ++ filter (λ spot. is_held l.named spot) (function_places 0 (take l.f l.functions)))
