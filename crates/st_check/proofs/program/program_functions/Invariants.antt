use Rattle.std.proofs.Common.{◌≡◌, map, take}
use Rattle.st_check.specs.Programs.{program_function}
use Rattle.st_check.specs.Views.{TellsNames}
use Rattle.st_check.proofs.program.program_functions.Given as goal

abbrev pub invariant-loop-function : goal.invariant-loop-function
invariant-loop-function l =
    TellsNames l.names l.functions → l.found ≡ map (program_function l.functions) (take l.function-index l.functions)
