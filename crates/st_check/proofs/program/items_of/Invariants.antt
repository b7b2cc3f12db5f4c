use Rattle.std.proofs.Common.{◌≡◌, ◌++◌, ◌∷◌, List, false, drop}
use Rattle.st_asm.specs.declared.unit.Function.{Function}
use Rattle.st_check.specs.Programs.{items_of}
use Rattle.st_check.specs.Views.{TellsNames, TellsNumbers, groups_view, prologue_item}
use Rattle.st_check.proofs.program.items_of.Given as goal

abbrev pub invariant-loop-at : goal.invariant-loop-at
invariant-loop-at l =
    (functions : List Function) → TellsNames l.names functions → TellsNumbers l.numbers (groups_view l.groups) → l.items ++ items_of functions (groups_view l.groups) l.forked (groups_view (drop l.at l.groups)) ≡ prologue_item l.fn.line ∷ items_of functions (groups_view l.groups) false (groups_view l.groups)
