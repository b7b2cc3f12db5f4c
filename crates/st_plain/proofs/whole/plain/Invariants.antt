-- Before each turn the run is at an item or amid one, and what is left of the bounded run gives its answer.
use Rattle.st_model.specs.declared.program.Program.{Program}
use Rattle.st_model.specs.Memory.{data_of}
use Rattle.st_plain.specs.Answer.{IsPlainImage}
use Rattle.st_plain.specs.Running.{HasBoard}
use Rattle.st_plain.proofs.WholeRun.{Stage}
use Rattle.st_plain.proofs.whole.plain.Given as goal

abbrev pub invariant-loop : goal.invariant-loop
invariant-loop l = record {
  board : HasBoard l.run.board;
  stage : (p : Program) → IsPlainImage p l.image → Stage p l.image (data_of l.image.rodata l.input) l.limits l.run l.left l.counter;
}
