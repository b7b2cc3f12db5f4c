use Rattle.std.proofs.Common.{◌≤◌, take}
use Rattle.st_base.specs.Outside.{Appends}
use Rattle.st_print.specs.Telling.{numbers_after}
use Rattle.st_print.proofs.telling.put_numbers_after.Given as goal

abbrev pub invariant-loop-number : goal.invariant-loop-number
invariant-loop-number g l = record {
  faults : g.K.Sink.faults l.initial.to ≤ g.K.Sink.faults l.to;
  taken : Appends (g.K.Sink.taken l.initial.to) (g.K.Sink.taken l.to) (numbers_after (take l.number-index l.numbers));
}
