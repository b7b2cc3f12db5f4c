use Rattle.std.proofs.Common.{◌≤◌, ◌-◌, length, take}
use Rattle.st_base.specs.Outside.{Appends}
use Rattle.st_print.proofs.output.put_all.Given as goal

abbrev pub invariant-loop-done : goal.invariant-loop-done
invariant-loop-done g l = record {
  within : l.done ≤ length l.bytes;
  faults : g.K.Sink.faults l.initial.sink ≤ g.K.Sink.faults l.sink;
  taken : Appends (g.K.Sink.taken l.initial.sink) (g.K.Sink.taken l.sink) (take l.done l.bytes);
}

abbrev pub decreases-loop-done : goal.decreases-loop-done
decreases-loop-done g l = length l.bytes - l.done
