use Rattle.st_flow.proofs.Hits.{Passed}
use Rattle.st_flow.proofs.flow.first.Given as goal

abbrev pub invariant-loop-g : goal.invariant-loop-g
invariant-loop-g l = Passed l.program l.function l.best l.limit l.g
