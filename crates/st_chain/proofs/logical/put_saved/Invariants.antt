use Rattle.std.proofs.Common.{◌≡◌, drop}
use Rattle.st_model.specs.Layout.{saveable}
use Rattle.st_step.specs.Runs.{AreValues}
use Rattle.st_chain.specs.Logical.{with_values}
use Rattle.st_chain.proofs.logical.put_saved.Given as goal

abbrev pub invariant-loop-k : goal.invariant-loop-k
invariant-loop-k l = (with_values l.k (drop l.k saveable) l.saved l.m ≡ with_values 0 saveable l.fn.saved l.fn.m) × (AreValues l.fn.m → AreValues l.m)
