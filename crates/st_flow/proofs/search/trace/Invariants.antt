use Rattle.std.proofs.Common.{◌<◌, ℕ, length, ◌++◌, List, Some}
use Rattle.st_flow.specs.Search.{IsTrace}
use Rattle.st_flow.proofs.search.trace.Given as goal

abbrev pub invariant-loop-path : goal.invariant-loop-path
invariant-loop-path l = record {
  within : l.at < length l.found;
  -- what leads back from here goes on with the path so far
  goes : (rest : List ℕ) → IsTrace l.found (Some l.at) rest → IsTrace l.found (Some l.place) (l.path.items ++ rest);
}

abbrev pub decreases-loop-path : goal.decreases-loop-path
decreases-loop-path l = l.at
