use Rattle.std.proofs.Common.{◌≡◌, ◌≢◌, ◌<◌, ℕ, Some, slice_get}
use Rattle.st_flow.specs.declared.search.Found.{Found}
use Rattle.st_flow.proofs.search.place_of.Given as goal

abbrev pub invariant-loop-q : goal.invariant-loop-q
invariant-loop-q l = (k : ℕ) (f : Found) → k < l.q → slice_get l.found k ≡ Some f → f.node ≢ l.node
