-- The visits of a search by depth.
use Rattle.std.specs.Prelude.{◌≡◌, ℕ, ◌<◌, List, [], ◌∷◌, ◌++◌, Option, Some, None}
use Rattle.std.specs.List.{Contains}
use Rattle.st_flow.specs.declared.order.Visit.{Visit}
use Rattle.st_flow.specs.declared.order.Visit.TheVariants.{Enter, Leave}

abbrev pub node_of : Visit → ℕ
node_of (Enter j) = j
node_of (Leave j) = j

-- visits of nodes, of which there are n
abbrev pub AreVisits : ℕ → List Visit → Type 0
AreVisits n stack = (visit : Visit) → Contains stack visit → node_of visit < n

abbrev pub AreNodes : ℕ → List ℕ → Type 0
AreNodes n list = (j : ℕ) → Contains list j → j < n

-- the node, if there is one, is to be entered
abbrev pub Notes : Option ℕ → List Visit → List Visit → Type 0
Notes None old new = new ≡ old
Notes (Some i) old new = new ≡ old ++ Enter i ∷ []
