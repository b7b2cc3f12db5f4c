-- The path of a fault as it is built: the newest item first, from two paths. Read IsLate (since the place's definition was taken away,
-- or since entry) and IsJoined (the whole).
use Rattle.std.specs.Prelude.{◌≡◌, ◌⊎◌, ℕ, false, List, [], ◌∷◌, ◌++◌}
use Rattle.std.specs.List.{Contains}
use Rattle.st_model.specs.declared.program.ProgramFunction.{ProgramFunction}
use Rattle.st_model.specs.Flow.{Leads, defined_after}
use Rattle.st_flow.specs.declared.graph.Node.{Node}
use Rattle.st_flow.specs.declared.places.Change.TheVariants.{Spared}
use Rattle.st_flow.specs.Graph.{IsEdge, HasBit, Walks}
use Rattle.st_flow.specs.Search.{HasNoRepeat}
use Rattle.st_flow.specs.Tables.{IsNextIn, Changes, Begins}
use Rattle.st_flow.specs.Undefined.{TakesAway}

-- the first item of a path to i, the last before i first
abbrev pub origin : ℕ → List ℕ → ℕ
origin i [] = i
origin i (j ∷ back) = origin j back

-- each item on the path spares the place
abbrev pub Spares : ProgramFunction → ℕ → List ℕ → ℕ → Type 0
Spares function x [] i = Unit {0}
Spares function x (j ∷ back) i = Spares function x back j × IsNextIn function j i × Changes Spared function x j

-- a path to `at` from where the place begins to be undefined
pub record IsLate (function : ProgramFunction) (x at : ℕ) (path : List ℕ) : Type 0 where
  pub since : List ℕ
  pub is : path ≡ at ∷ since
  pub spares : Spares function x since at
  pub begins : Begins function x (origin at since)
  pub once : HasNoRepeat path

-- a path to j from the first node
abbrev pub IsWalk : List Node → ℕ → List ℕ → Type 0
IsWalk nodes j path = (back : List ℕ) × (path ≡ j ∷ back) × Walks nodes back j × HasNoRepeat path

-- the node at j is reached, has an edge to the target and puts the bit out
abbrev pub PutsTo : List Node → List ℕ → List ℕ → ℕ → ℕ → ℕ → Type 0
PutsTo nodes reach puts k target j = HasBit reach j 0 × IsEdge nodes j target × HasBit puts j k

-- the whole path to `at`
pub record IsJoined (function : ProgramFunction) (x at : ℕ) (path : List ℕ) : Type 0 where
  pub since : List ℕ
  pub until : List ℕ
  pub is : path ≡ at ∷ (since ++ until)
  pub leads : Leads function (since ++ until) at
  pub undefined : defined_after function (since ++ until) x ≡ false
  pub last : (until ≡ []) ⊎ ((j : ℕ) × ((rest : List ℕ) × (until ≡ j ∷ rest) × TakesAway function x j))
  pub none_since : (j : ℕ) → Contains since j → TakesAway function x j → ⊥
  pub once_until : HasNoRepeat until
  pub once_since : HasNoRepeat (at ∷ since)
