-- What `first_undefined` answers. Read ReadsPlace and LeavesUndefined, which together are a path to a read of something undefined, and
-- PassesOnce, the path's shape: no item stands twice in it up to the last one that takes the place's definition away (from the
-- prologue where none does), and none twice after it.
use Rattle.std.specs.Prelude.{◌≡◌, ◌⊎◌, ℕ, true, false, List, [], ◌∷◌, ◌++◌, reverse, Some, slice_get}
use Rattle.std.specs.List.{Contains}
use Rattle.st_model.specs.declared.program.Program.{Program}
use Rattle.st_model.specs.declared.program.ProgramFunction.{ProgramFunction}
use Rattle.st_model.specs.declared.program.Item.{Item}
use Rattle.st_model.specs.Flow.{reads, gives, takes, Leads, defined_after}
use Rattle.st_flow.specs.Search.{HasNoRepeat}

-- the item reads the place
abbrev pub ReadsPlace : Program → ProgramFunction → ℕ → ℕ → Type 0
ReadsPlace p function i x = (item : Item) × (slice_get function.items i ≡ Some item) × (reads p function.frame_bytes item.kind x ≡ true)

-- the item takes the place's definition away: it takes it, and doesn't give it
abbrev pub TakesAway : ProgramFunction → ℕ → ℕ → Type 0
TakesAway function x j =
    (item : Item) × (slice_get function.items j ≡ Some item) × (takes item.kind x ≡ true) × (gives function.frame_bytes item.kind x ≡ false)

-- the path leads from the prologue to the item at `at`, its last, and leaves the place undefined there
abbrev pub LeavesUndefined : ProgramFunction → ℕ → ℕ → List ℕ → Type 0
LeavesUndefined function x at path =
    (back : List ℕ) × (reverse path ≡ at ∷ back) × Leads function back at × (defined_after function back x ≡ false)

-- The path, the newest item first, is the one that reads, those since the last that takes the place's definition away, and that one
-- with all before it.
pub record PassesOnce (function : ProgramFunction) (x : ℕ) (path : List ℕ) : Type 0 where
  pub at : ℕ
  pub since : List ℕ
  pub until : List ℕ
  pub parts : reverse path ≡ at ∷ (since ++ until)
  pub last : (until ≡ []) ⊎ ((j : ℕ) × ((rest : List ℕ) × (until ≡ j ∷ rest) × TakesAway function x j))
  pub none_since : (j : ℕ) → Contains since j → TakesAway function x j → ⊥
  pub once_until : HasNoRepeat until
  pub once_since : HasNoRepeat (at ∷ since)
