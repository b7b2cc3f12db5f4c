-- A function's items as a graph with tables of places. Read IsGraphOf, IsUndefined (some path leaves a place undefined before an item)
-- and Begins, which says where that starts.
use Rattle.std.specs.Prelude.{◌≡◌, ◌⊎◌, ◌↔◌, ℕ, ◌<◌, ◌+◌, ◌*◌, Bool, true, false, List, length, Some, slice_get}
use Rattle.st_model.specs.declared.program.Program.{Program}
use Rattle.st_model.specs.declared.program.ProgramFunction.{ProgramFunction}
use Rattle.st_model.specs.declared.program.Item.{Item}
use Rattle.st_model.specs.declared.program.ItemKind.{ItemKind}
use Rattle.st_model.specs.declared.program.ItemKind.TheVariants.{Call, Fork}
use Rattle.st_model.specs.Flow.{argument_of, defined_at_entry, IsNext, Leads, defined_after}
use Rattle.st_flow.specs.declared.graph.Node.{Node}
use Rattle.st_flow.specs.declared.places.Change.{Change}
use Rattle.st_flow.specs.declared.places.Change.TheVariants.{TakenAway}
use Rattle.st_flow.specs.Graph.{IsEdge, InRange, HasBit}
use Rattle.st_flow.specs.Places.{is_changed}
use Rattle.st_flow.specs.Undefined.{ReadsPlace}

abbrev pub IsNextIn : ProgramFunction → ℕ → ℕ → Type 0
IsNextIn function j i = (item : Item) × (slice_get function.items j ≡ Some item) × IsNext item.kind j i

-- the edges are the function's successors
abbrev pub IsGraphOf : ProgramFunction → List Node → Type 0
IsGraphOf function nodes = (j i : ℕ) → IsEdge nodes j i ↔ IsNextIn function j i

-- successors stay in the function
abbrev pub Stays : ProgramFunction → Type 0
Stays function = (j i : ℕ) → IsNextIn function j i → i < length function.items

abbrev pub IsReached : ProgramFunction → ℕ → Type 0
IsReached function i = (back : List ℕ) × Leads function back i

-- some path to the item at i leaves the place undefined
abbrev pub IsUndefined : ProgramFunction → ℕ → ℕ → Type 0
IsUndefined function x i = (back : List ℕ) × Leads function back i × (defined_after function back x ≡ false)

-- the item at j does this to the place
abbrev pub Changes : Change → ProgramFunction → ℕ → ℕ → Type 0
Changes change function x j =
    (item : Item) × (slice_get function.items j ≡ Some item) × (is_changed change function.frame_bytes item.kind x ≡ true)

-- where the place begins to be undefined: at entry, or after an item that is reached and takes its definition away
abbrev pub Begins : ProgramFunction → ℕ → ℕ → Type 0
Begins function x i =
    ((i ≡ 0) × (defined_at_entry function x ≡ false)) ⊎ ((j : ℕ) × IsReached function j × IsNextIn function j i × Changes TakenAway function x j)

-- the words of a group of places have what each item does to them
abbrev pub IsTable : Change → ProgramFunction → ℕ → List ℕ → Type 0
IsTable change function g words = (j b : ℕ) → b < 64 → HasBit words j b ↔ Changes change function (64 * g + b) j

-- the words of a group of places have where they begin to be undefined
abbrev pub AreStarts : ProgramFunction → ℕ → List ℕ → Type 0
AreStarts function g words = (i b : ℕ) → b < 64 → HasBit words i b ↔ Begins function (64 * g + b) i

abbrev pub AreUndefined : ProgramFunction → ℕ → List ℕ → Type 0
AreUndefined function g words = (i b : ℕ) → b < 64 → HasBit words i b ↔ IsUndefined function (64 * g + b) i

-- the item at i reads the place, which some path leaves undefined
abbrev pub IsBad : Program → ProgramFunction → ℕ → ℕ → Type 0
IsBad p function i x = IsUndefined function x i × ReadsPlace p function i x

-- an argument of the function that the item calls
abbrev pub callee_argument : Program → ItemKind → ℕ → Bool
callee_argument p (Call f) x = argument_of (slice_get p.functions f) x
callee_argument p (Fork f handle) x = argument_of (slice_get p.functions f) x
callee_argument p _ x = false

-- the graph of a function, and which items are reached
pub record IsMap (function : ProgramFunction) (nodes : List Node) (ranks reach : List ℕ) : Type 0 where
  pub some : 0 < length nodes
  pub long : length nodes ≡ length function.items
  pub edges : IsGraphOf function nodes
  pub range : InRange nodes
  pub ranked : length ranks ≡ length nodes
  pub marked : length reach ≡ length nodes
  pub reached : (i : ℕ) → HasBit reach i 0 ↔ IsReached function i
