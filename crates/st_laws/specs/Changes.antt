-- What one item changes. ItemChanges is the law to reach for wherever a step is met: it tells in one place what becomes of the thread's forks,
-- counters and bytes, what a child is, who prints and who is full, and how many cells were drawn. TalliesStay and OneIsDrawn read from it what
-- most items leave, and which draw. ForkMakes says what a fork makes of the heap; BytesAreCounted and CellsAreCounted what these changes come
-- to over a run from the start.
use Rattle.std.specs.Prelude.{◌≡◌, ◌≢◌, ◌⊎◌, ℕ, ◌+◌, ◌≤◌, List, [], ◌∷◌, ◌++◌, length, Option, Some, None}
use Rattle.st_base.specs.declared.thread.Standing.TheVariants.{Going, Full}
use Rattle.st_base.specs.declared.thread.Thread.{Thread}
use Rattle.st_model.specs.declared.program.Program.{Program}
use Rattle.st_model.specs.Memory.{Data}
use Rattle.st_model.specs.Heap.{Path, Heap, Change, move, Enabled, HStep, first_heap, Reached}
use Rattle.st_model.specs.Limits.{IsMember, AreDistinct, total, cells_drawn}
use Rattle.st_laws.specs.Names.{IsThread, IsMade}

abbrev pub one_if : {A : Type 0} → Option A → ℕ
one_if None = 0
one_if (Some a) = 1

-- a child is going, and has forked, counted and printed nothing
abbrev pub IsNew : Option Thread → Type 0
IsNew None = Unit {0}
IsNew (Some child) = (child.standing ≡ Going) × (child.forks ≡ 0) × (child.counters ≡ 0) × (child.bytes ≡ 0)

-- an item that draws cells draws one; its thread goes on, and neither adds nor prints
abbrev pub IsDraw : ℕ → Change → Type 0
IsDraw cells c = (cells ≡ 1) × (c.own.standing ≡ Going) × (c.added ≡ None) × (c.printed ≡ None)

-- what an item that draws so many cells changes of the thread p that was in the state t: its forks grow by its child, its counters by the
-- cells that are no child's, its bytes by what it prints; the root alone prints, and is full
pub record ItemChange (p : Path) (cells : ℕ) (t : Thread) (c : Change) : Type 0 where
  pub going : t.standing ≡ Going
  pub forks : c.own.forks ≡ t.forks + one_if c.child
  pub counters : c.own.counters + one_if c.child ≡ t.counters + cells
  pub bytes : c.own.bytes ≡ t.bytes + one_if c.printed
  pub prints : c.printed ≢ None → p ≡ []
  pub full : c.own.standing ≡ Full → p ≡ []
  pub child : IsNew c.child
  pub fork : c.child ≢ None → c.own.counters ≡ t.counters
  pub draws : cells ≢ 0 → IsDraw cells c

-- each change that a thread can make now is such a one
abbrev pub ItemChanges : Type 0
ItemChanges =
    (program : Program) (source : Data) (h : Heap) (p : Path) (t : Thread) (c : Change) → Enabled h (move program source p t) c → ItemChange p (cells_drawn program p t) t c

-- an item that draws no cell and prints nothing makes no child, and leaves its thread's forks, counters and bytes as they were
abbrev pub TalliesStay : Type 0
TalliesStay =
    (program : Program) (source : Data) (h : Heap) (p : Path) (t : Thread) (c : Change) → Enabled h (move program source p t) c → cells_drawn program p t ≡ 0 → c.printed ≡ None → (c.child ≡ None) × (c.own.forks ≡ t.forks) × (c.own.counters ≡ t.counters) × (c.own.bytes ≡ t.bytes)

-- an item that makes a child or a counter draws one cell, and no other item draws
abbrev pub OneIsDrawn : Type 0
OneIsDrawn =
    (program : Program) (source : Data) (h : Heap) (p : Path) (t : Thread) (c : Change) → Enabled h (move program source p t) c → ((c.child ≢ None) ⊎ (c.own.counters ≢ t.counters) → cells_drawn program p t ≡ 1) × (c.child ≡ None → c.own.counters ≡ t.counters → cells_drawn program p t ≡ 0)

-- the heap after a fork: its thread has one fork more and goes on, the child is there, and nothing else is changed
pub record AfterFork (h : Heap) (p : Path) (t : Thread) (own child : Thread) (h' : Heap) : Type 0 where
  pub own_there : h'.thread p ≡ Some own
  pub going : own.standing ≡ Going
  pub forks : own.forks ≡ t.forks + 1
  pub counters : own.counters ≡ t.counters
  pub bytes : own.bytes ≡ t.bytes
  pub child_there : h'.thread (p ++ t.forks ∷ []) ≡ Some child
  pub is_new : IsNew (Some child)
  pub others : (q : Path) → q ≢ p → q ≢ p ++ t.forks ∷ [] → h'.thread q ≡ h.thread q
  pub counts : (q : Path) (n : ℕ) → h'.count q n ≡ h.count q n
  pub out : h'.out ≡ h.out

-- a step that makes a child is a fork
abbrev pub ForkMakes : Type 0
ForkMakes =
    (program : Program) (source : Data) (h h' : Heap) (p : Path) (child : Thread) → (s : HStep program source h p h') → s.change.child ≡ Some child → AfterFork h p s.thread s.change.own child h'

-- the root has printed as many bytes as there are, no other thread any; and the root alone is full
pub record HasCountedBytes (h : Heap) : Type 0 where
  pub root : (t : Thread) → h.thread [] ≡ Some t → t.bytes ≡ length h.out
  pub others : (p : Path) (t : Thread) → p ≢ [] → h.thread p ≡ Some t → (t.bytes ≡ 0) × (t.standing ≢ Full)

-- in each reached heap the bytes of the threads are those that were printed
abbrev pub BytesAreCounted : Type 0
BytesAreCounted = (program : Program) (source : Data) (h : Heap) → Reached program source h → HasCountedBytes h

-- the path of a thread, followed by the number of a counter that it has made
abbrev pub IsCounter : Heap → Path → Type 0
IsCounter h q = (p : Path) × ((n : ℕ) × ((q ≡ p ++ n ∷ []) × IsMade h p n))

-- a reached heap has no more threads and counters than the cells that its run has drawn; the root draws one too
abbrev pub CellsAreCounted : Type 0
CellsAreCounted =
    (program : Program) (source : Data) (h : Heap) (threads counters : List Path) (r : Reached program source h) → AreDistinct threads → ((p : Path) → IsMember p threads → IsThread h p) → AreDistinct counters → ((q : Path) → IsMember q counters → IsCounter h q) → length threads + length counters ≤ 1 + total program source (cells_drawn program) (first_heap r.first) r.steps h r.run
