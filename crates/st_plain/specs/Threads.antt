-- Names, cells and notes of a run stand for the threads, futures and counters of the ordinary-call run. A name is that of the cell with its
-- place. Read NamesStand, NotesStand, and HandlesStand (the register that gets a thread's future is that of its fork).
use Rattle.std.specs.Prelude.{◌≡◌, ◌⊎◌, ℕ, ◌+◌, ◌-◌, ◌^◌, ◌<◌, ◌≤◌, List, [], ◌∷◌, ◌++◌, length, Some, slice_get}
use Rattle.st_base.specs.declared.reg.Reg.{Reg}
use Rattle.st_base.specs.declared.thread.Activation.{Activation}
use Rattle.st_base.specs.declared.thread.ActivationKind.{ActivationKind}
use Rattle.st_base.specs.declared.thread.ActivationKind.TheVariants.{Called, Forked, Root}
use Rattle.st_base.specs.declared.thread.Held.{Held}
use Rattle.st_base.specs.declared.thread.Held.TheVariants.{Number, Future, Counter}
use Rattle.st_model.specs.declared.program.Item.{Item}
use Rattle.st_model.specs.declared.program.ItemKind.{ItemKind}
use Rattle.st_model.specs.declared.program.ItemKind.TheVariants.{Fork}
use Rattle.st_model.specs.declared.program.Program.{Program}
use Rattle.st_model.specs.declared.program.ProgramFunction.{ProgramFunction}
use Rattle.st_model.specs.declared.ordinary.Tally.{Tally}
use Rattle.st_model.specs.declared.ordinary.Tallied.{Tallied}
use Rattle.st_model.specs.declared.ordinary.Rest.{Rest}
use Rattle.st_model.specs.Ends.{IsOrdered}
use Rattle.st_model.specs.Ordinary.{value_of, count_of}
use Rattle.st_plain.specs.declared.cells.Cell.{Cell}
use Rattle.st_plain.specs.declared.cells.Cell.TheVariants.{Future as FutureCell, Counter as CounterCell}
use Rattle.st_plain.specs.declared.cells.Note.{Note}

-- the thread of path e is that of path q or one above it, or came from a fork before the fork f of q: where the paths part, e has the
-- smaller number
abbrev pub Came : List ℕ → List ℕ → ℕ → Type 0
Came [] q f = Prim.Unit
Came (x ∷ e) [] f = x < f
Came (x ∷ e) (y ∷ q) f = (x < y) ⊎ ((x ≡ y) × Came e q f)

-- where one of these threads is the maker, it has made a counter of this number
abbrev pub HasMade : List ℕ → ℕ → List Tally → Type 0
HasMade maker number [] = Prim.Unit
HasMade maker number (t ∷ ts) = (maker ≡ t.path → number < t.counters) × HasMade maker number ts

abbrev pub CounterCame : List ℕ → ℕ → Rest → Type 0
CounterCame maker number rest = Came maker rest.thread.path rest.thread.forks × HasMade maker number (rest.thread ∷ rest.parents)

-- a name is of a thread or a counter that was made
abbrev pub NameCame : Rest → Held → Type 0
NameCame rest (Number n) = ⊥
NameCame rest (Future path) = Came path rest.thread.path rest.thread.forks
NameCame rest (Counter maker number) = CounterCame maker number rest

-- a future's cell has its thread's value, where that has ended; a counter's has its count
abbrev pub CellFits : Rest → Held → Cell → Type 0
CellFits rest (Future path) (FutureCell value) = value ≡ value_of rest.ended path
CellFits rest (Counter maker number) (CounterCell count) = count ≡ count_of rest.counts maker number
CellFits rest _ _ = ⊥

abbrev pub AllFit : Rest → List Held → List Cell → Type 0
AllFit rest [] [] = Prim.Unit
AllFit rest (name ∷ names) (cell ∷ cells) = CellFits rest name cell × AllFit rest names cells
AllFit rest _ _ = ⊥

abbrev pub AllCounted : Rest → List Tallied → Type 0
AllCounted rest [] = Prim.Unit
AllCounted rest (c ∷ cs) = CounterCame c.maker c.number rest × AllCounted rest cs

-- each thread came from the last fork that the next one has made, and the oldest is the root
abbrev pub AreLastForks : List ℕ → List Tally → Type 0
AreLastForks path [] = path ≡ []
AreLastForks path (parent ∷ parents) = (0 < parent.forks) × (path ≡ parent.path ++ (parent.forks - 1) ∷ []) × AreLastForks parent.path parents

-- the names of the cells, by their numbers; the root's cell is 0
pub record NamesStand (names : List Held) (cells : List Cell) (rest : Rest) : Type 0 where
  pub root : slice_get names 0 ≡ Some (Future [])
  pub came : (n : ℕ) (name : Held) → slice_get names n ≡ Some name → NameCame rest name
  pub distinct : (m n : ℕ) (name : Held) → slice_get names m ≡ Some name → slice_get names n ≡ Some name → m ≡ n
  pub ordered : IsOrdered rest
  pub last_forks : AreLastForks rest.thread.path rest.parents
  pub counted : AllCounted rest rest.counts
  pub fits : AllFit rest names cells

-- a note has its thread's cell, its forks and counters, and the register of its handle in its parent
pub record NoteStands (names : List Held) (note : Note) (tally : Tally) : Type 0 where
  pub cell : slice_get names note.cell ≡ Some (Future tally.path)
  pub forks : note.forks ≡ tally.forks
  pub counters : note.counters ≡ tally.counters
  pub handle : note.handle ≡ tally.handle
  pub few_forks : note.forks ≤ length names
  pub few_counters : note.counters ≤ length names

-- the notes, newest first, stand for the threads of the list
abbrev pub NotesStand : List Held → List Note → List Tally → Type 0
NotesStand names [] [] = Prim.Unit
NotesStand names (n ∷ ns) (t ∷ ts) = NoteStands names n t × NotesStand names ns ts
NotesStand names _ _ = ⊥

-- ---- the registers that get futures

-- the item is a fork whose future comes into this register
abbrev pub ForksInto : Reg → ItemKind → Type 0
ForksInto handle (Fork f r) = handle ≡ r
ForksInto handle _ = ⊥

-- the activation goes on behind such a fork
pub record IsBehindFork (p : Program) (handle : Reg) (a : Activation) : Type 0 where
  pub function : ProgramFunction
  pub here : slice_get p.functions a.function ≡ Some function
  pub item : Item
  pub placed : slice_get function.items (a.next - 1) ≡ Some item
  pub forks : ForksInto handle item.kind

-- The activations below one of this kind, newest first, in the thread of this handle and those below it: a thread's first call stands above the
-- activation that forked it into its handle. Below the root's first call there is no thread.
abbrev pub HandlesStand : Program → ActivationKind → List Activation → Reg → List Tally → Type 0
HandlesStand p Called [] handle parents = Prim.Unit
HandlesStand p Called (a ∷ older) handle parents = HandlesStand p a.kind older handle parents
HandlesStand p Forked [] handle parents = Prim.Unit
HandlesStand p Forked (a ∷ older) handle [] = Prim.Unit
HandlesStand p Forked (a ∷ older) handle (t ∷ ts) = IsBehindFork p handle a × HandlesStand p a.kind older t.handle ts
HandlesStand p Root older handle parents = parents ≡ []

-- ---- what the runtime's entries make of the notes, which stand here with the newest first

-- the newest thread makes a child, which has this cell
abbrev pub forked_notes : ℕ → Reg → List Note → List Note
forked_notes cell handle [] = []
forked_notes cell handle (n ∷ ns) = record { cell = cell; forks = 0; counters = 0; handle = handle } ∷ (record n { forks = n.forks + 1 } ∷ ns)

-- it makes a counter
abbrev pub counted_notes : List Note → List Note
counted_notes [] = []
counted_notes (n ∷ ns) = record n { counters = n.counters + 1 } ∷ ns

-- a thread runs, and may make a child and a counter
abbrev pub MayMake : List Note → Type 0
MayMake [] = ⊥
MayMake (n ∷ ns) = (n.forks + 1 < 2 ^ 32) × (n.counters + 1 < 2 ^ 32)

-- a thread runs, whose cell is among so many
abbrev pub HasCell : ℕ → List Note → Type 0
HasCell cells [] = ⊥
HasCell cells (n ∷ ns) = n.cell < cells

-- the path of the newest thread: each of the others has made its last fork on the way to it
abbrev pub path_above : List Note → List ℕ
path_above [] = []
path_above (n ∷ ns) = path_above ns ++ (n.forks - 1) ∷ []

abbrev pub path_by : List Note → List ℕ
path_by [] = []
path_by (n ∷ ns) = path_above ns
