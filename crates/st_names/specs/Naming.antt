-- The names of cells, and what the words of a cell show of the heap-frame machine behind the board. Read Named, which is of a heap and a world: each thread and each counter has
-- one cell, whose Owner word tells its name, and whose State and Value words show whether the thread has ended and with what, or what the count is; a worker
-- knows the names that its threads have.
use Rattle.std.specs.Prelude.{◌≡◌, ◌≢◌, ◌⊎◌, ℕ, ◌<◌, [], ◌∷◌, ◌++◌, Option, Some, None}
use Rattle.std.specs.List.{Contains}
use Rattle.st_base.specs.declared.chain.Chain.{Chain}
use Rattle.st_base.specs.declared.thread.Held.{Held}
use Rattle.st_base.specs.declared.thread.Held.TheVariants.{Number, Future, Counter}
use Rattle.st_base.specs.declared.thread.Thread.{Thread}
use Rattle.st_words.specs.declared.view.Slot.{Slot}
use Rattle.st_words.specs.declared.view.Known.{Known}
use Rattle.st_words.specs.declared.view.Cargo.{Cargo}
use Rattle.st_words.specs.declared.view.Child.{Child}
use Rattle.st_words.specs.declared.view.View.{View}
use Rattle.st_words.specs.Encodings.{thread_owner, counter_owner, full_word, count_in}
use Rattle.st_words.specs.Names.{IsName, ThreadHas, KnowsNames}
use Rattle.st_words.specs.Careful.{TopIs}
use Rattle.st_model.specs.declared.program.Program.{Program}
use Rattle.st_model.specs.Memory.{Data}
use Rattle.st_model.specs.Heap.{Path, Heap, Moves, HasEnded, move}
use Rattle.st_laws.specs.Names.{IsThread, IsMade}
use Rattle.st_made.specs.Items.{ending, child_path, IsAtFork}
use Rattle.st_made.specs.Runs.{all_known}
use Rattle.st_world.specs.World.{World, slot_of, cargo_of}

-- ---- cells

-- the Owner word of a name: by the cell of the parent or the maker, and the number there
abbrev pub OwnerOf : (ℕ → Option Held) → Held → ℕ → Type 0
OwnerOf name (Number n) owner = ⊥
OwnerOf name (Future path) owner = ((path ≡ []) × (owner ≡ thread_owner 0 0)) ⊎ ((p : Path) × (k : ℕ) × (parent : ℕ) × (path ≡ p ++ k ∷ []) × (owner ≡ thread_owner parent k) × (name parent ≡ Some (Future p)))
OwnerOf name (Counter maker k) owner = (parent : ℕ) × (owner ≡ counter_owner parent k) × (name parent ≡ Some (Future maker))

-- a future is full exactly where its thread has ended, and has its value then
pub record ShowsFuture (h : Heap) (p : Path) (state value : ℕ) : Type 0 where
  pub full : state ≡ full_word → HasEnded h p value
  pub ended : (n : ℕ) → HasEnded h p n → state ≡ full_word

abbrev pub ShowsName : Heap → ℕ → ℕ → Held → Type 0
ShowsName h state value (Number n) = ⊥
ShowsName h state value (Future p) = ShowsFuture h p state value
ShowsName h state value (Counter p k) = (count_in state ≡ h.count p k) × IsMade h p k

-- the thread has ended with the value, or will, as its next item
abbrev pub WillEnd : Program → Data → Heap → Path → ℕ → Type 0
WillEnd program source h p n = HasEnded h p n ⊎ ((t : Thread) × (h.thread p ≡ Some t) × (move program source p t ≡ Moves (ending t n)))

module _ (program : Program) (source : Data) (h : Heap) (name : ℕ → Option Held) (cell : Held → ℕ) where
  -- a cell has one name, and a name one cell
  pub record IsNamed (c owner state value : ℕ) (n : Held) : Type 0 where
    pub owner_word : OwnerOf name n owner
    pub one : cell n ≡ c
    pub shows : ShowsName h state value n

  abbrev pub CellHolds : ℕ → ℕ → ℕ → ℕ → Option Held → Type 0
  CellHolds c owner state value None = (owner ≡ 0) × (state ≡ 0)
  CellHolds c owner state value (Some n) = IsNamed c owner state value n

  -- ---- what a worker and a chain in a slot know

  -- the cell of the next child of a top thread, which is at its fork
  abbrev pub IsChildOf : ℕ → Known → Type 0
  IsChildOf c t = (name c ≡ Some (Future (child_path t))) × IsAtFork program source t

  pub record ViewNames (value : ℕ → ℕ) (v : View) : Type 0 where
    pub names : (n : Held) (c : ℕ) → Contains v.names (n, c) → name c ≡ Some n
    pub notes : (t : Known) → Contains (all_known v) t → name t.note.cell ≡ Some (Future t.path)
    pub child : (x : Child) → v.child ≡ Some x → TopIs v.threads (IsChildOf x.cell)
    pub knows : KnowsNames v
    -- a value that was stored is that with which the thread ends
    pub stored : (c n : ℕ) → Contains v.valued (c, n) → (p : Path) × (name c ≡ Some (Future p)) × WillEnd program source h p n × (value c ≡ n)

  pub record CargoNames (cargo : Cargo) : Type 0 where
    pub names : (n : Held) (c : ℕ) → Contains cargo.names (n, c) → name c ≡ Some n
    pub note : name cargo.carried.known.note.cell ≡ Some (Future cargo.carried.known.path)
    pub knows : (n : Held) → IsName n → ThreadHas cargo.carried.known.thread n → (c : ℕ) × Contains cargo.names (n, c)

  abbrev pub SlotNames : Option Chain → Cargo → Type 0
  SlotNames None cargo = Prim.Unit
  SlotNames (Some chain) cargo = CargoNames cargo

pub record Naming (program : Program) (source : Data) (h : Heap) (cells : ℕ) (owner state value : ℕ → ℕ) (slot : Slot → Option Chain) (cargo : Slot → Cargo) (view : ℕ → View) : Type 0 where
  pub name : ℕ → Option Held
  pub cell : Held → ℕ
  pub cell_holds : (c : ℕ) → CellHolds program source h name cell c (owner c) (state c) (value c) (name c)
  pub below : (c : ℕ) (n : Held) → name c ≡ Some n → c < cells
  pub threads : (p : Path) → IsThread h p → name (cell (Future p)) ≡ Some (Future p)
  pub counters : (p : Path) (k : ℕ) → IsMade h p k → name (cell (Counter p k)) ≡ Some (Counter p k)
  -- a counter that isn't made has no count
  pub counts : (p : Path) (k : ℕ) → h.count p k ≢ 0 → IsMade h p k
  -- the cell of a thread that isn't there yet is named for the next child of some worker's top thread
  pub children : (c : ℕ) (p : Path) → name c ≡ Some (Future p) → IsThread h p ⊎ ((w : ℕ) × (x : Child) × ((view w).child ≡ Some x) × (x.cell ≡ c))
  pub views : (w : ℕ) → ViewNames program source h name cell value (view w)
  pub slots : (z : Slot) → SlotNames program source h name cell (slot z) (cargo z)

abbrev pub Named : Program → Data → Heap → World → Type 0
Named program source h x = Naming program source h x.cells x.owner x.state x.value (slot_of x) (cargo_of x) x.view
