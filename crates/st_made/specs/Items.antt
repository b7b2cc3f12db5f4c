-- The items of the heap-frame machine as a worker's view tells them. Read next_move (what a thread of a view would do next), SeenEnough (what the view has
-- seen lets the item be made), IsPrivate (the item changes its own thread alone), went and born (a thread after its item, a child), WaitsAt (where a
-- thread waits or has stopped), and MeansItems (a Meaning whose clauses on items are those of the machine).
use Rattle.std.specs.Prelude.{◌≡◌, ◌≢◌, ◌⊎◌, ℕ, ◌≤◌, false, [], ◌∷◌, ◌++◌, None}
use Rattle.std.specs.List.{Contains}
use Rattle.st_base.specs.declared.chain.Waiting.{Waiting}
use Rattle.st_base.specs.declared.chain.Waiting.TheVariants as waits
use Rattle.st_base.specs.declared.thread.Held.TheVariants.{Future, Counter}
use Rattle.st_base.specs.declared.thread.Standing.{Standing}
use Rattle.st_base.specs.declared.thread.Standing.TheVariants.{Going, Ended, Trapped, Full}
use Rattle.st_base.specs.declared.thread.Thread.{Thread}
use Rattle.st_words.specs.declared.view.Known.{Known}
use Rattle.st_words.specs.declared.view.View.{View}
use Rattle.st_words.specs.Careful.{Meaning}
use Rattle.st_model.specs.declared.program.Program.{Program}
use Rattle.st_model.specs.Memory.{Data}
use Rattle.st_model.specs.Heap.{Path, Change, Move, Stays, Moves, Touch, Join, move}
use Rattle.st_model.specs.Quiet.{IsEvent}

-- the thread hasn't ended: it is going, has trapped, or is full
abbrev pub IsLive : Standing → Type 0
IsLive Going = Prim.Unit
IsLive (Ended v) = ⊥
IsLive (Trapped kind line) = Prim.Unit
IsLive Full = Prim.Unit

-- the view has seen what the next item waits for: the value of the future, or a count that is enough
abbrev pub SeenEnough : View → Move → Change → Type 0
SeenEnough v Stays c = ⊥
SeenEnough v (Moves d) c = d ≡ c
SeenEnough v (Touch q f) c = (cell : ℕ) × (n : ℕ) × Contains v.names (Future q, cell) × Contains v.values (cell, n) × (f n ≡ c)
SeenEnough v (Join q i least d) c = (cell : ℕ) × (k : ℕ) × Contains v.names (Counter q i, cell) × Contains v.counts (cell, k) × (least ≤ k) × (d ≡ c)

-- the item changes its own thread alone, and doesn't end it; it makes no counter, since that names a cell, and prints nothing
pub record IsPrivate (t : Thread) (c : Change) : Type 0 where
  pub child : c.child ≡ None
  pub added : c.added ≡ None
  pub printed : c.printed ≡ None
  pub counters : c.own.counters ≡ t.counters
  pub bytes : c.own.bytes ≡ t.bytes
  pub live : IsLive c.own.standing

-- the thread after an item, with what is counted of it; its next item isn't begun
abbrev pub went : Known → Thread → Known
went t own = record t { note = record t.note { forks = own.forks; counters = own.counters; bytes = own.bytes }; thread = own; begun = false }

abbrev pub born : ℕ → Path → Thread → Known
born cell path thread = record { note = record { cell = cell; forks = 0; counters = 0; bytes = 0 }; path = path; thread = thread; begun = false }

-- the path of the next child
abbrev pub child_path : Known → Path
child_path t = t.path ++ t.thread.forks ∷ []

-- the thread ends with the value
abbrev pub ending : Thread → ℕ → Change
ending t value = record { own = record t { standing = Ended value }; child = None; added = None; printed = None }

module _ (program : Program) (source : Data) where
  abbrev pub next_move : Known → Move
  next_move t = move program source t.path t.thread

  -- the next item is a fork
  abbrev pub IsAtFork : Known → Type 0
  IsAtFork t = (c : Change) × (next_move t ≡ Moves c) × (c.child ≢ None)

  -- it makes a counter
  abbrev pub IsAtCounter : Known → Type 0
  IsAtCounter t = (c : Change) × (next_move t ≡ Moves c) × (c.own.counters ≢ t.thread.counters)

  -- it draws a cell
  abbrev pub IsDrawing : Known → Type 0
  IsDrawing t = IsAtFork t ⊎ IsAtCounter t

  -- it ends the thread, with the value
  abbrev pub EndsWith : Known → ℕ → Type 0
  EndsWith t value = next_move t ≡ Moves (ending t.thread value)

  -- the thread waits at its next item, or has stopped
  abbrev pub WaitsAt : View → Known → Waiting → Type 0
  WaitsAt v t (waits.Touch cell) = (q : Path) × (f : ℕ → Change) × (next_move t ≡ Touch q f) × Contains v.names (Future q, cell)
  WaitsAt v t (waits.Join cell least) = (q : Path) × (i : ℕ) × (c : Change) × (next_move t ≡ Join q i least c) × Contains v.names (Counter q i, cell)
  WaitsAt v t waits.Trapped = IsEvent t.thread.standing
  WaitsAt v t waits.Ready = ⊥
  WaitsAt v t waits.Start = ⊥

  -- what a board is told of items is so of the machine
  pub record MeansItems (m : Meaning) : Type 0 where
    pub forks : (t : Known) → m.forks t → IsAtFork t
    pub counts : (t : Known) → m.counts t → IsAtCounter t
    pub ends : (t : Known) (value : ℕ) → m.ends t value → EndsWith t value
