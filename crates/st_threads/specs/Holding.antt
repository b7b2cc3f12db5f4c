-- Who holds each thread of the heap that hasn't ended: a worker, on its stack or in its turn, or the chain in a slot. Read Threads, which is of a heap and a world. Each clause is
-- of one view, one slot or one thread; that no thread is held twice follows, since a thread has one holder.
use Rattle.std.specs.Prelude.{◌≡◌, ◌≢◌, ℕ, ◌==◌, List, Option, Some, None, if◌then◌else◌}
use Rattle.std.specs.List.{Contains}
use Rattle.st_base.specs.declared.chain.Chain.{Chain}
use Rattle.st_base.specs.declared.thread.Thread.{Thread}
use Rattle.st_words.specs.declared.view.Slot.{Slot}
use Rattle.st_words.specs.declared.view.Known.{Known}
use Rattle.st_words.specs.declared.view.Cargo.{Cargo}
use Rattle.st_words.specs.declared.view.View.{View}
use Rattle.st_model.specs.Heap.{Path, Heap, IsNumbered, steps_of}
use Rattle.st_made.specs.Items.{IsLive}
use Rattle.st_made.specs.Runs.{all_known, paths_of}
use Rattle.st_world.specs.World.{World, slot_of, cargo_of}
use Rattle.st_world.specs.Holders.{Holder, InView, InSlot, Nobody}

-- how often the worker has it
abbrev pub times : Holder → ℕ → ℕ
times (InView v) w = if v == w then 1 else 0
times (InSlot z) w = 0
times Nobody w = 0

-- the thread of the heap that a view or a cargo keeps, with what is counted of it
pub record IsOf (h : Heap) (t : Known) : Type 0 where
  pub there : h.thread t.path ≡ Some t.thread
  pub live : IsLive t.thread.standing
  pub forks : t.note.forks ≡ t.thread.forks
  pub counters : t.note.counters ≡ t.thread.counters
  pub bytes : t.note.bytes ≡ t.thread.bytes

-- all threads of a worker, those of the chains in its turn among them
pub record HasThreads (h : Heap) (keeper : Path → Holder) (w : ℕ) (ts : List Known) : Type 0 where
  pub once : (p : Path) → steps_of p (paths_of ts) ≡ times (keeper p) w
  pub each : (t : Known) → Contains ts t → IsOf h t

-- the thread of the chain in a slot
pub record HasThreadOf (h : Heap) (keeper : Path → Holder) (z : Slot) (t : Known) : Type 0 where
  pub of : IsOf h t
  pub holds : keeper t.path ≡ InSlot z
  pub alone : (p : Path) → keeper p ≡ InSlot z → p ≡ t.path

abbrev pub SlotHas : Heap → (Path → Holder) → Slot → Option Chain → Cargo → Type 0
SlotHas h keeper z None cargo = (p : Path) → keeper p ≢ InSlot z
SlotHas h keeper z (Some chain) cargo = HasThreadOf h keeper z cargo.carried.known

pub record Holding (h : Heap) (slot : Slot → Option Chain) (cargo : Slot → Cargo) (view : ℕ → View) : Type 0 where
  pub keeper : Path → Holder
  pub views : (w : ℕ) → HasThreads h keeper w (all_known (view w))
  pub slots : (z : Slot) → SlotHas h keeper z (slot z) (cargo z)
  pub held : (p : Path) (t : Thread) → h.thread p ≡ Some t → IsLive t.standing → keeper p ≢ Nobody
  pub numbered : IsNumbered h

abbrev pub Threads : Heap → World → Type 0
Threads h x = Holding h (slot_of x) (cargo_of x) x.view
