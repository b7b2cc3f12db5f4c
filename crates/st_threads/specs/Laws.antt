-- The laws of who holds each thread, over worlds with a heap behind. Read StepGoes and MoveGoes (the item that goes with a step or a move takes the heap on by at most one
-- step of the machine), Kept and MovesKept (each step, and each move between steps, keeps who holds what), ToldLaws (what follows) and First.
use Rattle.std.specs.Prelude.{◌≡◌, ◌⊎◌, ℕ, ◌/◌, ◌<◌, Some, None}
use Rattle.std.specs.List.{Contains}
use Rattle.st_base.specs.declared.chain.Chain.{Chain}
use Rattle.st_base.specs.declared.limits.Limits.{Limits}
use Rattle.st_base.specs.declared.thread.Thread.{Thread}
use Rattle.st_words.specs.declared.view.Slot.{Slot}
use Rattle.st_words.specs.declared.view.Known.{Known}
use Rattle.st_words.specs.declared.view.Carried.{Carried}
use Rattle.st_words.specs.declared.view.View.{View}
use Rattle.st_words.specs.Steps.{Step, SlotPut, Answer, Can}
use Rattle.st_words.specs.Views.{Does}
use Rattle.st_words.specs.Plain.{first_words, first_cargoes, first_views}
use Rattle.st_words.specs.Careful.{Meaning, Careful}
use Rattle.st_model.specs.declared.program.Program.{Program}
use Rattle.st_model.specs.declared.ordinary.State.{State}
use Rattle.st_model.specs.Memory.{Data}
use Rattle.st_model.specs.Heap.{Path, Heap, HStep, new_thread, first_heap}
use Rattle.st_made.specs.Items.{IsLive}
use Rattle.st_made.specs.Runs.{AreIn, HasSeen, all_known}
use Rattle.st_made.specs.Moves.{OneMove}
use Rattle.st_made.specs.Events.{Event}
use Rattle.st_world.specs.World.{World, slot_of, cargo_of, seen, Finds, world_after}
use Rattle.st_world.specs.OfPlain.{world_of}
use Rattle.st_threads.specs.Behind.{StepBehind, MoveBehind}
use Rattle.st_threads.specs.Holding.{Threads}

-- ---- the heap

-- the heap after the item that goes with a step: the one before, or one step of the machine from there
abbrev pub StepGoes : Type 0
StepGoes =
    (program : Program) (source : Data) (h : Heap) (x : World) (w : ℕ) (s : Step) (a : Answer) (v : View) → Threads h x → Event program source (x.view w) s a v → (h' : Heap) × StepBehind program source h (x.view w) s a v h' × ((h' ≡ h) ⊎ ((p : Path) × HStep program source h p h'))

-- and after a move, where what the view has seen is so
abbrev pub MoveGoes : Type 0
MoveGoes =
    (program : Program) (source : Data) (h : Heap) (x : World) (w : ℕ) (u : View) → Threads h x → HasSeen h (x.view w) → OneMove program source (x.view w) u → (h' : Heap) × MoveBehind program source h (x.view w) u h' × ((h' ≡ h) ⊎ ((p : Path) × HStep program source h p h'))

-- ---- what is kept

-- chains of a view with one number are one chain
abbrev pub AreSingle : View → Type 0
AreSingle v = (y z : Carried) → Contains v.chains y → Contains v.chains z → y.known.note.cell ≡ z.known.note.cell → y ≡ z

-- what follows from where each thread is: a chain is put into an empty slot, and goes with the number of its cell
abbrev pub IsKnown : World → View → Step → Type 0
IsKnown x u (SlotPut slot chain cargo) = (slot_of x slot ≡ None) × AreSingle u
IsKnown x u s = Prim.Unit

abbrev pub Kept : Meaning → Type 0
Kept m =
    (program : Program) (source : Data) (h h' : Heap) (x : World) (w : ℕ) (s : Step) (a : Answer) (v : View) → Threads h x → w < x.workers → Can (x.view w) s → Careful m (x.view w) s → IsKnown x (x.view w) s → Finds x w s a → Does (x.view w) s a v → StepBehind program source h (x.view w) s a v h' → Threads h' (world_after x w s a v)

abbrev pub MovesKept : Type 0
MovesKept =
    (program : Program) (source : Data) (h h' : Heap) (x : World) (w : ℕ) (u : View) → Threads h x → w < x.workers → HasSeen h (x.view w) → AreSingle (x.view w) → MoveBehind program source h (x.view w) u h' → Threads h' (seen w u x)

-- ---- what follows

pub record ToldLaws : Type 0 where
  pub are_in : (h : Heap) (x : World) (w : ℕ) → Threads h x → AreIn h (all_known (x.view w))
  -- a thread that hasn't ended is of one worker or in one slot, once there
  pub one_view : (h : Heap) (x : World) (v w : ℕ) (t s : Known) → Threads h x → Contains (all_known (x.view v)) t → Contains (all_known (x.view w)) s → t.path ≡ s.path → v ≡ w
  pub one_slot : (h : Heap) (x : World) (y z : Slot) (b c : Chain) → Threads h x → slot_of x y ≡ Some b → slot_of x z ≡ Some c → (cargo_of x y).carried.known.path ≡ (cargo_of x z).carried.known.path → y ≡ z
  pub not_both : (h : Heap) (x : World) (w : ℕ) (z : Slot) (b : Chain) (t : Known) → Threads h x → Contains (all_known (x.view w)) t → slot_of x z ≡ Some b → t.path ≡ (cargo_of x z).carried.known.path → ⊥
  pub somewhere : (h : Heap) (x : World) (p : Path) (t : Thread) → Threads h x → h.thread p ≡ Some t → IsLive t.standing → ((w : ℕ) × (k : Known) × Contains (all_known (x.view w)) k × (k.path ≡ p) × (k.thread ≡ t)) ⊎ ((z : Slot) × (b : Chain) × (slot_of x z ≡ Some b) × ((cargo_of x z).carried.known.path ≡ p) × ((cargo_of x z).carried.known.thread ≡ t))

-- a board that is opened for the root's thread has the first heap behind it
abbrev pub First : Type 0
First =
    (s : State) (limits : Limits) (workers : ℕ) → Threads (first_heap s) (world_of (limits.stack / 8) (first_words limits workers) (first_cargoes limits workers (new_thread s.top s.registers)) (first_views limits workers))
