-- That the conditions of the rule's groups over the heap-frame machine are needed. Each law is of one step or one world that is wrong in one condition: no heap is behind such a
-- world as the group says, whatever it says of who keeps a thread, of the names of cells, and of the run.
use Rattle.std.specs.Prelude.{◌≡◌, ◌≢◌, ◌⊎◌, ℕ, ◌+◌, ◌/◌, ◌%◌, ◌≤◌, ◌<◌, List, [], length, Some}
use Rattle.std.specs.List.{Contains}
use Rattle.st_base.specs.declared.chain.Chain.{Chain}
use Rattle.st_base.specs.declared.limits.Limits.{Limits}
use Rattle.st_base.specs.declared.thread.Held.TheVariants.{Future}
use Rattle.st_base.specs.declared.thread.Thread.{Thread}
use Rattle.st_words.specs.declared.view.Slot.{Slot}
use Rattle.st_words.specs.declared.view.Known.{Known}
use Rattle.st_words.specs.declared.view.Cargo.{Cargo}
use Rattle.st_words.specs.declared.view.View.{View}
use Rattle.st_words.specs.Encodings.{full_word}
use Rattle.st_words.specs.Steps.{Step, OutStore, SlotPut, Answer, Done}
use Rattle.st_words.specs.Careful.{Meaning}
use Rattle.st_model.specs.declared.program.Program.{Program}
use Rattle.st_model.specs.Memory.{Data}
use Rattle.st_model.specs.Heap.{Path, Heap, Change, HasEnded, after}
use Rattle.st_model.specs.Limits.{IsMember, PassesStep, PassesStack, PassesCell}
use Rattle.st_made.specs.Items.{IsLive}
use Rattle.st_made.specs.Runs.{all_known}
use Rattle.st_world.specs.World.{World, slot_of, cargo_of, world_after}
use Rattle.st_threads.specs.Holding.{Threads}
use Rattle.st_names.specs.Naming.{Named}
use Rattle.st_output.specs.Showing.{Output}
use Rattle.st_limits.specs.Stopping.{IsBegun, Within}
use Rattle.st_walks.specs.Walking.{Walking}

-- ---- threads

-- the worker has a thread of this path
abbrev pub HasPath : View → Path → Type 0
HasPath v p = (t : Known) × Contains (all_known v) t × (t.path ≡ p)

-- it is in the heap, and hasn't ended
abbrev pub IsUnended : Heap → Path → Type 0
IsUnended h p = (t : Thread) × (h.thread p ≡ Some t) × IsLive t.standing

-- a worker puts a chain with the thread that another one has
abbrev pub ThreadGiven : Type 0
ThreadGiven =
    (h : Heap) (x : World) (v w : ℕ) (slot : Slot) (chain : Chain) (cargo : Cargo) (u : View) → v ≢ w → HasPath (x.view v) cargo.carried.known.path → Threads h (world_after x w (SlotPut slot chain cargo) Done u) → ⊥

-- a chain of this thread is put into a slot
abbrev pub Gives : Step → Path → Type 0
Gives (SlotPut slot chain cargo) p = cargo.carried.known.path ≡ p
Gives s p = ⊥

-- a worker that had a thread has it no more after a step that puts no chain of it, and the thread hasn't ended
abbrev pub ThreadDropped : Type 0
ThreadDropped =
    (h h' : Heap) (x : World) (w : ℕ) (s : Step) (a : Answer) (v : View) (p : Path) → Threads h x → HasPath (x.view w) p → (HasPath v p → ⊥) → (Gives s p → ⊥) → IsUnended h' p → Threads h' (world_after x w s a v) → ⊥

-- ---- names

-- two cells have one Owner word, and neither is the root's, whose word is that of the first child of the thread in cell 0 too
abbrev pub NamedTwice : Type 0
NamedTwice =
    (program : Program) (source : Data) (h : Heap) (x : World) (n : Named program source h x) (c d : ℕ) → x.cells ≤ 65536 → c ≢ d → n.name c ≢ Some (Future []) → n.name d ≢ Some (Future []) → x.owner c ≢ 0 → x.owner d ≡ x.owner c → ⊥

-- a future is full whose thread hasn't ended
abbrev pub FullUnended : Type 0
FullUnended = (program : Program) (source : Data) (h : Heap) (x : World) (n : Named program source h x) (c : ℕ) (p : Path) → n.name c ≡ Some (Future p) → IsUnended h p → x.state c ≡ full_word → ⊥

-- a thread has ended, and the value of its future is another one
abbrev pub ValueOfNone : Type 0
ValueOfNone = (program : Program) (source : Data) (h : Heap) (x : World) (n : Named program source h x) (c value : ℕ) (p : Path) → n.name c ≡ Some (Future p) → HasEnded h p value → x.value c ≢ value → ⊥

-- ---- output

-- a word that isn't 0 is stored where the root has printed no byte
abbrev pub ByteUnprinted : Type 0
ByteUnprinted = (h : Heap) (x : World) (w i n : ℕ) (v : View) → n ≢ 0 → length h.out ≤ i → Output h (world_after x w (OutStore i n) Done v) → ⊥

-- the root prints a byte, and the word is stored at another place than the next
abbrev pub ByteElsewhere : Type 0
ByteElsewhere =
    (h : Heap) (x : World) (t : Thread) (c : Change) (byte w i n : ℕ) (v : View) → Output h x → c.printed ≡ Some byte → i ≢ length h.out → Output (after h [] t c) (world_after x w (OutStore i n) Done v) → ⊥

-- ---- limits

-- the kind of a stop code, and its worker
abbrev pub kind_in : ℕ → ℕ
kind_in code = code % 256

abbrev pub worker_in : ℕ → ℕ
worker_in code = code / 256 % 256

-- a stop code has the kind of no limit, or the number of no worker
abbrev pub StopOfNobody : Type 0
StopOfNobody =
    (program : Program) (source : Data) (limits : Limits) (h0 h : Heap) (x : World) → x.stop ≢ 0 → (kind_in x.stop ≡ 0) ⊎ ((3 < kind_in x.stop) ⊎ (x.workers ≤ worker_in x.stop)) → Within program source limits h0 h x → ⊥

-- no run from there passes the limit of a code
abbrev pub NonePasses : Program → Data → Limits → Heap → ℕ → Type 0
NonePasses program source limits h0 code =
    ((kind_in code ≡ 1) × (PassesStack program source h0 limits.stack → ⊥)) ⊎ (((kind_in code ≡ 2) × (PassesCell program source h0 limits.cells → ⊥)) ⊎ ((kind_in code ≡ 3) × (PassesStep program source h0 limits.steps → ⊥)))

-- a stop code is of a limit that no run passes
abbrev pub StopUnpassed : Type 0
StopUnpassed = (program : Program) (source : Data) (limits : Limits) (h0 h : Heap) (x : World) → NonePasses program source limits h0 x.stop → Within program source limits h0 h x → ⊥

-- a worker has counted more items than those of the run, and one for each path where an item is begun
abbrev pub ItemsUnbegun : Type 0
ItemsUnbegun =
    (program : Program) (source : Data) (limits : Limits) (h0 h : Heap) (x : World) (run : Within program source limits h0 h x) (w : ℕ) (begun : List Path) → ((p : Path) → IsBegun program source (slot_of x) (cargo_of x) x.view p → IsMember p begun) → length run.steps + length begun < (x.view w).items → ⊥

-- ---- chains

-- a chain is put that doesn't walk to the thread which goes with it
abbrev pub ChainAstray : Meaning → Type 0
ChainAstray m = (x : World) (w : ℕ) (slot : Slot) (chain : Chain) (cargo : Cargo) (v : View) → (m.walks cargo chain → ⊥) → Walking m (slot_of (world_after x w (SlotPut slot chain cargo) Done v)) (cargo_of (world_after x w (SlotPut slot chain cargo) Done v)) → ⊥
