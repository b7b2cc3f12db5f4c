-- The laws of names, over worlds with a heap behind. Read ToldLaws (what follows for the answers of steps, for each view, and for what the words show) and First.
use Rattle.std.specs.Prelude.{◌≡◌, ℕ, ◌/◌, ◌≤◌, ◌<◌, Some}
use Rattle.std.specs.List.{Contains}
use Rattle.st_base.specs.declared.chain.Chain.{Chain}
use Rattle.st_base.specs.declared.limits.Limits.{Limits}
use Rattle.st_base.specs.declared.thread.Held.{Held}
use Rattle.st_base.specs.declared.thread.Held.TheVariants.{Future, Counter}
use Rattle.st_words.specs.declared.view.CellWord.TheVariants.{Owner}
use Rattle.st_words.specs.declared.view.Slot.{Slot}
use Rattle.st_words.specs.Encodings.{full_word, count_in}
use Rattle.st_words.specs.Names.{IsName, ThreadHas, KnowsNames}
use Rattle.st_words.specs.Steps.{CellLoad, Number}
use Rattle.st_words.specs.Plain.{first_words, first_cargoes, first_views}
use Rattle.st_words.specs.Promises.{IsOwnerOf}
use Rattle.st_model.specs.declared.program.Program.{Program}
use Rattle.st_model.specs.declared.ordinary.State.{State}
use Rattle.st_model.specs.Memory.{Data}
use Rattle.st_model.specs.Ordinary.{start}
use Rattle.st_model.specs.Heap.{Path, Heap, new_thread, first_heap}
use Rattle.st_made.specs.Runs.{HasSeen}
use Rattle.st_world.specs.World.{World, slot_of, cargo_of, Finds}
use Rattle.st_world.specs.OfPlain.{world_of}
use Rattle.st_names.specs.Naming.{Named, ShowsFuture}

pub record ToldLaws (program : Program) (source : Data) : Type 0 where
  -- what was seen of the words is so in the heap
  pub has_seen : (h : Heap) (x : World) (w : ℕ) → Named program source h x → ((c n : ℕ) → Contains (x.view w).values (c, n) → (x.state c ≡ full_word) × (x.value c ≡ n)) → ((c k : ℕ) → Contains (x.view w).counts (c, k) → k ≤ count_in (x.state c)) → HasSeen h (x.view w)
  pub owner : (h : Heap) (x : World) (w c n : ℕ) (name : Held) → Named program source h x → Finds x w (CellLoad c Owner) (Number n) → Contains (x.view w).names (name, c) → IsOwnerOf (x.view w).names name n
  -- of each view: a cell has one name and a name one cell, and the names of its threads are known
  pub below : (h : Heap) (x : World) (w c : ℕ) (name : Held) → Named program source h x → Contains (x.view w).names (name, c) → c < x.cells
  pub one_name : (h : Heap) (x : World) (w c : ℕ) (a b : Held) → Named program source h x → Contains (x.view w).names (a, c) → Contains (x.view w).names (b, c) → a ≡ b
  pub one_cell : (h : Heap) (x : World) (w c d : ℕ) (a : Held) → Named program source h x → Contains (x.view w).names (a, c) → Contains (x.view w).names (a, d) → c ≡ d
  pub knows : (h : Heap) (x : World) (w : ℕ) → Named program source h x → KnowsNames (x.view w)
  -- of a chain in a slot: the names of its thread go with it
  pub in_slot : (h : Heap) (x : World) (z : Slot) (chain : Chain) (name : Held) → Named program source h x → slot_of x z ≡ Some chain → IsName name → ThreadHas (cargo_of x z).carried.known.thread name → (c : ℕ) × Contains (cargo_of x z).names (name, c)
  pub below_in_slot : (h : Heap) (x : World) (z : Slot) (chain : Chain) (c : ℕ) (name : Held) → Named program source h x → slot_of x z ≡ Some chain → Contains (cargo_of x z).names (name, c) → c < x.cells
  -- each thread's cell shows whether it has ended and with what, and each counter's its count
  pub future : (h : Heap) (x : World) (p : Path) (n : Named program source h x) → n.name (n.cell (Future p)) ≡ Some (Future p) → ShowsFuture h p (x.state (n.cell (Future p))) (x.value (n.cell (Future p)))
  pub counter : (h : Heap) (x : World) (p : Path) (k : ℕ) (n : Named program source h x) → n.name (n.cell (Counter p k)) ≡ Some (Counter p k) → count_in (x.state (n.cell (Counter p k))) ≡ h.count p k

abbrev pub Told : Type 0
Told = (program : Program) (source : Data) → ToldLaws program source

-- a board that is opened for the root's thread has the root's cell named
abbrev pub First : Type 0
First =
    (program : Program) (source : Data) (s : State) (limits : Limits) (workers : ℕ) → start program source ≡ Some s → Named program source (first_heap s) (world_of (limits.stack / 8) (first_words limits workers) (first_cargoes limits workers (new_thread s.top s.registers)) (first_views limits workers))
