-- The heap-frame machine behind a view. Read AreIn (the threads of a list are in the heap, each once among them), HasSeen (what the view has seen is
-- so in the heap), and the laws MadeRuns (what a worker makes by itself is a run of the machine that leaves all other threads as they are) and
-- EventRuns (so is the item that goes with a step).
use Rattle.std.specs.Prelude.{◌≡◌, ℕ, ◌≤◌, List, ◌++◌, map, Some}
use Rattle.std.specs.List.{Contains}
use Rattle.st_base.specs.declared.thread.Held.TheVariants.{Future, Counter}
use Rattle.st_base.specs.declared.thread.Thread.{Thread}
use Rattle.st_words.specs.declared.view.Known.{Known}
use Rattle.st_words.specs.declared.view.Carried.{Carried}
use Rattle.st_words.specs.declared.view.View.{View}
use Rattle.st_words.specs.Steps.{Step, Answer}
use Rattle.st_model.specs.declared.program.Program.{Program}
use Rattle.st_model.specs.Memory.{Data}
use Rattle.st_model.specs.Heap.{Path, Heap, HasEnded, Run, IsNumbered, steps_of}
use Rattle.st_made.specs.Moves.{Made}
use Rattle.st_made.specs.Events.{Event}

abbrev pub known_of : List Carried → List Known
known_of xs = map (λ (x : Carried). x.known) xs

-- all threads of a view, those in its turn among them
abbrev pub all_known : View → List Known
all_known v = v.threads ++ known_of v.chains

abbrev pub paths_of : List Known → List Path
paths_of ts = map (λ (t : Known). t.path) ts

-- these threads are in the heap, each once among them
pub record AreIn (h : Heap) (ts : List Known) : Type 0 where
  pub each : (t : Known) → Contains ts t → h.thread t.path ≡ Some t.thread
  pub once : (p : Path) → steps_of p (paths_of ts) ≤ 1

-- the values that the view has seen are those of the heap, and no count there is less than one that it has seen
pub record HasSeen (h : Heap) (v : View) : Type 0 where
  pub values : (q : Path) (cell n : ℕ) → Contains v.names (Future q, cell) → Contains v.values (cell, n) → HasEnded h q n
  pub counts : (q : Path) (i cell k : ℕ) → Contains v.names (Counter q i, cell) → Contains v.counts (cell, k) → k ≤ h.count q i

-- a run to a heap that has the threads us; those of the first heap that aren't among ts stay, and aren't among us
pub record Onward (program : Program) (source : Data) (h : Heap) (ts us : List Known) : Type 0 where
  pub heap : Heap
  pub steps : List Path
  pub run : Run program source h steps heap
  pub are_in : AreIn heap us
  pub others : (q : Path) (t : Thread) → h.thread q ≡ Some t → steps_of q (paths_of ts) ≡ 0 → (heap.thread q ≡ Some t) × (steps_of q (paths_of us) ≡ 0)

abbrev pub MadeRuns : Type 0
MadeRuns =
    (program : Program) (source : Data) (h : Heap) (v u : View) → IsNumbered h → AreIn h (all_known v) → HasSeen h v → Made program source v u → (on : Onward program source h (all_known v) (all_known u)) × HasSeen on.heap u

abbrev pub EventRuns : Type 0
EventRuns =
    (program : Program) (source : Data) (h : Heap) (u v' : View) (s : Step) (a : Answer) → IsNumbered h → AreIn h u.threads → Event program source u s a v' → Onward program source h u.threads v'.threads
