-- The laws of the output, over worlds with a heap behind. Read Kept and MovesKept (each step, and each move between steps, keeps what it shows) and First.
use Rattle.std.specs.Prelude.{ℕ, ◌/◌}
use Rattle.st_base.specs.declared.limits.Limits.{Limits}
use Rattle.st_words.specs.declared.view.View.{View}
use Rattle.st_words.specs.Steps.{Step, Answer}
use Rattle.st_words.specs.Plain.{first_words, first_cargoes, first_views}
use Rattle.st_model.specs.declared.program.Program.{Program}
use Rattle.st_model.specs.declared.ordinary.State.{State}
use Rattle.st_model.specs.Memory.{Data}
use Rattle.st_model.specs.Heap.{Heap, new_thread, first_heap}
use Rattle.st_made.specs.Runs.{HasSeen}
use Rattle.st_world.specs.World.{World, seen, world_after}
use Rattle.st_world.specs.OfPlain.{world_of}
use Rattle.st_threads.specs.Behind.{StepBehind, MoveBehind}
use Rattle.st_threads.specs.Holding.{Threads}
use Rattle.st_output.specs.Showing.{Output}

abbrev pub Kept : Type 0
Kept =
    (program : Program) (source : Data) (h h' : Heap) (x : World) (w : ℕ) (s : Step) (a : Answer) (v : View) → Threads h x → Output h x → StepBehind program source h (x.view w) s a v h' → Output h' (world_after x w s a v)

abbrev pub MovesKept : Type 0
MovesKept =
    (program : Program) (source : Data) (h h' : Heap) (x : World) (w : ℕ) (u : View) → Threads h x → HasSeen h (x.view w) → Output h x → MoveBehind program source h (x.view w) u h' → Output h' (seen w u x)

-- a board that is opened shows nothing
abbrev pub First : Type 0
First =
    (s : State) (limits : Limits) (workers : ℕ) → Output (first_heap s) (world_of (limits.stack / 8) (first_words limits workers) (first_cargoes limits workers (new_thread s.top s.registers)) (first_views limits workers))
