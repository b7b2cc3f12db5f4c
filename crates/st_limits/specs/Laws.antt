-- The laws of limits, over worlds with a run behind. Read Kept and MovesKept (each careful step, and each move between steps, keeps that the numbers of workers are within the run)
-- and First; that a stop code means that a run passes the limit is a part of Limiting.
use Rattle.std.specs.Prelude.{◌≡◌, ℕ, ◌+◌, ◌/◌, ◌<◌, Some}
use Rattle.std.specs.List.{Contains}
use Rattle.st_base.specs.declared.limits.Limits.{Limits}
use Rattle.st_words.specs.declared.view.View.{View}
use Rattle.st_words.specs.Steps.{Step, Draw, StopSet, Answer, Can}
use Rattle.st_words.specs.Views.{Does}
use Rattle.st_words.specs.Plain.{first_words, first_cargoes, first_views, one_more}
use Rattle.st_words.specs.Careful.{Meaning, Careful}
use Rattle.st_model.specs.declared.program.Program.{Program}
use Rattle.st_model.specs.declared.ordinary.State.{State}
use Rattle.st_model.specs.Memory.{Data}
use Rattle.st_model.specs.Ordinary.{start}
use Rattle.st_model.specs.Heap.{Heap, IsNumbered, new_thread, first_heap}
use Rattle.st_made.specs.Items.{MeansItems}
use Rattle.st_made.specs.Runs.{HasSeen}
use Rattle.st_world.specs.World.{World, seen, Finds, world_after}
use Rattle.st_world.specs.OfPlain.{world_of}
use Rattle.st_threads.specs.Behind.{StepBehind, MoveBehind}
use Rattle.st_threads.specs.Holding.{Threads}
use Rattle.st_threads.specs.Laws.{AreSingle, IsKnown as KnowsSlot}
use Rattle.st_limits.specs.Stopping.{MeansLimits, Within}

-- what others know: Drawn doesn't wrap, and is beyond what was drawn; a worker has its own number and the number of cells
abbrev pub IsKnown : World → ℕ → View → Step → Type 0
IsKnown x w u Draw = one_more x.drawn ≡ x.drawn + 1
IsKnown x w u (StopSet code) = (u.number ≡ w) × (u.cells ≡ x.cells) × ((n : ℕ) → Contains u.drawn n → n < x.drawn)
IsKnown x w u s = KnowsSlot x u s

abbrev pub Kept : Meaning → Type 0
Kept m =
    (program : Program) (source : Data) (limits : Limits) (h0 h h' : Heap) (x : World) (w : ℕ) (s : Step) (a : Answer) (v : View) → MeansItems program source m → MeansLimits program source limits m → IsNumbered h0 → Threads h x → Within program source limits h0 h x → w < x.workers → Can (x.view w) s → Careful m (x.view w) s → IsKnown x w (x.view w) s → Finds x w s a → Does (x.view w) s a v → StepBehind program source h (x.view w) s a v h' → Within program source limits h0 h' (world_after x w s a v)

abbrev pub MovesKept : Type 0
MovesKept =
    (program : Program) (source : Data) (limits : Limits) (h0 h h' : Heap) (x : World) (w : ℕ) (u : View) → Threads h x → Within program source limits h0 h x → w < x.workers → HasSeen h (x.view w) → AreSingle (x.view w) → MoveBehind program source h (x.view w) u h' → Within program source limits h0 h' (seen w u x)

-- a board that is opened has the first heap behind it, and no steps
abbrev pub First : Type 0
First =
    (program : Program) (source : Data) (s : State) (limits : Limits) (workers : ℕ) → start program source ≡ Some s → Within program source limits (first_heap s) (first_heap s) (world_of (limits.stack / 8) (first_words limits workers) (first_cargoes limits workers (new_thread s.top s.registers)) (first_views limits workers))
