-- The laws of steps and of moves for names, over worlds with a heap behind. Read Kept and MovesKept: each careful step, and each move between steps, keeps them.
use Rattle.std.specs.Prelude.{◌≡◌, ◌≢◌, ℕ, ◌<◌}
use Rattle.std.specs.List.{Contains}
use Rattle.st_words.specs.declared.view.CellWord.TheVariants.{Owner}
use Rattle.st_words.specs.declared.view.Waiter.{Waiter}
use Rattle.st_words.specs.declared.view.View.{View}
use Rattle.st_words.specs.Steps.{Step, CellStore, CellChange, Answer, Can}
use Rattle.st_words.specs.Views.{Does}
use Rattle.st_words.specs.Careful.{Meaning, Careful}
use Rattle.st_model.specs.declared.program.Program.{Program}
use Rattle.st_model.specs.Memory.{Data}
use Rattle.st_model.specs.Heap.{Heap}
use Rattle.st_made.specs.Items.{MeansItems}
use Rattle.st_made.specs.Runs.{HasSeen}
use Rattle.st_world.specs.World.{World, seen, Finds, world_after}
use Rattle.st_lists.specs.Laws.{KnowsKind}
use Rattle.st_threads.specs.Behind.{StepBehind, MoveBehind}
use Rattle.st_threads.specs.Holding.{Threads}
use Rattle.st_names.specs.Naming.{Named}

-- what others know: a cell that is named was not, and is one of the board's; a State word that is changed is of a named cell of the kind that the worker takes it for,
-- and numbers in the hand are small, so that they fit into a word beside a count
abbrev pub IsKnown : World → View → Step → Type 0
IsKnown x u (CellStore c Owner n) = (x.owner c ≡ 0) × (c < x.cells)
IsKnown x u (CellChange c old new) = (x.owner c ≢ 0) × KnowsKind (x.owner c) u c × ((y : Waiter) → Contains u.hand y → y.cell < 65536)
IsKnown x u s = Prim.Unit

abbrev pub Kept : Meaning → Type 0
Kept m =
    (program : Program) (source : Data) (h h' : Heap) (x : World) (w : ℕ) (s : Step) (a : Answer) (v : View) → MeansItems program source m → Threads h x → Named program source h x → w < x.workers → Can (x.view w) s → Careful m (x.view w) s → IsKnown x (x.view w) s → Finds x w s a → Does (x.view w) s a v → StepBehind program source h (x.view w) s a v h' → Named program source h' (world_after x w s a v)

abbrev pub MovesKept : Type 0
MovesKept =
    (program : Program) (source : Data) (h h' : Heap) (x : World) (w : ℕ) (u : View) → Threads h x → Named program source h x → w < x.workers → HasSeen h (x.view w) → MoveBehind program source h (x.view w) u h' → Named program source h' (seen w u x)
