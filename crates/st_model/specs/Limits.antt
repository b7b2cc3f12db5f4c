-- The limits that runs of the heap-frame machine pass: PassesStep by the items that a run begins, PassesStack by the bytes of its frames,
-- PassesCell by its threads and counters. total is a sum over the steps of a run, for frame_made and cells_drawn.
use Rattle.std.specs.Prelude.{◌≡◌, ℕ, ◌+◌, ◌<◌, List, [], ◌∷◌, length, ◌⊎◌, Option, Some, None}
use Rattle.st_base.specs.declared.thread.Activation.{Activation}
use Rattle.st_base.specs.declared.thread.Thread.{Thread}
use Rattle.st_model.specs.declared.program.Program.{Program}
use Rattle.st_model.specs.declared.program.Item.{Item}
use Rattle.st_model.specs.declared.program.ItemKind.{ItemKind}
use Rattle.st_model.specs.declared.program.ItemKind.TheVariants.{Prologue}
use Rattle.st_model.specs.Memory.{Data}
use Rattle.st_model.specs.Draws.{drawn_by}
use Rattle.st_model.specs.Ordinary.{item_at}
use Rattle.st_model.specs.Heap.{Path, Heap, HStep, Run}
use Rattle.st_model.specs.Quiet.{IsGoing}

abbrev pub IsMember : Path → List Path → Type 0
IsMember p [] = ⊥
IsMember p (q ∷ qs) = (p ≡ q) ⊎ IsMember p qs

abbrev pub AreDistinct : List Path → Type 0
AreDistinct [] = Unit {0}
AreDistinct (q ∷ qs) = (IsMember q qs → ⊥) × AreDistinct qs

-- the thread has neither ended nor stopped
abbrev pub IsUnfinished : Heap → Path → Type 0
IsUnfinished h p = (t : Thread) × ((h.thread p ≡ Some t) × IsGoing t.standing)

-- it has not ended and has no step
abbrev pub IsWaiting : Program → Data → Heap → Path → Type 0
IsWaiting program source h p = IsUnfinished h p × ((h' : Heap) → HStep program source h p h' → ⊥)

-- a run begins more than so many items: those of its steps, and the next ones of threads ws that wait at its end
abbrev pub PassesStep : Program → Data → Heap → ℕ → Type 0
PassesStep program source h steps =
    (ps : List Path) × ((h' : Heap) × ((ws : List Path) × (Run program source h ps h' × AreDistinct ws × ((p : Path) → IsMember p ws → IsWaiting program source h' p) × (steps < length ps + length ws))))

-- a sum over the steps of a run, of a number for each that its thread's state gives
abbrev pub total : (program : Program) (source : Data) → (Path → Thread → ℕ) → (h : Heap) (ps : List Path) (h' : Heap) → Run program source h ps h' → ℕ
total program source of h [] h' run = 0
total program source of h (p ∷ ps) h' run = of p run.1.thread + total program source of run.0 ps h' run.2

abbrev pub prologue_bytes : ItemKind → ℕ → ℕ
prologue_bytes Prologue bytes = bytes
prologue_bytes _ bytes = 0

abbrev pub frame_of : Activation → Option Item → ℕ
frame_of top None = 0
frame_of top (Some item) = prologue_bytes item.kind (length top.bytes)

abbrev pub frame_at : Program → List Activation → ℕ
frame_at program [] = 0
frame_at program (top ∷ older) = frame_of top (item_at program top)

-- the frame bytes that a step makes: those of its function at a prologue
abbrev pub frame_made : Program → Path → Thread → ℕ
frame_made program p t = frame_at program t.activations

abbrev pub drawn_at : Program → List Activation → ℕ
drawn_at program [] = 0
drawn_at program (top ∷ older) = drawn_by (item_at program top)

-- the cells that a step draws: one at a fork and at st_counter
abbrev pub cells_drawn : Program → Path → Thread → ℕ
cells_drawn program p t = drawn_at program t.activations

-- the frames of a run's prologues have more than so many bytes together
abbrev pub PassesStack : Program → Data → Heap → ℕ → Type 0
PassesStack program source h stack = (ps : List Path) × ((h' : Heap) × ((run : Run program source h ps h') × (stack < total program source (frame_made program) h ps h' run)))

-- a run draws more than so many cells; the root draws one too
abbrev pub PassesCell : Program → Data → Heap → ℕ → Type 0
PassesCell program source h cells = (ps : List Path) × ((h' : Heap) × ((run : Run program source h ps h') × (cells < 1 + total program source (cells_drawn program) h ps h' run)))
