-- Items that were begun, and limits. A limit that is less than the number of items begun is one that some run passes: BegunPassStep, and
-- BegunPassSums for the frame bytes and cells of items that can be made (BegunAdd for any sum). What a run to a quiet heap stays within no run
-- passes: BegunWithin and DoneWithin for items, TotalsWithin for the sums of frame_made and cells_drawn. The ordinary-call run that is Done is
-- such a run (DoneIsQuiet), so what its own sums keep no run passes: DoneKeepsLimits.
use Rattle.std.specs.Prelude.{◌≡◌, ℕ, ◌+◌, ◌<◌, List, [], ◌∷◌, ◌++◌, length, ◌⊎◌, Option, None, Some, ◌≤◌}
use Rattle.st_base.specs.declared.thread.Activation.{Activation}
use Rattle.st_model.specs.declared.program.Program.{Program}
use Rattle.st_model.specs.declared.ordinary.OrdEnd.TheVariants.{Done}
use Rattle.st_model.specs.declared.ordinary.State.{State}
use Rattle.st_model.specs.declared.ordinary.Turn.TheVariants.{Over}
use Rattle.st_model.specs.Ordinary.{start, step, ordinary_run}
use Rattle.st_model.specs.Heap.{Path, Heap, HStep, Run, IsNumbered, steps_of, first_heap}
use Rattle.st_model.specs.Memory.{Data}
use Rattle.st_model.specs.Limits.{AreDistinct, IsMember, PassesStep, PassesStack, PassesCell, frame_at, drawn_at, frame_made, cells_drawn, IsUnfinished, IsWaiting, total}
use Rattle.st_base.specs.declared.thread.Thread.{Thread}
use Rattle.st_model.specs.Quiet.{IsQuiet}
use Rattle.st_laws.specs.Sequential.{Steps}

-- each thread whose next item was begun makes it in a longer run, or waits at its end; no other thread makes a step
pub record AreMade (program : Program) (source : Data) (h : Heap) (begun : List Path) : Type 0 where
  pub more : List Path
  pub end : Heap
  pub run : Run program source h more end
  pub made : (p : Path) → IsMember p begun → (steps_of p more ≡ 1) ⊎ ((steps_of p more ≡ 0) × IsWaiting program source end p)
  pub others : (p : Path) → (IsMember p begun → ⊥) → steps_of p more ≡ 0

-- items that were begun are made in a longer run, or wait at its end
abbrev pub BegunAreMade : Type 0
BegunAreMade =
    (program : Program) (source : Data) (h : Heap) (begun : List Path) → IsNumbered h → ((p : Path) → IsMember p begun → IsUnfinished h p) → AreMade program source h begun

-- no run begins more items than one to a quiet heap, with the threads that have not ended there: such a run has the steps ps and, begun at its
-- end, one more item of each thread in ws
abbrev pub BegunWithin : Type 0
BegunWithin =
    (program : Program) (source : Data) (h a b : Heap) (ps qs ws left : List Path) → IsNumbered h → Run program source h ps a → AreDistinct ws → ((p : Path) → IsMember p ws → IsUnfinished a p) → Run program source h qs b → IsQuiet program source b → ((p : Path) → IsUnfinished b p → IsMember p left) → length ps + length ws ≤ length qs + length left

-- where the ordinary run is Done in n steps, no run begins more than n items
abbrev pub DoneWithin : Type 0
DoneWithin =
    (program : Program) (source : Data) (s : State) (n : ℕ) (out : List ℕ) → start program source ≡ Some s → ordinary_run program source n ≡ Some (Done out) → PassesStep program source (first_heap s) n → ⊥

-- where the steps of a run and the items that were begun at its end are more than so many, some run passes that limit
abbrev pub BegunPassStep : Type 0
BegunPassStep =
    (program : Program) (source : Data) (h h' : Heap) (ps begun : List Path) (steps : ℕ) → IsNumbered h → Run program source h ps h' → AreDistinct begun → ((p : Path) → IsMember p begun → IsUnfinished h' p) → steps < length ps + length begun → PassesStep program source h steps

-- no sum over the steps of a run is greater than that of a run to a quiet heap; so a limit that any run passes is passed by each run to a quiet heap
abbrev pub TotalsWithin : Type 0
TotalsWithin =
    (program : Program) (source : Data) (of : Path → Thread → ℕ) (h : Heap) (ps qs : List Path) (a b : Heap) (r : Run program source h ps a) (q : Run program source h qs b) → IsNumbered h → IsQuiet program source b → total program source of h ps a r ≤ total program source of h qs b q

-- a limit of frame bytes or of cells that some run passes is passed by each run to a quiet heap
abbrev pub QuietPasses : Type 0
QuietPasses =
    (program : Program) (source : Data) (h b : Heap) (qs : List Path) (q : Run program source h qs b) (limit : ℕ) → IsNumbered h → IsQuiet program source b → (PassesStack program source h limit → limit < total program source (frame_made program) h qs b q) × (PassesCell program source h limit → limit < 1 + total program source (cells_drawn program) h qs b q)

abbrev pub sum_thread : (Path → Thread → ℕ) → Path → Option Thread → ℕ
sum_thread of p None = 0
sum_thread of p (Some t) = of p t

-- the sum over the next items of these threads
abbrev pub sum_next : (Path → Thread → ℕ) → Heap → List Path → ℕ
sum_next of h [] = 0
sum_next of h (p ∷ ps) = sum_thread of p (h.thread p) + sum_next of h ps

-- each of these threads has a step
abbrev pub HaveSteps : Program → Data → Heap → List Path → Type 0
HaveSteps program source h begun = (p : Path) → IsMember p begun → (g : Heap) × HStep program source h p g

-- items that were begun by threads that have a step add to each sum of some longer run
abbrev pub BegunAdd : Type 0
BegunAdd =
    (program : Program) (source : Data) (of : Path → Thread → ℕ) (h h' : Heap) (ps begun : List Path) (run : Run program source h ps h') → IsNumbered h → AreDistinct begun → HaveSteps program source h' begun → (more : List Path) × ((g : Heap) × ((longer : Run program source h more g) × (total program source of h ps h' run + sum_next of h' begun ≤ total program source of h more g longer)))

-- a limit of frame bytes or of cells that is less than a run's sum with those of items begun at its end is one that some run passes
abbrev pub BegunPassSums : Type 0
BegunPassSums =
    (program : Program) (source : Data) (h h' : Heap) (ps begun : List Path) (run : Run program source h ps h') (limit : ℕ) → IsNumbered h → AreDistinct begun → HaveSteps program source h' begun → (limit < total program source (frame_made program) h ps h' run + sum_next (frame_made program) h' begun → PassesStack program source h limit) × (limit < 1 + total program source (cells_drawn program) h ps h' run + sum_next (cells_drawn program) h' begun → PassesCell program source h limit)

-- an ordinary run that is Done at the state t is itself a run to a quiet heap
abbrev pub DoneIsQuiet : Type 0
DoneIsQuiet =
    (program : Program) (source : Data) (s t : State) (ps : List Path) (out : List ℕ) → start program source ≡ Some s → Steps program source s ps t → step program source t ≡ Over (Done out) → (h : Heap) × (Run program source (first_heap s) (ps ++ t.rest.thread.path ∷ []) h × IsQuiet program source h)

-- a sum over the steps of the ordinary run, of a number that the newest activation of each gives
abbrev pub ordinary_sum : (program : Program) (source : Data) → (List Activation → ℕ) → (s : State) (ps : List Path) (t : State) → Steps program source s ps t → ℕ
ordinary_sum program source of s [] t steps = 0
ordinary_sum program source of s (p ∷ ps) t steps = of (s.top ∷ []) + ordinary_sum program source of steps.1.0 ps t steps.1.2

-- where the ordinary run is Done at the state t, no run passes a limit of frame bytes or of cells that its own sums keep
abbrev pub DoneKeepsLimits : Type 0
DoneKeepsLimits =
    (program : Program) (source : Data) (s t : State) (ps : List Path) (out : List ℕ) (steps : Steps program source s ps t) (limit : ℕ) → start program source ≡ Some s → step program source t ≡ Over (Done out) → (PassesStack program source (first_heap s) limit → limit < ordinary_sum program source (frame_at program) s ps t steps + frame_at program (t.top ∷ [])) × (PassesCell program source (first_heap s) limit → limit < 1 + ordinary_sum program source (drawn_at program) s ps t steps + drawn_at program (t.top ∷ []))
