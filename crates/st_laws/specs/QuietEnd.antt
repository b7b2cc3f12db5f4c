-- What a quiet heap says of the ordinary-call run. Read QuietIsOrdinary: where the ordinary run never waits, a quiet heap's answer and counted
-- bytes are its end (IsEnd). The others tell what else there is in a quiet heap: who has ended, what is left, and how many threads there are.
use Rattle.std.specs.Prelude.{◌≡◌, ◌≢◌, ℕ, ◌+◌, List, length, Some, ◌∷◌, map}
use Rattle.st_model.specs.declared.program.Program.{Program}
use Rattle.st_model.specs.declared.ordinary.State.{State}
use Rattle.st_model.specs.declared.ordinary.OrdEnd.{OrdEnd}
use Rattle.st_model.specs.declared.ordinary.OrdEnd.TheVariants.{Going as EndGoing, Done as EndDone, Trap as EndTrap, Waits as EndWaits, OutLimit as EndOutLimit}
use Rattle.st_model.specs.Ordinary.{value_of, ordinary_run, EndsWith, step, NeverWaits}
use Rattle.st_laws.specs.Sequential.{Steps, IsIn, Stands}
use Rattle.st_model.specs.Heap.{Heap, Path, HasEnded, Run, IsNumbered, Reached}
use Rattle.st_laws.specs.Agreement.{IsWait, IsAfter}
use Rattle.st_model.specs.Quiet.{Done, Trap, OutLimit, IsQuiet, IsGoing, IsAnswer, QuietAnswer}
use Rattle.st_model.specs.Memory.{Data}
use Rattle.st_base.specs.declared.thread.Thread.{Thread}
use Rattle.st_model.specs.declared.ordinary.Turn.TheVariants.{Over}
use Rattle.st_model.specs.Limits.{IsMember, AreDistinct}
use Rattle.st_laws.specs.Names.{IsThread}
use Rattle.st_model.specs.Accepted.{IsAccepted}

-- the answer is the ordinary run's end
abbrev pub IsEnd : Program → Heap → OrdEnd → Type 0
IsEnd program h EndGoing = ⊥
IsEnd program h (EndDone out) = IsAnswer program h Done out
IsEnd program h (EndTrap kind line path out) = IsAnswer program h (Trap kind line path) out
IsEnd program h (EndWaits line path out) = ⊥
IsEnd program h (EndOutLimit out) = IsAnswer program h OutLimit out

-- a quiet heap gives the end of an ordinary run that doesn't end by waiting
abbrev pub QuietGivesEnd : Type 0
QuietGivesEnd =
    (program : Program) (source : Data) (n : ℕ) (end : OrdEnd) (h : Heap) → ordinary_run program source n ≡ Some end → end ≢ EndGoing → (IsWait end → ⊥) → Reached program source h → IsQuiet program source h → IsEnd program h end

-- where there is a quiet heap, the ordinary run of an accepted program has an end, after no more steps than the quiet heap's run and one
abbrev pub QuietHasEnd : Type 0
QuietHasEnd =
    (program : Program) (source : Data) (h : Heap) (r : Reached program source h) → IsAccepted program → IsQuiet program source h → (end : OrdEnd) × ((end ≢ EndGoing) × (ordinary_run program source (length r.steps + 1) ≡ Some end))

-- where the ordinary run of an accepted program never waits, a quiet heap gives its end
abbrev pub QuietIsOrdinary : Type 0
QuietIsOrdinary =
    (program : Program) (source : Data) (h : Heap) → IsAccepted program → NeverWaits program source → Reached program source h → IsQuiet program source h → (end : OrdEnd) × (EndsWith program source end × IsEnd program h end)

-- where the answer is Done, each path of the ordinary run has ended, with the value that the ordinary run gives it
abbrev pub QuietRanAll : Type 0
QuietRanAll =
    (program : Program) (source : Data) (t : State) (h : Heap) (ps : List Path) (p : Path) (out : List ℕ) (r : Reached program source h) → IsQuiet program source h → IsAnswer program h Done out → Steps program source r.first ps t → IsIn t.rest p → (v : ℕ) × (HasEnded h p v × ((w : ℕ) → value_of t.rest.ended p ≡ Some w → w ≡ v))

-- in a quiet heap what hasn't ended is after the end of an ordinary run that doesn't end by waiting
abbrev pub UnfinishedIsAfter : Type 0
UnfinishedIsAfter =
    (program : Program) (source : Data) (s t : State) (h b : Heap) (ps qs : List Path) (end : OrdEnd) (p : Path) (u : Thread) → IsNumbered h → Stands s h → Steps program source s ps t → step program source t ≡ Over end → (IsWait end → ⊥) → Run program source h qs b → IsQuiet program source b → b.thread p ≡ Some u → IsGoing u.standing → IsAfter t.rest.thread.path t.rest.thread.forks p u.forks

-- a list of all threads of a heap, each once
pub record AreThreads (h : Heap) (ts : List Path) : Type 0 where
  pub distinct : AreDistinct ts
  pub there : (p : Path) → IsMember p ts → IsThread h p
  pub all : (p : Path) → IsThread h p → IsMember p ts

-- where the ordinary run is Done at the state t, a quiet heap has just its threads: those that have ended before, and the root
abbrev pub ThreadsAreCounted : Type 0
ThreadsAreCounted =
    (program : Program) (source : Data) (t : State) (ps : List Path) (out : List ℕ) (h : Heap) (r : Reached program source h) → Steps program source r.first ps t → step program source t ≡ Over (EndDone out) → IsQuiet program source h → AreThreads h (t.rest.thread.path ∷ map (λ e. e.path) t.rest.ended)

-- each heap that a run of an accepted program reaches has an answer
abbrev pub HasAnswer : Type 0
HasAnswer =
    (program : Program) (source : Data) (h : Heap) → IsAccepted program → Reached program source h → (answer : QuietAnswer) × ((out : List ℕ) × IsAnswer program h answer out)
