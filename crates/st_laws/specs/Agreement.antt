-- Where the state of a thread agrees with the ordinary-call run. IsOnRun says that it is the thread's state there after as many steps of its
-- own; else its key is after that of the ordinary run's end, or of a state of it (IsAfter), or it is the thread that waits at the end, past it.
use Rattle.std.specs.Prelude.{◌≡◌, ℕ, ◌<◌, List, [], ◌∷◌, ◌++◌, ◌⊎◌, Some}
use Rattle.std.specs.Ordering.{nat_cmp}
use Rattle.std.specs.declared.cmp.Ordering.TheVariants.{Less}
use Rattle.std.specs.Cmp.Lexicographic.{slice_cmp}
use Rattle.st_base.specs.EventKey.{event_key}
use Rattle.st_base.specs.declared.thread.Standing.TheVariants.{Ended}
use Rattle.st_base.specs.declared.thread.Thread.{Thread}
use Rattle.st_model.specs.declared.program.Program.{Program}
use Rattle.st_model.specs.declared.ordinary.OrdEnd.{OrdEnd}
use Rattle.st_model.specs.declared.ordinary.OrdEnd.TheVariants.{Going, Done, Trap, Waits, OutLimit}
use Rattle.st_model.specs.declared.ordinary.State.{State}
use Rattle.st_model.specs.declared.ordinary.Turn.TheVariants.{Over}
use Rattle.st_model.specs.Ordinary.{step, run, value_of}
use Rattle.st_model.specs.Heap.{Path, Heap, HasEnded, HStep, Run, IsNumbered, steps_of}
use Rattle.st_laws.specs.Sequential.{Stands, Steps}
use Rattle.st_model.specs.Memory.{Data}

-- the event of the thread q after k forks is after that of the thread p after j forks
abbrev pub IsAfter : Path → ℕ → Path → ℕ → Type 0
IsAfter p j q k = slice_cmp nat_cmp (event_key p j) (event_key q k) ≡ Less

-- the ordinary run ends by waiting at a join
abbrev pub IsWait : OrdEnd → Type 0
IsWait Going = ⊥
IsWait (Done out) = ⊥
IsWait (Trap kind line path out) = ⊥
IsWait (Waits line path out) = Unit {0}
IsWait (OutLimit out) = ⊥

-- the ordinary run leads to the heap, by the threads that step
pub record LeadsTo (program : Program) (source : Data) (s : State) (h : Heap) (ps : List Path) (g : Heap) : Type 0 where
  pub state : State
  pub steps : Steps program source s ps state
  pub run : Run program source h ps g
  pub stands : Stands state g

-- the heap is that after the step that ends the ordinary run
pub record EndsIn (program : Program) (source : Data) (s : State) (h : Heap) (ps : List Path) (g : Heap) : Type 0 where
  pub before : List Path
  pub heap : Heap
  pub leads : LeadsTo program source s h before heap
  pub end : OrdEnd
  pub over : step program source leads.state ≡ Over end
  pub whole : ps ≡ before ++ leads.state.rest.thread.path ∷ []
  pub last : HStep program source heap leads.state.rest.thread.path g

-- the thread of the path p has this state in the ordinary run, after so many steps of its own
pub record IsOnRun (program : Program) (source : Data) (s : State) (h : Heap) (p : Path) (own : ℕ) (t : Thread) : Type 0 where
  pub steps : List Path
  pub heap : Heap
  pub ordinary : LeadsTo program source s h steps heap ⊎ EndsIn program source s h steps heap
  pub same : steps_of p steps ≡ own
  pub here : heap.thread p ≡ Some t

-- where the ordinary run has an end, at the state t after the steps ps, each thread of each heap that a run reaches agrees with it: its state is
-- that of the ordinary run after as many steps of its own, or its key is after that of the end, or it is a state of the end's own thread past
-- the step at which the ordinary run waits
abbrev pub AgreesWithEnd : Type 0
AgreesWithEnd =
    (program : Program) (source : Data) (s t : State) (h b : Heap) (ps qs : List Path) (end : OrdEnd) (p : Path) (u : Thread) → IsNumbered h → Stands s h → Steps program source s ps t → step program source t ≡ Over end → Run program source h qs b → b.thread p ≡ Some u → IsOnRun program source s h p (steps_of p qs) u ⊎ (IsAfter t.rest.thread.path t.rest.thread.forks p u.forks ⊎ (IsWait end × (p ≡ t.rest.thread.path) × (steps_of p ps < steps_of p qs)))

-- the same where the ordinary run has no end, for each state t of it: a thread's state is that of the ordinary run after as many steps of its
-- own, or its key is after that of t
abbrev pub AgreesWithoutEnd : Type 0
AgreesWithoutEnd =
    (program : Program) (source : Data) (s t : State) (h b : Heap) (ps qs : List Path) (p : Path) (u : Thread) → IsNumbered h → Stands s h → ((n : ℕ) → run program source n s ≡ Some Going) → Run program source h qs b → b.thread p ≡ Some u → Steps program source s ps t → IsOnRun program source s h p (steps_of p qs) u ⊎ IsAfter t.rest.thread.path t.rest.thread.forks p u.forks

-- an ended thread that is as in the ordinary run has the value that the ordinary run gives it
abbrev pub ValueAgrees : Type 0
ValueAgrees =
    (program : Program) (source : Data) (s : State) (h g : Heap) (ps : List Path) (p : Path) (u : Thread) (v : ℕ) → (l : LeadsTo program source s h ps g) → g.thread p ≡ Some u → u.standing ≡ Ended v → value_of l.state.rest.ended p ≡ Some v

-- a thread that has ended in a heap that a run reaches has the value that the ordinary run records for its path, where it records one
abbrev pub EndedAgrees : Type 0
EndedAgrees =
    (program : Program) (source : Data) (s t : State) (h b : Heap) (ps qs : List Path) (p : Path) (v w : ℕ) → IsNumbered h → Stands s h → Steps program source s ps t → Run program source h qs b → HasEnded b p v → value_of t.rest.ended p ≡ Some w → v ≡ w
