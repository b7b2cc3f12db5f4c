-- What a run leaves as it is. A heap that a run reaches is numbered (ReachedIsNumbered, RunIsNumbered), so the laws that ask for this hold of
-- it. A value that was seen stays (EndedStays), a count doesn't fall (CountsGrow), and so what was seen of a heap holds of each later one
-- (SeenStays), and an item that can be made by it can be made (SeenEnables). The steps of others leave a thread as it is: OtherStays for one
-- step, Rests for a run.
use Rattle.std.specs.Prelude.{◌≡◌, ◌≢◌, ◌≤◌, ℕ, List, Option, Some}
use Rattle.st_base.specs.declared.thread.Thread.{Thread}
use Rattle.st_model.specs.declared.program.Program.{Program}
use Rattle.st_model.specs.Memory.{Data}
use Rattle.st_model.specs.Heap.{Path, Heap, Change, Move, Enabled, EnabledBy, HStep, Run, HasEnded, IsNumbered, Reached, steps_of}

-- in a reached heap the children of each thread have the numbers below its forks
abbrev pub ReachedIsNumbered : Type 0
ReachedIsNumbered = (program : Program) (source : Data) (h : Heap) → Reached program source h → IsNumbered h

-- the same of a run from any heap that is numbered
abbrev pub RunIsNumbered : Type 0
RunIsNumbered = (program : Program) (source : Data) (h h' : Heap) (ps : List Path) → IsNumbered h → Run program source h ps h' → IsNumbered h'

-- a thread that has ended stays so, with its value
abbrev pub EndedStays : Type 0
EndedStays =
    (program : Program) (source : Data) (h h' : Heap) (ps : List Path) (p : Path) (v : ℕ) → IsNumbered h → Run program source h ps h' → HasEnded h p v → HasEnded h' p v

-- no count falls
abbrev pub CountsGrow : Type 0
CountsGrow = (program : Program) (source : Data) (h h' : Heap) (ps : List Path) (p : Path) (n : ℕ) → Run program source h ps h' → h.count p n ≤ h'.count p n

-- the values that were seen are the heap's, the counts at most the heap's
pub record IsSeenIn (h : Heap) (value : Path → Option ℕ) (count : Path → ℕ → ℕ) : Type 0 where
  pub values : (p : Path) (v : ℕ) → value p ≡ Some v → HasEnded h p v
  pub counts : (p : Path) (n : ℕ) → count p n ≤ h.count p n

-- what can be done by what was seen can be done
abbrev pub SeenEnables : Type 0
SeenEnables =
    (h : Heap) (value : Path → Option ℕ) (count : Path → ℕ → ℕ) (m : Move) (c : Change) → IsSeenIn h value count → EnabledBy value count m c → Enabled h m c

-- what was seen stays seen
abbrev pub SeenStays : Type 0
SeenStays =
    (program : Program) (source : Data) (h h' : Heap) (ps : List Path) (value : Path → Option ℕ) (count : Path → ℕ → ℕ) → IsNumbered h → Run program source h ps h' → IsSeenIn h value count → IsSeenIn h' value count

-- a step of another thread leaves a thread as it is
abbrev pub OtherStays : Type 0
OtherStays =
    (program : Program) (source : Data) (h h' : Heap) (p q : Path) (t : Thread) → IsNumbered h → h.thread p ≡ Some t → p ≢ q → HStep program source h q h' → h'.thread p ≡ Some t

-- a thread that makes no step of a run is left as it is
abbrev pub Rests : Type 0
Rests =
    (program : Program) (source : Data) (h h' : Heap) (ps : List Path) (p : Path) (t : Thread) → IsNumbered h → Run program source h ps h' → steps_of p ps ≡ 0 → h.thread p ≡ Some t → h'.thread p ≡ Some t
