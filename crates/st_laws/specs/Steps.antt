-- The order of the threads' steps does not matter: Diamond for two steps, OneHistory and OneQuiet for whole runs, KeepsStep for a step that is
-- put off. So a quiet heap, its answer and its counted bytes are one, whatever run leads to it: OneQuiet and OneAnswer. Any two runs from one
-- start can be led to one end (LedTogether), are at one end where each thread makes as many steps (SameSteps), and have no more steps of a
-- thread than one to a quiet heap (StepsWithin).
use Rattle.st_base.specs.declared.thread.Thread.{Thread}
use Rattle.st_model.specs.Heap.{Heap, Path, HStep, Run, IsNumbered, steps_of, Reached}
use Rattle.st_model.specs.Memory.{Data}
use Rattle.st_model.specs.Quiet.{IsQuiet, AreInOrder, QuietAnswer, IsAnswer}
use Rattle.st_model.specs.declared.program.Program.{Program}
use Rattle.std.specs.Prelude.{◌≤◌, ◌≡◌, ◌+◌, ℕ, List, Some, ◌≢◌, max}

-- steps of two threads can be made in either order
abbrev pub Diamond : Type 0
Diamond =
    (program : Program) (source : Data) (h : Heap) (p q : Path) (hp hq : Heap) → IsNumbered h → p ≢ q → HStep program source h p hp → HStep program source h q hq → (both : Heap) × HStep program source hp q both × HStep program source hq p both

-- all quiet states that are reached from one start are the same
abbrev pub OneQuiet : Type 0
OneQuiet =
    (program : Program) (source : Data) (h : Heap) (ps qs : List Path) (a b : Heap) → IsNumbered h → Run program source h ps a → Run program source h qs b → IsQuiet program source a → IsQuiet program source b → a ≡ b

-- a thread's state is determined by how many steps it has made
abbrev pub OneHistory : Type 0
OneHistory =
    (program : Program) (source : Data) (h : Heap) (ps qs : List Path) (a b : Heap) (p : Path) (t u : Thread) → IsNumbered h → Run program source h ps a → Run program source h qs b → steps_of p ps ≡ steps_of p qs → a.thread p ≡ Some t → b.thread p ≡ Some u → t ≡ u

-- a thread that has made more steps has made no fewer forks
abbrev pub LaterForks : Type 0
LaterForks =
    (program : Program) (source : Data) (h : Heap) (ps qs : List Path) (a b : Heap) (p : Path) (t u : Thread) → IsNumbered h → Run program source h ps a → Run program source h qs b → steps_of p ps ≤ steps_of p qs → a.thread p ≡ Some t → b.thread p ≡ Some u → t.forks ≤ u.forks

-- in each reached heap the root's bytes stand in the order of its forks; so those that count are the first ones
abbrev pub BytesAreInOrder : Type 0
BytesAreInOrder = (program : Program) (source : Data) (h : Heap) → Reached program source h → AreInOrder h.out

-- a thread that has a step keeps it until it makes it
abbrev pub KeepsStep : Type 0
KeepsStep =
    (program : Program) (source : Data) (h hp h' : Heap) (p : Path) (qs : List Path) → IsNumbered h → HStep program source h p hp → Run program source h qs h' → steps_of p qs ≡ 0 → (end : Heap) × HStep program source h' p end

-- all quiet heaps that are reached from one start have one answer, and one list of counted bytes
abbrev pub OneAnswer : Type 0
OneAnswer =
    (program : Program) (source : Data) (h : Heap) (ps qs : List Path) (a b : Heap) (answer other : QuietAnswer) (out more : List ℕ) → IsNumbered h → Run program source h ps a → Run program source h qs b → IsQuiet program source a → IsQuiet program source b → IsAnswer program a answer out → IsAnswer program b other more → (answer ≡ other) × (out ≡ more)

-- a thread has one step at most
abbrev pub OneStep : Type 0
OneStep = (program : Program) (source : Data) (h a b : Heap) (p : Path) → HStep program source h p a → HStep program source h p b → a ≡ b

-- two heaps are led to one end, each thread making the steps of the one where it had made more
pub record Joined (program : Program) (source : Data) (a b : Heap) (ps qs : List Path) : Type 0 where
  pub end : Heap
  pub more_a : List Path
  pub more_b : List Path
  pub run_a : Run program source a more_a end
  pub run_b : Run program source b more_b end
  pub steps_a : (r : Path) → steps_of r ps + steps_of r more_a ≡ max (steps_of r ps) (steps_of r qs)
  pub steps_b : (r : Path) → steps_of r qs + steps_of r more_b ≡ max (steps_of r ps) (steps_of r qs)

-- the ends of two runs from one start can be led together
abbrev pub LedTogether : Type 0
LedTogether =
    (program : Program) (source : Data) (h : Heap) (ps qs : List Path) (a b : Heap) → IsNumbered h → Run program source h ps a → Run program source h qs b → Joined program source a b ps qs

-- two runs from one start in which each thread makes as many steps have one end
abbrev pub SameSteps : Type 0
SameSteps =
    (program : Program) (source : Data) (h : Heap) (ps qs : List Path) (a b : Heap) → IsNumbered h → Run program source h ps a → Run program source h qs b → ((r : Path) → steps_of r ps ≡ steps_of r qs) → a ≡ b

-- no thread makes more steps in a run than in one to a quiet heap
abbrev pub StepsWithin : Type 0
StepsWithin =
    (program : Program) (source : Data) (h a b : Heap) (ps qs : List Path) (p : Path) → IsNumbered h → Run program source h ps a → Run program source h qs b → IsQuiet program source b → steps_of p ps ≤ steps_of p qs
