-- The ordinary-call run as a run of the heap-frame machine in which the newest thread steps. Stands says that a heap has just the threads,
-- values, counts and bytes of a state of the ordinary run; Steps is a list of that run's steps, by the threads that are the newest at each.
use Rattle.std.specs.Prelude.{ℕ, ◌≡◌, cond, List, [], ◌∷◌, ◌++◌, length, ◌⊎◌, ◌≤◌, Option, Some, None}
use Rattle.st_base.specs.declared.reg.Reg.{Reg}
use Rattle.st_base.specs.declared.thread.Held.TheVariants.{Future}
use Rattle.st_base.specs.declared.thread.Activation.{Activation}
use Rattle.st_base.specs.declared.thread.ActivationKind.TheVariants.{Called}
use Rattle.st_base.specs.declared.thread.Standing.TheVariants.{Going, Ended}
use Rattle.st_base.specs.declared.thread.Thread.{Thread}
use Rattle.st_base.specs.Registers.{write_register}
use Rattle.st_model.specs.declared.program.Program.{Program}
use Rattle.st_model.specs.declared.output.Printed.{Printed}
use Rattle.st_model.specs.declared.ordinary.Tally.{Tally}
use Rattle.st_model.specs.declared.ordinary.Rest.{Rest}
use Rattle.st_model.specs.declared.ordinary.State.{State}
use Rattle.st_model.specs.declared.ordinary.Turn.TheVariants.{Goes}
use Rattle.st_model.specs.Effect.{File, IsFirst}
use Rattle.st_model.specs.Ordinary.{step, start, is_root, value_of, count_of}
use Rattle.st_model.specs.Heap.{Heap, Path, HStep, HasEnded, IsNumbered, Run, steps_of, first_heap}
use Rattle.st_model.specs.Quiet.{bytes_of}
use Rattle.st_model.specs.Memory.{Data}

-- the activations of one thread: the oldest is its first, the others were called
abbrev pub AreFrames : Activation → List Activation → Type 0
AreFrames top [] = IsFirst top.kind
AreFrames top (a ∷ older) = (top.kind ≡ Called) × AreFrames a older

-- what the oldest one keeps
abbrev pub first_kept : Activation → List Activation → File
first_kept top [] = top.kept
first_kept top (a ∷ older) = first_kept a older

-- how many bytes the thread has printed: only the root prints
abbrev pub root_bytes : Path → ℕ → ℕ
root_bytes p out = cond (is_root p) out 0

-- the thread of the heap-frame machine that has these activations, registers and tallies
abbrev pub thread_of : Activation → List Activation → File → Tally → ℕ → Thread
thread_of top mine file tally out =
    record {
      activations = top ∷ mine;
      registers = file;
      forks = tally.forks;
      counters = tally.counters;
      bytes = root_bytes tally.path out;
      standing = Going;
    }

-- a thread of the list that waits for its child to return
pub record Suspended (h : Heap) (out : ℕ) (others : List Activation) (parent : Tally) (kept : File) (handle : Reg) (child : Path) : Type 0 where
  pub number : ℕ
  pub top : Activation
  pub mine : List Activation
  pub rest : List Activation
  pub name : child ≡ parent.path ++ number ∷ []
  pub split : others ≡ top ∷ (mine ++ rest)
  pub frames : AreFrames top mine
  pub here : h.thread parent.path ≡ Some (thread_of top mine (write_register kept handle (Future child)) parent out)

-- all threads of the list of parents, each the one whose child is above it
abbrev pub Below : Heap → ℕ → List Activation → List Tally → File → Reg → Path → Type 0
Below h out others [] kept handle child = Unit {0}
Below h out others (parent ∷ parents) kept handle child =
    (s : Suspended h out others parent kept handle child) × Below h out s.rest parents (first_kept s.top s.mine) parent.handle parent.path

-- the path is of one of these threads
abbrev pub IsAmong : Path → List Tally → Type 0
IsAmong p [] = ⊥
IsAmong p (t ∷ ts) = (p ≡ t.path) ⊎ IsAmong p ts

-- where the thread of a path stands in the ordinary state: it has ended, or it is the newest one, or it waits for its child to return
abbrev pub Placed : Rest → Path → Thread → Type 0
Placed rest p t =
    ((v : ℕ) × (t.standing ≡ Ended v) × (value_of rest.ended p ≡ Some v)) ⊎ ((p ≡ rest.thread.path) ⊎ IsAmong p rest.parents)

-- the paths of the ordinary state's threads
abbrev pub IsIn : Rest → Path → Type 0
IsIn rest p = ((v : ℕ) × (value_of rest.ended p ≡ Some v)) ⊎ ((p ≡ rest.thread.path) ⊎ IsAmong p rest.parents)

-- after how many forks of its own, at most, the root has printed what comes before an event of the thread p after j forks
abbrev pub last_print : Path → ℕ → ℕ
last_print [] j = j
last_print (k ∷ p) j = k

-- each byte was printed after at most n forks of the root
abbrev pub AreEarly : ℕ → List Printed → Type 0
AreEarly n [] = Unit {0}
AreEarly n (b ∷ bs) = (b.forks ≤ n) × AreEarly n bs

-- the heap has just the threads, values, counts and bytes of the ordinary state
pub record Facts (rest : Rest) (h : Heap) : Type 0 where
  pub ended : (p : Path) (v : ℕ) → value_of rest.ended p ≡ Some v → HasEnded h p v
  pub whole : (p : Path) (t : Thread) → h.thread p ≡ Some t → Placed rest p t
  pub counts : (p : Path) (n : ℕ) → count_of rest.counts p n ≡ h.count p n
  pub printed : bytes_of h.out ≡ rest.out
  pub early : AreEarly (last_print rest.thread.path rest.thread.forks) h.out

-- the heap has the threads of the ordinary state
pub record Stands (s : State) (h : Heap) : Type 0 where
  pub mine : List Activation
  pub others : List Activation
  pub split : s.rest.older ≡ mine ++ others
  pub frames : AreFrames s.top mine
  pub here : h.thread s.rest.thread.path ≡ Some (thread_of s.top mine s.registers s.rest.thread (length s.rest.out))
  pub below : Below h (length s.rest.out) others s.rest.parents (first_kept s.top mine) s.rest.thread.handle s.rest.thread.path
  pub facts : Facts s.rest h

-- each step of the ordinary run is a step of its newest thread
abbrev pub IsSequential : Type 0
IsSequential =
    (program : Program) (source : Data) (s t : State) (h : Heap) → IsNumbered h → Stands s h → step program source s ≡ Goes t → (h' : Heap) × HStep program source h s.rest.thread.path h' × Stands t h'

-- steps of the ordinary run, by the threads that are the newest at each
abbrev pub Steps : Program → Data → State → List Path → State → Type 0
Steps program source s [] t = s ≡ t
Steps program source s (p ∷ ps) t = (p ≡ s.rest.thread.path) × ((mid : State) × (step program source s ≡ Goes mid) × Steps program source mid ps t)

-- after as many steps of its own, a thread of the heap-frame machine is as it is in the ordinary run
abbrev pub AllAgree : Type 0
AllAgree =
    (program : Program) (source : Data) (s t : State) (h b : Heap) (ps qs : List Path) → IsNumbered h → Stands s h → Steps program source s ps t → Run program source h qs b → (g : Heap) × Stands t g × ((p : Path) (u w : Thread) → steps_of p ps ≡ steps_of p qs → b.thread p ≡ Some u → g.thread p ≡ Some w → u ≡ w)

-- the first state stands in the first heap
abbrev pub FirstStands : Option State → Type 0
FirstStands None = Unit {0}
FirstStands (Some s) = Stands s (first_heap s) × IsNumbered (first_heap s)

-- the heap of the root alone has the first state's thread; so the laws that speak of any such heap speak of the runs of a program
abbrev pub StartStands : Type 0
StartStands = (program : Program) (source : Data) → FirstStands (start program source)
