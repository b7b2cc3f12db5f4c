-- What a step of the board leaves of a worker that fits its board's view, beside its threads. Read NoItemLaws (a step with which no item goes), Untouched and OffStackLaws (a step that touches neither
-- stack words nor frames), SameNumbers and NumberLaws (what each step leaves), and KeepingLaws (what a worker is for, and what it keeps).
use Rattle.std.specs.Prelude.{false, ◌≡◌, ℕ, List, ◌++◌, length}
use Rattle.std.specs.List.{Contains}
use Rattle.st_base.specs.declared.image.Image.{Image}
use Rattle.st_base.specs.declared.limits.Limits.{Limits}
use Rattle.st_words.specs.declared.view.CellWord.TheVariants.{Owner}
use Rattle.st_words.specs.declared.view.View.{View}
use Rattle.st_words.specs.Safely.{Safe}
use Rattle.st_words.specs.Steps.{Step, StackStore, Mark, Look, CellStore, CellChange, OutStore, SlotTake, SlotPut, Answer}
use Rattle.st_model.specs.declared.program.Program.{Program}
use Rattle.st_model.specs.Memory.{Data}
use Rattle.st_chain.specs.Laws.{HasNames}
use Rattle.st_chain.specs.Taking.{notes_of}
use Rattle.st_seats.specs.Placing.{AreOnce}
use Rattle.st_run.specs.Meanings.{meaning}
use Rattle.st_phases.specs.declared.automaton.Automaton.{Automaton}
use Rattle.st_phases.specs.declared.phase.Phase.{Phase}
use Rattle.st_phases.specs.Automaton.{with_phase}
use Rattle.st_fits.specs.Before.{after}
use Rattle.st_fits.specs.Fits.{IsFor, Holds, taken_of, most_items, is_taking}
use Rattle.st_fits.specs.Laws.{MayAsk}

-- ---- steps without an item

-- no item goes with it, whatever is answered
abbrev pub HasNoItem : Step → Type 0
HasNoItem (CellChange c old new) = ⊥
HasNoItem (CellStore c Owner n) = ⊥
HasNoItem (OutStore i n) = ⊥
HasNoItem _ = Prim.Unit

pub record NoItemLaws (p : Program) (d : Data) (limits : Limits) : Type 0 where
  pub asks : (u : View) (s : Step) → HasNoItem s → Safe (meaning p d limits) u s → MayAsk p d limits u s
  pub threads : (u : View) (s : Step) (a : Answer) → HasNoItem s → (after p d u s a).threads ≡ u.threads

-- ---- what each step leaves

-- the worker's number, those of the board, how many words there are, and the two numbers of items and of frame bytes
pub record SameNumbers (u v : View) : Type 0 where
  pub number : v.number ≡ u.number
  pub workers : v.workers ≡ u.workers
  pub cells : v.cells ≡ u.cells
  pub each : v.each ≡ u.each
  pub words : length v.held ≡ length u.held
  pub items : v.items ≡ u.items
  pub frame_bytes : v.frame_bytes ≡ u.frame_bytes

-- it neither changes words of stacks nor moves frames
abbrev pub IsOffStack : Step → Type 0
IsOffStack (StackStore q n) = ⊥
IsOffStack (Mark q) = ⊥
IsOffStack (Look q) = ⊥
IsOffStack (SlotTake slot) = ⊥
IsOffStack (SlotPut slot chain cargo) = ⊥
IsOffStack _ = Prim.Unit

-- the words and frames stay, and the names that were known are
pub record Untouched (u v : View) : Type 0 where
  pub number : v.number ≡ u.number
  pub workers : v.workers ≡ u.workers
  pub cells : v.cells ≡ u.cells
  pub each : v.each ≡ u.each
  pub held : v.held ≡ u.held
  pub exported : v.exported ≡ u.exported
  pub away : v.away ≡ u.away
  pub items : v.items ≡ u.items
  pub frame_bytes : v.frame_bytes ≡ u.frame_bytes
  pub names : HasNames u.names v.names

pub record LeavingLaws (p : Program) (d : Data) : Type 0 where
  pub numbers : (u : View) (s : Step) (a : Answer) → SameNumbers u (after p d u s a)
  pub untouched : (u : View) (s : Step) (a : Answer) → IsOffStack s → Untouched u (after p d u s a)

-- ---- what a worker is for, and what it keeps

-- what says what it is for is the same
pub record SameUse (x y : Automaton) : Type 0 where
  pub number : y.number ≡ x.number
  pub code : y.code ≡ x.code
  pub length_is : y.length ≡ x.length
  pub steps : y.steps ≡ x.steps
  pub cells : y.cells ≡ x.cells
  pub room : y.threads.room ≡ x.threads.room
  pub ready_room : y.ready.room ≡ x.ready.room
  pub lo : y.stack.lo ≡ x.stack.lo
  pub hi : y.stack.hi ≡ x.stack.hi
  pub low : y.machine.lo ≡ x.machine.lo
  pub high : y.machine.hi ≡ x.machine.hi

-- what it keeps of its board and of itself, beside its notes, its ready numbers and its request
pub record SameKept (x y : Automaton) : Type 0 where
  pub number : y.number ≡ x.number
  pub workers : y.workers ≡ x.workers
  pub cells : y.cells ≡ x.cells
  pub items : y.items ≡ x.items
  pub frame_bytes : y.frame_bytes ≡ x.frame_bytes
  pub exported : y.stack.exported ≡ x.stack.exported
  pub last : y.last ≡ x.last
  pub machine : y.machine ≡ x.machine
  pub most : (n : ℕ) → most_items y.phase n ≡ most_items x.phase n
  pub opened : y.threads.open ≡ x.threads.open
  pub taking : is_taking y.phase ≡ false → is_taking x.phase ≡ false

-- its notes, its ready numbers and its request, of the view
pub record HoldsOwn (x : Automaton) (u : View) : Type 0 where
  pub notes : x.threads.notes ≡ notes_of u.threads
  pub ready_once : AreOnce (taken_of x.phase ++ x.ready.numbers)
  pub ready : (c : ℕ) → Contains (taken_of x.phase ++ x.ready.numbers) c → Contains u.ready c
  pub all_ready : (c : ℕ) → Contains u.ready c → Contains (taken_of x.phase ++ x.ready.numbers) c
  pub asked : u.asked ≡ x.asked

pub record KeepingLaws (p : Program) (d : Data) (limits : Limits) (image : Image) (input : List ℕ) : Type 0 where
  pub same_for : (x y : Automaton) → IsFor p d limits image input x → SameUse x y → IsFor p d limits image input y
  pub for_with_phase : (x : Automaton) (phase : Phase) → IsFor p d limits image input x → IsFor p d limits image input (with_phase phase x)
  -- the request of one that asks now is given beside
  pub same_holds : (x y : Automaton) (u v : View) → Holds limits x u → SameNumbers u v → v.exported ≡ u.exported → SameKept x y → HoldsOwn y v → y.asked ≡ x.asked → Holds limits y v
  pub holds_with_phase : (x : Automaton) (u v : View) (phase : Phase) → Holds limits x u → SameNumbers u v → v.exported ≡ u.exported → v.threads ≡ u.threads → v.ready ≡ u.ready → v.asked ≡ u.asked → taken_of phase ≡ taken_of x.phase → ((n : ℕ) → most_items phase n ≡ most_items x.phase n) → (is_taking phase ≡ false → is_taking x.phase ≡ false) → Holds limits (with_phase phase x) v
