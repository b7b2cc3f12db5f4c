-- The heap-frame machine: each thread has its own activations and registers, and any thread that can may make the next step. Heap is a
-- state, first_heap the one at the start of a run, HStep one item of one thread, Run a list of steps by the threads that make them, and
-- Reached a run of a program from its start. move is what a thread would do next as it alone sees it, Enabled whether that can be done now,
-- EnabledBy whether it can by values and counts that were seen, and after what it makes of the heap.
use Rattle.std.specs.Prelude.{ℕ, ◌≡◌, ◌≤◌, ◌+◌, Bool, true, false, cond, nat_lt, ◌==◌, ◌&&◌, List, [], ◌∷◌, ◌++◌, Option, Some, None}
use Rattle.std.specs.Str.{bytes_eq}
use Rattle.st_base.specs.declared.reg.Reg.TheVariants.{A0, A6}
use Rattle.st_base.specs.declared.thread.Held.{Held}
use Rattle.st_base.specs.declared.thread.Held.TheVariants.{Number, Future, Counter}
use Rattle.st_base.specs.declared.thread.Activation.{Activation}
use Rattle.st_base.specs.declared.line.Line.{Line}
use Rattle.st_base.specs.declared.thread.TrapKind.{TrapKind}
use Rattle.st_base.specs.declared.thread.TrapKind.TheVariants.{WrongHandle, PutInChild}
use Rattle.st_base.specs.declared.thread.Standing.{Standing}
use Rattle.st_base.specs.declared.thread.Standing.TheVariants.{Going, Ended, Trapped, Full}
use Rattle.st_base.specs.declared.thread.Thread.{Thread}
use Rattle.st_base.specs.Registers.{write_register}
use Rattle.st_model.specs.declared.program.Item.{Item}
use Rattle.st_model.specs.declared.program.Program.{Program}
use Rattle.st_model.specs.declared.output.Printed.{Printed}
use Rattle.st_model.specs.declared.ordinary.State.{State}
use Rattle.st_model.specs.declared.effect.Effect.{Effect}
use Rattle.st_model.specs.declared.effect.Effect.TheVariants.{Undefined, Goes, Calls, Returns, Ends, Traps, Prints, Forks, Touches, Counts, Adds, Joins}
use Rattle.st_model.specs.Memory.{Data}
use Rattle.st_model.specs.Effect.{File, item_effect}
use Rattle.st_model.specs.Ordinary.{item_at, is_root, counted, start}

-- the name of a thread
abbrev pub Path : Type 0
Path = List ℕ

-- all threads by their paths, the counts of all counters by maker and number, and the root's bytes, each with the root's forks at that time
pub record Heap : Type 0 where
  pub thread : Path → Option Thread
  pub count : Path → ℕ → ℕ
  pub out : List Printed

-- what a step changes
pub record Change : Type 0 where
  pub own : Thread
  pub child : Option Thread
  pub added : Option (Path × ℕ)
  pub printed : Option ℕ

-- what a thread would do next
pub data Move : Type 0 where
  Stays : Move
  Moves : Change → Move
  Touch : Path → (ℕ → Change) → Move
  Join : Path → ℕ → ℕ → Change → Move

abbrev pub own : Thread → Change
own t = record { own = t; child = None; added = None; printed = None }

abbrev pub with_frames : Thread → List Activation → File → Thread
with_frames t activations file = record t { activations = activations; registers = file }

abbrev pub trapped_thread : Thread → TrapKind → Line → Thread
trapped_thread t kind line = record t { standing = Trapped kind line }

abbrev pub printed_move : Bool → Bool → ℕ → Thread → Thread → Line → Move
printed_move true true byte t next line = Moves record { own = next; child = None; added = None; printed = Some byte }
printed_move true false byte t next line = Moves (own (record t { standing = Full }))
printed_move false room byte t next line = Moves (own (trapped_thread t PutInChild line))

abbrev pub touch_move : Held → Thread → Thread → Line → Move
touch_move (Number n) t next line = Moves (own (trapped_thread t WrongHandle line))
touch_move (Future q) t next line = Touch q (λ v. own (record next { registers = write_register next.registers A0 (Number v) }))
touch_move (Counter q n) t next line = Moves (own (trapped_thread t WrongHandle line))

abbrev pub add_move : Held → Thread → Thread → Line → Move
add_move (Number n) t next line = Moves (own (trapped_thread t WrongHandle line))
add_move (Future q) t next line = Moves (own (trapped_thread t WrongHandle line))
add_move (Counter q n) t next line = Moves record { own = next; child = None; added = Some (q, n); printed = None }

abbrev pub join_move : Held → ℕ → Thread → Thread → Line → Move
join_move (Number n) least t next line = Moves (own (trapped_thread t WrongHandle line))
join_move (Future q) least t next line = Moves (own (trapped_thread t WrongHandle line))
join_move (Counter q n) least t next line = Join q n least (own next)

abbrev pub new_thread : Activation → File → Thread
new_thread first file = record { activations = first ∷ []; registers = file; forks = 0; counters = 0; bytes = 0; standing = Going }

abbrev pub effect_move : Path → Thread → List Activation → Line → Effect → Move
effect_move p t older line Undefined = Stays
effect_move p t older line (Goes top file) = Moves (own (with_frames t (top ∷ older) file))
effect_move p t older line (Calls top callee file) = Moves (own (with_frames t (callee ∷ top ∷ older) file))
effect_move p t older line (Returns file) = Moves (own (with_frames t older file))
effect_move p t older line (Ends v kept) = Moves (own (record t { standing = Ended v }))
effect_move p t older line (Traps kind) = Moves (own (trapped_thread t kind line))
effect_move p t older line (Prints byte top file) = printed_move (is_root p) (nat_lt t.bytes 1048576) byte t (record (with_frames t (top ∷ older) file) { bytes = t.bytes + 1 }) line
effect_move p t older line (Forks top child handle passed file) =
    Moves
    record {
      own =
          record (with_frames t (top ∷ older) (write_register file handle (Future (p ++ t.forks ∷ [])))) { forks = t.forks + 1 };
      child = Some (new_thread child passed);
      added = None;
      printed = None;
    }
effect_move p t older line (Touches name top file) = touch_move name t (with_frames t (top ∷ older) file) line
effect_move p t older line (Counts top file) =
    Moves (own (record (with_frames t (top ∷ older) (write_register file A6 (Counter p t.counters))) { counters = t.counters + 1 }))
effect_move p t older line (Adds name top file) = add_move name t (with_frames t (top ∷ older) file) line
effect_move p t older line (Joins name least top file) = join_move name least t (with_frames t (top ∷ older) file) line

abbrev pub move_at : Program → Data → Path → Thread → Activation → List Activation → Option Item → Move
move_at program source p t top older None = Stays
move_at program source p t top older (Some item) = effect_move p t older item.line (item_effect program source item.kind top t.registers)

abbrev pub move_of : Program → Data → Path → Thread → List Activation → Move
move_of program source p t [] = Stays
move_of program source p t (top ∷ older) = move_at program source p t top older (item_at program top)

abbrev pub move_standing : Program → Data → Path → Thread → Standing → Move
move_standing program source p t Going = move_of program source p t t.activations
move_standing program source p t (Ended v) = Stays
move_standing program source p t (Trapped kind line) = Stays
move_standing program source p t Full = Stays

-- what the thread would do next
unfoldable pub move : Program → Data → Path → Thread → Move
move program source p t = move_standing program source p t t.standing

abbrev pub HasEnded : Heap → Path → ℕ → Type 0
HasEnded h p v = (t : Thread) × (h.thread p ≡ Some t) × (t.standing ≡ Ended v)

-- the move makes this change now
abbrev pub Enabled : Heap → Move → Change → Type 0
Enabled h Stays c = ⊥
Enabled h (Moves d) c = d ≡ c
Enabled h (Touch p f) c = (v : ℕ) × HasEnded h p v × (f v ≡ c)
Enabled h (Join p n least d) c = (least ≤ h.count p n) × (d ≡ c)

-- the move makes this change by what was seen: the value of the future that it touches, a count that is enough for its join
abbrev pub EnabledBy : (Path → Option ℕ) → (Path → ℕ → ℕ) → Move → Change → Type 0
EnabledBy value count Stays c = ⊥
EnabledBy value count (Moves d) c = d ≡ c
EnabledBy value count (Touch p f) c = (v : ℕ) × (value p ≡ Some v) × (f v ≡ c)
EnabledBy value count (Join p n least d) c = (least ≤ count p n) × (d ≡ c)

abbrev pub put : {A : Type 0} → Path → A → (Path → A) → Path → A
put p a f q = cond (bytes_eq q p) a (f q)

abbrev pub put_child : Path → Option Thread → (Path → Option Thread) → Path → Option Thread
put_child p None f = f
put_child p (Some child) f = put p (Some child) f

abbrev pub count_up : Option (Path × ℕ) → (Path → ℕ → ℕ) → Path → ℕ → ℕ
count_up None f q k = f q k
count_up (Some c) f q k = cond (bytes_eq q c.0 && (k == c.1)) (counted (f q k)) (f q k)

-- only the root prints
abbrev pub print : Path → Option ℕ → ℕ → List Printed → List Printed
print [] (Some byte) forks out = out ++ record { byte = byte; forks = forks } ∷ []
print [] None forks out = out
print (k ∷ p) b forks out = out

abbrev pub after : Heap → Path → Thread → Change → Heap
after h p t c = record {
  thread = put p (Some c.own) (put_child (p ++ t.forks ∷ []) c.child h.thread);
  count = count_up c.added h.count;
  out = print p c.printed t.forks h.out;
}

-- one item of the thread p
pub record HStep (program : Program) (source : Data) (h : Heap) (p : Path) (h' : Heap) : Type 0 where
  pub thread : Thread
  pub change : Change
  pub here : h.thread p ≡ Some thread
  pub enabled : Enabled h (move program source p thread) change
  pub next : after h p thread change ≡ h'

-- a run, by the threads that step
abbrev pub Run : Program → Data → Heap → List Path → Heap → Type 0
Run program source h [] h' = h ≡ h'
Run program source h (p ∷ ps) h' = (mid : Heap) × HStep program source h p mid × Run program source mid ps h'

-- a thread's children have the numbers below its forks
pub record IsNumbered (h : Heap) : Type 0 where
  pub orphan : (p : Path) (k : ℕ) → h.thread p ≡ None → h.thread (p ++ k ∷ []) ≡ None
  pub free : (p : Path) (t : Thread) (k : ℕ) → h.thread p ≡ Some t → t.forks ≤ k → h.thread (p ++ k ∷ []) ≡ None

-- how many steps of a run are of the thread p
abbrev pub steps_of : Path → List Path → ℕ
steps_of p [] = 0
steps_of p (q ∷ qs) = cond (bytes_eq p q) (steps_of p qs + 1) (steps_of p qs)

-- the root alone, at its first item
abbrev pub first_heap : State → Heap
first_heap s = record { thread = put [] (Some (new_thread s.top s.registers)) (λ p. None); count = λ p k. 0; out = [] }

-- a run of the program leads to the heap, from the root alone at its first item
pub record Reached (program : Program) (source : Data) (h : Heap) : Type 0 where
  pub first : State
  pub is_first : start program source ≡ Some first
  pub steps : List Path
  pub run : Run program source (first_heap first) steps h
