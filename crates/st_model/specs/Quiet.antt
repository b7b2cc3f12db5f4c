-- What a heap that is quiet answers. IsQuiet says that no thread has a step, IsAnswer what the answer is and which of the root's bytes
-- count. The events of a heap are its trapped threads and a full root, each with its key; of several the one of the least key counts.
use Rattle.std.specs.Prelude.{◌≡◌, ◌≢◌, ◌≤◌, ℕ, Bool, true, List, [], ◌∷◌, map, Option, Some, None}
use Rattle.std.specs.List.{filter}
use Rattle.std.specs.Ordering.{nat_cmp, is_lt}
use Rattle.std.specs.declared.cmp.Ordering.TheVariants.{Greater}
use Rattle.std.specs.Cmp.Lexicographic.{slice_cmp}
use Rattle.st_base.specs.EventKey.{event_key}
use Rattle.st_base.specs.declared.line.Line.{Line}
use Rattle.st_base.specs.declared.thread.TrapKind.{TrapKind}
use Rattle.st_base.specs.declared.thread.Standing.{Standing}
use Rattle.st_base.specs.declared.thread.Standing.TheVariants.{Going, Ended, Trapped, Full}
use Rattle.st_base.specs.declared.thread.Thread.{Thread}
use Rattle.st_base.specs.declared.thread.Activation.{Activation}
use Rattle.st_model.specs.declared.program.Item.{Item}
use Rattle.st_model.specs.declared.program.Program.{Program}
use Rattle.st_model.specs.declared.output.Printed.{Printed}
use Rattle.st_model.specs.Memory.{Data}
use Rattle.st_model.specs.Ordinary.{item_at}
use Rattle.st_model.specs.Heap.{Heap, Path, HStep}

-- no thread has a step
abbrev pub IsQuiet : Program → Data → Heap → Type 0
IsQuiet program source h = (p : Path) (h' : Heap) → HStep program source h p h' → ⊥

-- a thread that has trapped, or a full root
abbrev pub IsEvent : Standing → Type 0
IsEvent Going = ⊥
IsEvent (Ended v) = ⊥
IsEvent (Trapped kind line) = Unit {0}
IsEvent Full = Unit {0}

-- a thread that has neither ended nor stopped
abbrev pub IsGoing : Standing → Type 0
IsGoing Going = Unit {0}
IsGoing (Ended v) = ⊥
IsGoing (Trapped kind line) = ⊥
IsGoing Full = ⊥

-- the key of what the thread does at its next item, or did at its last
abbrev pub key_of : Path → Thread → List ℕ
key_of p t = event_key p t.forks

-- of the threads that stand so, p's has the least key
abbrev pub IsLeast : (Standing → Type 0) → Heap → Path → Thread → Type 0
IsLeast stands h p t = (q : Path) (u : Thread) → h.thread q ≡ Some u → stands u.standing → slice_cmp nat_cmp (key_of p t) (key_of q u) ≢ Greater

-- no thread stands so
abbrev pub HasNone : (Standing → Type 0) → Heap → Type 0
HasNone stands h = (q : Path) (u : Thread) → h.thread q ≡ Some u → stands u.standing → ⊥

pub data QuietAnswer : Type 0 where
  Done : QuietAnswer
  Trap : TrapKind → Line → Path → QuietAnswer
  OutLimit : QuietAnswer
  Deadlock : Line → Path → QuietAnswer

-- the root's bytes
abbrev pub bytes_of : List Printed → List ℕ
bytes_of out = map (λ b. b.byte) out

-- the byte was printed before the event
abbrev pub is_before : List ℕ → Printed → Bool
is_before event b = is_lt (slice_cmp nat_cmp (event_key [] b.forks) event)

-- the byte counts where the thread p has the event: each byte where p is the root, else those printed before the event
abbrev pub counts : Path → List ℕ → Printed → Bool
counts [] event b = true
counts (k ∷ p) event b = is_before event b

-- the bytes that count where the thread p has the event
abbrev pub counted_bytes : Path → List ℕ → List Printed → List ℕ
counted_bytes p event out = bytes_of (filter (counts p event) out)

-- the first byte was printed after at least so many forks of the root, and the forks do not fall from one byte to the next
abbrev pub AreFrom : ℕ → List Printed → Type 0
AreFrom forks [] = Unit {0}
AreFrom forks (b ∷ out) = (forks ≤ b.forks) × AreFrom b.forks out

-- the forks do not fall from one byte to the next
abbrev pub AreInOrder : List Printed → Type 0
AreInOrder out = AreFrom 0 out

abbrev pub line_of : Option Item → Option Line
line_of None = None
line_of (Some item) = Some item.line

-- the line of the item that a thread is at
abbrev pub line_at : Program → List Activation → Option Line
line_at program [] = None
line_at program (top ∷ older) = line_of (item_at program top)

-- the answer of a quiet heap, with its counted bytes: the event of the least key; without one, where a thread has not ended, the one of
-- these that has the least key; else Done
abbrev pub IsAnswer : Program → Heap → QuietAnswer → List ℕ → Type 0
IsAnswer program h (Trap kind line p) out =
    (t : Thread) × ((h.thread p ≡ Some t) × (t.standing ≡ Trapped kind line) × IsLeast IsEvent h p t × (out ≡ counted_bytes p (key_of p t) h.out))
IsAnswer program h OutLimit out =
    (t : Thread) × ((h.thread [] ≡ Some t) × (t.standing ≡ Full) × IsLeast IsEvent h [] t × (out ≡ bytes_of h.out))
IsAnswer program h (Deadlock line p) out =
    (t : Thread)
    × ((h.thread p ≡ Some t) × HasNone IsEvent h × IsGoing t.standing × (line_at program t.activations ≡ Some line) × IsLeast IsGoing h p t × (out ≡ bytes_of h.out))
IsAnswer program h Done out = HasNone IsEvent h × HasNone IsGoing h × (out ≡ bytes_of h.out)
