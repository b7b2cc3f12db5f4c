-- What the runtime makes of a worker's top thread at an entry that it has called. Read Serves: for each entry, which item the heap-frame machine has there, and that behind it
-- the thread stands on the machine again. EntriesServe is the law; ForkedGoes and EndGoesOn are those of a thread that was just forked and of one whose child has ended.
use Rattle.std.specs.Prelude.{◌≡◌, ◌≢◌, ◌⊎◌, ℕ, ◌+◌, ◌%◌, ◌^◌, ◌<◌, ◌≤◌, Bool, List, [], ◌∷◌, None, Some, slice_index_or}
use Rattle.std.specs.List.{Contains}
use Rattle.st_base.specs.declared.chain.Frame.{Frame}
use Rattle.st_base.specs.declared.line.Line.{Line}
use Rattle.st_base.specs.declared.reg.Reg.{Reg}
use Rattle.st_base.specs.declared.reg.Reg.TheVariants as registers
use Rattle.st_base.specs.declared.thread.Held.{Held}
use Rattle.st_base.specs.declared.thread.Held.TheVariants.{Number, Future, Counter}
use Rattle.st_base.specs.declared.thread.Standing.TheVariants.{Going, Full}
use Rattle.st_base.specs.declared.thread.Thread.{Thread}
use Rattle.st_base.specs.declared.thread.TrapKind.{TrapKind}
use Rattle.st_base.specs.declared.thread.TrapKind.TheVariants.{WrongHandle, PutInChild}
use Rattle.st_model.specs.declared.code.Layout.TheVariants.{Postprocessed}
use Rattle.st_model.specs.declared.program.Program.{Program}
use Rattle.st_model.specs.Accepted.{IsAccepted}
use Rattle.st_model.specs.Heap.{Path, Change, Stays, Moves, Touch, Join, own, trapped_thread}
use Rattle.st_model.specs.Memory.{Data}
use Rattle.st_words.specs.declared.view.Known.{Known}
use Rattle.st_step.specs.declared.state.State.{State}
use Rattle.st_step.specs.Moves.{register, written, at_place}
use Rattle.st_step.specs.Runs.{Situation}
use Rattle.st_items.specs.Body.{Ends}
use Rattle.st_items.specs.Code.{IsSized}
use Rattle.st_items.specs.Ways.{OnWay}
use Rattle.st_chain.specs.Laws.{HasNames}
use Rattle.st_chain.specs.Seen.{joined}
use Rattle.st_chain.specs.Taking.{AllApart}
use Rattle.st_chain.specs.Threads.{HasForked}
use Rattle.st_made.specs.Items.{next_move, went, born, child_path}
use Rattle.st_standing.specs.Standing.{StandsOn, IsForked, AtCall, AtLast}

-- ---- the machine goes on

-- behind the word that called the entry
abbrev pub back : State → State
back m = at_place (register m registers.Ra) m

-- with a number in a register
abbrev pub back_with : Reg → ℕ → State → State
back_with r n m = at_place (register m registers.Ra) (written m r n)

-- ---- what is asked

-- an accepted program, of which an item that reads nothing undefined has called the entry; no two frames of the worker's threads overlap
pub record CanServe (p : Program) (d : Data) (names : List (Held × ℕ)) (holds : ℕ → Bool) (ends : Ends) (u : Situation) (k : Known) (fs : List Frame) (ks : List Known) (rest : List (List Frame)) (entry : ℕ) : Type 0 where
  pub accepted : IsAccepted p
  pub size : IsSized Postprocessed p
  pub going : k.thread.standing ≡ Going
  pub defined : next_move p d k ≢ Stays
  pub at : AtCall p names holds ends u k fs ks rest entry
  pub apart : AllApart (joined (fs ∷ rest))

-- ---- what is made

-- the thread goes on, and what is counted of it is as before but for these
pub record Counts (old new : Thread) (forks counters bytes : ℕ) : Type 0 where
  pub going : new.standing ≡ Going
  pub forks_are : new.forks ≡ old.forks + forks
  pub counters_are : new.counters ≡ old.counters + counters
  pub bytes_are : new.bytes ≡ old.bytes + bytes

module _ (p : Program) (d : Data) (names : List (Held × ℕ)) (holds : ℕ → Bool) (ends : Ends) (u : Situation) (k : Known) (fs : List Frame) (ks : List Known) (rest : List (List Frame)) where
  -- the thread `next` stands on the machine m, over such names
  abbrev pub GoesBack : State → List (Held × ℕ) → Thread → Type 0
  GoesBack m names' next = StandsOn p names' holds ends (record { state = m; word = u.word }) (went k next) fs ks rest

  -- the thread traps, at the line of its item
  abbrev pub TrapsHere : TrapKind → Line → Type 0
  TrapsHere kind line = next_move p d k ≡ Moves (own (trapped_thread k.thread kind line))

  -- a6 has the name of a future, or of a counter
  pub record HasFuture (q : Path) : Type 0 where
    pub held : slice_index_or k.thread.registers 16 None ≡ Some (Future q)
    pub name : Contains names (Future q, register u.state registers.A6)

  pub record HasCounter (q : Path) (i : ℕ) : Type 0 where
    pub held : slice_index_or k.thread.registers 16 None ≡ Some (Counter q i)
    pub name : Contains names (Counter q i, register u.state registers.A6)

  -- a6 names a counter where a future is wanted, or a future where a counter is
  abbrev pub WrongCounter : Line → Type 0
  WrongCounter line = (q : Path) × (i : ℕ) × HasCounter q i × TrapsHere WrongHandle line

  abbrev pub WrongFuture : Line → Type 0
  WrongFuture line = (q : Path) × HasFuture q × TrapsHere WrongHandle line

  -- ---- each entry

  pub record Polls : Type 0 where
    pub next : Thread
    pub moves : next_move p d k ≡ Moves (own next)
    pub counts : Counts k.thread next 0 0 0
    pub goes : GoesBack (back u.state) names next

  -- the name of the counter comes into a6, as the number of the cell that is given to it
  pub record MakesCounter : Type 0 where
    pub next : Thread
    pub moves : next_move p d k ≡ Moves (own next)
    pub counts : Counts k.thread next 0 1 0
    pub goes : (names' : List (Held × ℕ)) (c : ℕ) → c < 2 ^ 64 → HasNames names names' → Contains names' (Counter k.path k.thread.counters, c) → GoesBack (back_with registers.A6 c u.state) names' next

  -- the value of the future comes into a0
  pub record TouchesFuture : Type 0 where
    pub q : Path
    pub named : HasFuture q
    pub f : ℕ → Change
    pub moves : next_move p d k ≡ Touch q f
    pub next : ℕ → Thread
    pub changes : (v : ℕ) → f v ≡ own (next v)
    pub counts : (v : ℕ) → Counts k.thread (next v) 0 0 0
    pub goes : (v : ℕ) → v < 2 ^ 64 → GoesBack (back_with registers.A0 v u.state) names (next v)

  pub record AddsToCounter : Type 0 where
    pub q : Path
    pub i : ℕ
    pub named : HasCounter q i
    pub next : Thread
    pub moves : next_move p d k ≡ Moves (record { own = next; child = None; added = Some (q, i); printed = None })
    pub counts : Counts k.thread next 0 0 0
    pub goes : GoesBack (back u.state) names next

  -- a0 has the number that is waited for
  pub record JoinsCounter : Type 0 where
    pub q : Path
    pub i : ℕ
    pub named : HasCounter q i
    pub least : slice_index_or k.thread.registers 10 None ≡ Some (Number (register u.state registers.A0))
    pub next : Thread
    pub moves : next_move p d k ≡ Join q i (register u.state registers.A0) (own next)
    pub counts : Counts k.thread next 0 0 0
    pub goes : GoesBack (back u.state) names next

  -- the root prints the byte that is the low one of a0
  pub record Prints : Type 0 where
    pub root : k.path ≡ []
    pub room : k.thread.bytes < 1048576
    pub next : Thread
    pub moves : next_move p d k ≡ Moves (record { own = next; child = None; added = None; printed = Some (register u.state registers.A0 % 256) })
    pub counts : Counts k.thread next 0 0 1
    pub goes : GoesBack (back u.state) names next

  pub record IsFull : Type 0 where
    pub root : k.path ≡ []
    pub many : 1048576 ≤ k.thread.bytes
    pub moves : next_move p d k ≡ Moves (own (record k.thread { standing = Full }))

  pub record PutsInChild (line : Line) : Type 0 where
    pub child : k.path ≢ []
    pub moves : TrapsHere PutInChild line

  -- the child is the top thread then: its name comes into the fork's register of its parent, which goes on below it when the child has ended
  pub record Forks : Type 0 where
    pub next : Thread
    pub child : Thread
    pub moves : next_move p d k ≡ Moves (record { own = next; child = Some child; added = None; printed = None })
    pub counts : Counts k.thread next 1 0 0
    pub going : child.standing ≡ Going
    pub new : (child.forks ≡ 0) × (child.counters ≡ 0) × (child.bytes ≡ 0)
    pub goes : (names' : List (Held × ℕ)) (c : ℕ) → c < 2 ^ 64 → HasNames names names' → Contains names' (Future (child_path k), c) → IsForked p names' holds ends (record { state = back u.state; word = u.word }) (born c (child_path k) child) (went k next ∷ ks) (fs ∷ rest)

  -- ---- all of them

  pub record Serves (entry : ℕ) (line : Line) : Type 0 where
    pub known : (entry ≡ 0x10) ⊎ ((entry ≡ 0x40) ⊎ ((entry ≡ 0x50) ⊎ ((entry ≡ 0x60) ⊎ ((entry ≡ 0x70) ⊎ ((entry ≡ 0x80) ⊎ (entry ≡ 0x90))))))
    pub forks : entry ≡ 0x10 → Forks
    pub touches : entry ≡ 0x40 → TouchesFuture ⊎ WrongCounter line
    pub makes : entry ≡ 0x50 → MakesCounter
    pub adds : entry ≡ 0x60 → AddsToCounter ⊎ WrongFuture line
    pub joins : entry ≡ 0x70 → JoinsCounter ⊎ WrongFuture line
    pub polls : entry ≡ 0x80 → Polls
    pub prints : entry ≡ 0x90 → Prints ⊎ (IsFull ⊎ PutsInChild line)

abbrev pub EntriesServe : Type 0
EntriesServe =
    (p : Program) (d : Data) (names : List (Held × ℕ)) (holds : ℕ → Bool) (ends : Ends) (u : Situation) (k : Known) (fs : List Frame) (ks : List Known) (rest : List (List Frame)) (entry : ℕ) (can : CanServe p d names holds ends u k fs ks rest entry)
    → Serves p d names holds ends u k fs ks rest entry can.at.item.line

-- ---- a child begins, and ends

-- one instruction inside of the fork leads to the first item of the thread that was forked
abbrev pub ForkedGoes : Type 0
ForkedGoes =
    (p : Program) (d : Data) (names : List (Held × ℕ)) (holds : ℕ → Bool) (ends : Ends) (t : Situation) (k : Known) (ks : List Known) (rest : List (List Frame)) → IsAccepted p → IsSized Postprocessed p → IsForked p names holds ends t k ks rest
    → (u : Situation) × OnWay Postprocessed p d holds 1 t u × (u.word ≡ t.word) × StandsOn p names holds ends u k [] ks rest

-- the thread below goes on behind its fork, with the cell of the one that has ended in the fork's register
abbrev pub EndGoesOn : Type 0
EndGoesOn =
    (p : Program) (names : List (Held × ℕ)) (holds : ℕ → Bool) (ends : Ends) (u : Situation) (cell value : ℕ) (k : Known) (fs : List Frame) (ks : List Known) (rest : List (List Frame)) → IsAccepted p → IsSized Postprocessed p → cell < 2 ^ 64 → AtLast p names holds ends u cell value (k ∷ ks) (fs ∷ rest)
    → (ret : ℕ) × (handle : Reg) × (register u.state registers.Ra ≡ ret + 4) × HasForked p ret handle k.thread.activations × StandsOn p names holds ends (record { state = back_with handle cell u.state; word = u.word }) k fs ks rest
