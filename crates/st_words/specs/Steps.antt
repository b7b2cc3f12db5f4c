-- The steps of a board as data: the twenty-one kinds of atomic step with their numbers, and what each may answer.
-- Read Step, Answer, Can (what a worker may ask, by what its view tells), and Asks (what the caller of a step owes). What a step does to the
-- view stands in Views, and what a caller may count on in Promises.
use Rattle.std.specs.Prelude.{◌≡◌, ◌≢◌, ◌⊎◌, ℕ, ◌+◌, ◌-◌, ◌/◌, ◌^◌, ◌<◌, ◌≤◌, Bool, true, false, List, [], ◌∷◌, length, Option, Some, None, Result, Ok, Err, slice_index_or}
use Rattle.std.specs.List.{Contains}
use Rattle.st_base.specs.declared.chain.Chain.{Chain}
use Rattle.st_base.specs.declared.chain.Frame.{Frame}
use Rattle.st_base.specs.declared.chain.Waiting.{Waiting}
use Rattle.st_base.specs.declared.chain.Waiting.TheVariants as waits
use Rattle.st_words.specs.declared.view.CellWord.{CellWord}
use Rattle.st_words.specs.declared.view.CellWord.TheVariants.{Owner, State, Value, Next, Standing, Trap}
use Rattle.st_words.specs.declared.view.Slot.{Slot}
use Rattle.st_words.specs.declared.view.Slot.TheVariants.{Cell, Mail}
use Rattle.st_words.specs.declared.view.Known.{Known}
use Rattle.st_words.specs.declared.view.Carried.{Carried}
use Rattle.st_words.specs.declared.view.Cargo.{Cargo}
use Rattle.st_words.specs.declared.view.Waiter.{Waiter}
use Rattle.st_words.specs.declared.view.Child.{Child}
use Rattle.st_words.specs.declared.view.Answering.{Answering}
use Rattle.st_words.specs.declared.view.View.{View}
use Rattle.st_words.specs.Encodings.{thread_owner, counter_owner, is_counter, full_word, count_in, head_in, counter_word, count_after, IsStopCode, asking, answering_word, waiting, given, refused, printed}

pub data Step : Type 0 where
  StackLoad : ℕ → Step
  StackStore : ℕ → ℕ → Step
  Mark : ℕ → Step
  Look : ℕ → Step
  CellLoad : ℕ → CellWord → Step
  CellStore : ℕ → CellWord → ℕ → Step
  CellChange : ℕ → ℕ → ℕ → Step
  Draw : Step
  ActiveAdd : Bool → Step
  ActiveLoad : Step
  StopLoad : Step
  StopSet : ℕ → Step
  RootTake : Step
  RequestLoad : ℕ → Step
  RequestChange : ℕ → ℕ → ℕ → Step
  MailLoad : Step
  MailStore : ℕ → ℕ → Step
  OutStore : ℕ → ℕ → Step
  SlotTake : Slot → Step
  -- what goes with the chain is named by the caller, for contracts alone
  SlotPut : Slot → Chain → Cargo → Step
  OutLoad : ℕ → Step

-- a number is the word that was found; a cargo is what a step tells for contracts alone
pub data Answer : Type 0 where
  Done : Answer
  Number : ℕ → Answer
  Looked : ℕ → Cargo → Answer
  Took : Option Chain → Cargo → Answer

-- the word that a compare and exchange found
abbrev pub found_by : ℕ → Result Prim.Unit ℕ → ℕ
found_by old (Ok done) = old
found_by old (Err found) = found

-- ---- places

-- the word of an address on a stack; the words of all stacks are counted from 0x8000_0000
abbrev pub place_of : ℕ → ℕ
place_of address = (address - 0x8000_0000) / 8

-- the worker on whose stack a word lies, where each stack has so many words
abbrev pub home_of : ℕ → ℕ → ℕ
home_of each place = place / each

-- the return word of a frame is the one below its base
abbrev pub return_place : Frame → ℕ
return_place f = place_of f.base - 1

-- a word of a frame
abbrev pub Inside : Frame → ℕ → Type 0
Inside f p = (place_of f.low ≤ p) × (p < place_of f.base)

-- what a list of held words has at a place
abbrev pub kept : List (Option ℕ) → ℕ → Option ℕ
kept held p = slice_index_or held p None

abbrev pub Holds : View → ℕ → Type 0
Holds v p = (n : ℕ) × (kept v.held p ≡ Some n)

-- a leased frame of which the worker knows
abbrev pub IsLeased : View → Frame → Type 0
IsLeased v f = Contains v.exported f ⊎ Contains v.away f

-- ---- threads, chains and waiters

abbrev pub HasThread : View → ℕ → Type 0
HasThread v c = (t : Known) × Contains v.threads t × (t.note.cell ≡ c)

abbrev pub HasChain : View → ℕ → Type 0
HasChain v c = (x : Carried) × Contains v.chains x × (x.known.note.cell ≡ c)

abbrev pub HasInHand : View → ℕ → Type 0
HasInHand v c = (x : Waiter) × Contains v.hand x × (x.cell ≡ c)

-- the waiter's Next word is the head
abbrev pub IsLinked : View → ℕ → ℕ → Type 0
IsLinked v waiter head = (x : Waiter) × Contains v.hand x × (x.cell ≡ waiter) × (x.next ≡ Some head)

-- it waits for a future or a counter
abbrev pub IsWaiting : Waiting → Type 0
IsWaiting (waits.Touch cell) = Prim.Unit
IsWaiting (waits.Join cell least) = Prim.Unit
IsWaiting _ = ⊥

-- the waiter waits until the counter has at least this count
abbrev pub IsJoining : View → ℕ → ℕ → ℕ → Type 0
IsJoining v waiter counter least = (x : Waiter) × Contains v.hand x × (x.cell ≡ waiter) × (x.wait ≡ Some (waits.Join counter least))

-- the cell is named for the next child
abbrev pub IsChild : View → ℕ → Type 0
IsChild v c = (x : Child) × (v.child ≡ Some x) × (x.cell ≡ c)

-- ---- cells

-- the worker knows the cell for a counter
abbrev pub IsCounter : View → ℕ → Type 0
IsCounter v c = (owner : ℕ) × Contains v.owners (c, owner) × (is_counter owner ≡ true)

-- the worker knows the cell for a future
abbrev pub IsFuture : View → ℕ → Type 0
IsFuture v c = ((owner : ℕ) × Contains v.owners (c, owner) × (is_counter owner ≡ false)) ⊎ HasThread v c

-- an Owner word: of the children and the counters of the thread in a cell
abbrev pub IsOwner : ℕ → ℕ → Type 0
IsOwner cells owner = (parent : ℕ) × (number : ℕ) × (parent < cells) × (number < 2 ^ 32) × ((owner ≡ thread_owner parent number) ⊎ (owner ≡ counter_owner parent number))

-- who alone may store a word of a cell. Owner: who has drawn its number and not yet named it. Value: who holds the thread. Next: who has
-- the waiter's number in hand. Standing and Trap: who holds the thread or its chain, has its number in hand, has named it for a child or made it
-- full.
abbrev pub MayStore : View → ℕ → CellWord → ℕ → Type 0
MayStore v c Owner n = Contains v.drawn c × IsOwner v.cells n
MayStore v c State n = ⊥
MayStore v c Value n = HasThread v c × (Contains v.full c → ⊥)
MayStore v c Next n = HasInHand v c × (n ≤ v.cells)
MayStore v c Standing n = (n ≤ 5) × (HasThread v c ⊎ (HasChain v c ⊎ (HasInHand v c ⊎ (IsChild v c ⊎ Contains v.filled c))))
MayStore v c Trap n = HasThread v c ⊎ HasChain v c

-- the changes of a State word

-- a waiter is put before the head that was seen
abbrev pub IsPark : View → ℕ → ℕ → ℕ → Type 0
IsPark v c old new = IsFuture v c × (old ≢ full_word) × ((waiter : ℕ) × IsLinked v waiter old × (new ≡ waiter + 1))

abbrev pub IsFill : View → ℕ → ℕ → ℕ → Type 0
IsFill v c old new = IsFuture v c × (old ≢ full_word) × (new ≡ full_word)

-- the count grows, and the waiters are handed out
abbrev pub IsDone : View → ℕ → ℕ → ℕ → Type 0
IsDone v c old new = IsCounter v c × (new ≡ counter_word (count_after (count_in old)) 0)

abbrev pub IsParkJoin : View → ℕ → ℕ → ℕ → Type 0
IsParkJoin v c old new =
    IsCounter v c × ((waiter : ℕ) × (least : ℕ) × IsJoining v waiter c least × IsLinked v waiter (head_in old) × (count_in old < least) × (new ≡ counter_word (count_in old) (waiter + 1)))

abbrev pub MayChange : View → ℕ → ℕ → ℕ → Type 0
MayChange v c old new = IsPark v c old new ⊎ (IsFill v c old new ⊎ (IsDone v c old new ⊎ IsParkJoin v c old new))

-- ---- the active count

-- what of the share the worker's threads and chains take: 1 where it has a thread, and 1 for each chain in its turn
abbrev pub some_thread : List Known → ℕ
some_thread [] = 0
some_thread (t ∷ ts) = 1

abbrev pub taken_share : View → ℕ
taken_share v = some_thread v.threads + length v.chains

-- it adds only while it has a share, and takes only a unit that it has added ahead or not yet taken back
abbrev pub MayAdd : View → Bool → Type 0
MayAdd v true = (1 ≤ v.share) × (v.share + 1 < 2 ^ 32)
MayAdd v false = taken_share v < v.share

-- ---- requests and mail

-- w asks: no request of it stands, and its mail word is nothing or waiting
abbrev pub IsAsk : View → ℕ → ℕ → ℕ → Type 0
IsAsk v at old new = (at ≢ v.number) × (v.asked ≡ None) × (v.mail ≤ waiting) × (v.given ≡ false) × (old ≡ 0) × (new ≡ asking v.number)

abbrev pub IsBegin : View → ℕ → ℕ → ℕ → Type 0
IsBegin v at old new = (at ≡ v.number) × (v.answering ≡ None) × ((asker : ℕ) × (asker < v.workers) × (asker ≢ v.number) × (old ≡ asking asker)) × (new ≡ answering_word)

abbrev pub IsClear : View → ℕ → ℕ → ℕ → Type 0
IsClear v at old new = (at ≡ v.number) × ((x : Answering) × (v.answering ≡ Some x) × (x.told ≡ true)) × (old ≡ answering_word) × (new ≡ 0)

abbrev pub IsWithdraw : View → ℕ → ℕ → ℕ → Type 0
IsWithdraw v at old new = (v.asked ≡ Some at) × (old ≡ asking v.number) × (new ≡ 0)

abbrev pub MayRequest : View → ℕ → ℕ → ℕ → Type 0
MayRequest v at old new = IsAsk v at old new ⊎ (IsBegin v at old new ⊎ (IsClear v at old new ⊎ IsWithdraw v at old new))

-- in its own mail word: no request of it stands, and its mail slot is empty
abbrev pub IsSet : View → ℕ → ℕ → Type 0
IsSet v at n = (at ≡ v.number) × (v.asked ≡ None) × (v.given ≡ false) × (n ≤ waiting)

-- in that of the worker whose request it answers: given where it has put a chain, else refused
abbrev pub IsTold : View → ℕ → ℕ → Type 0
IsTold v at n = (x : Answering) × (v.answering ≡ Some x) × (x.asker ≡ at) × (x.told ≡ false) × (((x.put ≡ true) × (n ≡ given)) ⊎ ((x.put ≡ false) × (n ≡ refused)))

abbrev pub MayMail : View → ℕ → ℕ → Type 0
MayMail v at n = IsSet v at n ⊎ IsTold v at n

-- ---- slots

-- the worker alone may take from the slot: a ready number is its, or a waiter's number is in its hand and the chain isn't in its turn, or it
-- found Root 1, or it read that a chain was given to it
abbrev pub MayTake : View → Slot → Type 0
MayTake v (Cell c) = Contains v.ready c ⊎ ((HasInHand v c × (HasChain v c → ⊥)) ⊎ ((c ≡ 0) × (v.root ≡ true)))
MayTake v (Mail at) = (at ≡ v.number) × (v.given ≡ true)

-- the worker alone may put into the slot, and it is empty: the chain, which is in its turn, goes into its cell's slot, or into the mail of
-- the worker whose request it answers
abbrev pub MayPut : View → Slot → Chain → Type 0
MayPut v (Cell c) chain = (chain.cell ≡ c) × HasChain v c
MayPut v (Mail at) chain = HasChain v chain.cell × (at ≢ v.number) × ((x : Answering) × (v.answering ≡ Some x) × (x.asker ≡ at) × (x.put ≡ false) × (x.told ≡ false))

abbrev pub IsSlot : View → Slot → Type 0
IsSlot v (Cell c) = c < v.cells
IsSlot v (Mail at) = at < v.workers

-- ---- what a worker may ask

-- a load that may be made at the end of a run, where no item comes before it
abbrev pub IsEndLoad : Step → Type 0
IsEndLoad (CellLoad c Next) = ⊥
IsEndLoad (CellLoad c word) = Prim.Unit
IsEndLoad ActiveLoad = Prim.Unit
IsEndLoad StopLoad = Prim.Unit
IsEndLoad (OutLoad i) = Prim.Unit
IsEndLoad _ = ⊥

abbrev pub Can : View → Step → Type 0
Can v (StackLoad p) = Holds v p
Can v (StackStore p n) = Holds v p
Can v (Mark p) = Holds v p
Can v (Look p) = ((f : Frame) × Contains v.exported f × (return_place f ≡ p)) × (p < length v.held)
Can v (CellLoad c word) = c < v.cells
Can v (CellStore c word n) = (c < v.cells) × MayStore v c word n
Can v (CellChange c old new) = (c < v.cells) × MayChange v c old new
Can v Draw = Prim.Unit
Can v (ActiveAdd up) = MayAdd v up
Can v ActiveLoad = Prim.Unit
Can v StopLoad = Prim.Unit
Can v (StopSet code) = IsStopCode v.number code
Can v RootTake = Prim.Unit
Can v (RequestLoad at) = at < v.workers
Can v (RequestChange at old new) = (at < v.workers) × MayRequest v at old new
Can v MailLoad = Prim.Unit
Can v (MailStore at n) = (at < v.workers) × MayMail v at n
Can v (OutStore i n) = (i < 1048576) × HasThread v 0 × ((forks : ℕ) × (byte : ℕ) × (byte < 256) × (n ≡ printed forks byte))
Can v (SlotTake slot) = IsSlot v slot × MayTake v slot × (v.share + 1 < 2 ^ 32)
Can v (SlotPut slot chain cargo) = IsSlot v slot × MayPut v slot chain × (cargo.unit ≤ 1) × (cargo.unit ≤ v.share)
Can v (OutLoad i) = i < 1048576

-- What the caller of a step owes. First comes what the worker has done by itself since its last step, by `forward`, up to a view u in which
-- the step may be asked; then, for each answer that the board may give by `says`, `moves` allows the view that the caller names.
abbrev pub Asks : (Step → Answer → Type 0) → (View → View → Type 0) → (View → Step → Answer → View → Type 0) → (View → Step → Answer → View) → View → Step → Type 0
Asks says forward moves after v s = (u : View) × forward v u × Can u s × ((a : Answer) → says s a → moves u s a (after v s a))
