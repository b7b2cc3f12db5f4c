-- What the answers of a board for a program may be counted on, by the view of the worker that asks. Read Promises. Where it promises nothing
-- of a kind of step, any answer may come. A chain in a slot has its load: IsLoadOf; one that is taken comes whole: ComesWhole. What is always so
-- of a view stands in Tidy, and what walks to what in RunLaws.
use Rattle.std.specs.Prelude.{◌≡◌, ◌≢◌, ◌⊎◌, ℕ, ◌≤◌, ◌<◌, ◌^◌, true, List, [], ◌∷◌, ◌++◌, length, Option, Some, None}
use Rattle.std.specs.List.{Contains}
use Rattle.st_base.specs.declared.chain.Chain.{Chain}
use Rattle.st_base.specs.declared.chain.Frame.{Frame}
use Rattle.st_base.specs.declared.chain.Waiting.{Waiting}
use Rattle.st_base.specs.declared.chain.Waiting.TheVariants as waits
use Rattle.st_base.specs.declared.thread.Held.{Held}
use Rattle.st_base.specs.declared.thread.Held.TheVariants as held
use Rattle.st_base.specs.declared.thread.Thread.{Thread}
use Rattle.st_base.specs.declared.thread.Activation.{Activation}
use Rattle.st_words.specs.declared.view.CellWord.TheVariants.{Owner, State, Value, Next}
use Rattle.st_words.specs.declared.view.CellWord.{CellWord}
use Rattle.st_words.specs.declared.view.Slot.{Slot}
use Rattle.st_words.specs.declared.view.Slot.TheVariants.{Cell, Mail}
use Rattle.st_words.specs.declared.view.Carried.{Carried}
use Rattle.st_words.specs.declared.view.Cargo.{Cargo}
use Rattle.st_words.specs.declared.view.Waiter.{Waiter}
use Rattle.st_words.specs.declared.view.Answering.{Answering}
use Rattle.st_words.specs.declared.view.View.{View}
use Rattle.st_words.specs.Names.{IsName, ThreadHas}
use Rattle.st_words.specs.Encodings.{thread_owner, counter_owner, full_word, count_in, head_in, running, waits_word, ready, asking, answering_word, refused}
use Rattle.st_words.specs.Steps.{Step, StackLoad, StackStore, Mark, Look, CellLoad, CellStore, CellChange, Draw, ActiveAdd, ActiveLoad, StopLoad, StopSet, RootTake, RequestLoad, RequestChange, MailLoad, MailStore, OutStore, SlotTake, SlotPut, OutLoad, Answer, Done, Number, Looked, Took, place_of, return_place, kept, Inside, home_of, HasInHand, IsFuture, IsCounter, IsWaiting}
use Rattle.st_words.specs.Views.{no_cargo}

-- ---- names

-- the word of a name: of a thread by its parent's cell and its number there, of a counter by its maker's cell and its number there
abbrev pub IsOwnerOf : List (Held × ℕ) → Held → ℕ → Type 0
IsOwnerOf names (held.Number x) n = ⊥
IsOwnerOf names (held.Future path) n =
    ((path ≡ []) × (n ≡ thread_owner 0 0)) ⊎ ((p : List ℕ) × (k : ℕ) × (parent : ℕ) × (path ≡ p ++ k ∷ []) × (n ≡ thread_owner parent k) × ((q : ℕ) → Contains names (held.Future p, q) → parent ≡ q))
IsOwnerOf names (held.Counter maker k) n = (parent : ℕ) × (n ≡ counter_owner parent k) × ((q : ℕ) → Contains names (held.Future maker, q) → parent ≡ q)

abbrev pub OwnerIs : View → ℕ → ℕ → Type 0
OwnerIs v c n = ((m : ℕ) → Contains v.owners (c, m) → n ≡ m) × ((name : Held) → Contains v.names (name, c) → IsOwnerOf v.names name n)

-- ---- states

-- a chain in the turn that has no wait, or whose wait is over
abbrev pub IsGoingOn : Carried → Type 0
IsGoingOn x = (x.standing ≡ Some running) ⊎ (x.standing ≡ Some ready)

-- the State word n of the cell c shows that the wait is over
abbrev pub ShowsOver : Waiting → ℕ → ℕ → Type 0
ShowsOver (waits.Touch cell) c n = cell ≡ c → n ≡ full_word
ShowsOver (waits.Join cell least) c n = cell ≡ c → least ≤ count_in n
ShowsOver _ c n = Prim.Unit

-- a full future stays full, and a count never falls; the head of the waiters is one of the cells
pub record StateIs (v : View) (c n : ℕ) : Type 0 where
  pub full : Contains v.full c → n ≡ full_word
  pub count : (k : ℕ) → Contains v.counts (c, k) → k ≤ count_in n
  pub over : (x : Carried) → Contains v.chains x → IsGoingOn x → ShowsOver x.wait c n
  pub future : IsFuture v c → (n ≡ full_word) ⊎ (n ≤ v.cells)
  pub counter : IsCounter v c → head_in n ≤ v.cells

-- what is behind a waiter that leads
abbrev pub NextIs : View → ℕ → ℕ → Type 0
NextIs v c n = (x : Waiter) → Contains v.hand x → x.cell ≡ c → x.leads ≡ true → n ≤ v.cells

abbrev pub CellIs : View → ℕ → CellWord → ℕ → Type 0
CellIs v c Owner n = OwnerIs v c n
CellIs v c State n = StateIs v c n
CellIs v c Value n = (m : ℕ) → Contains v.values (c, m) → n ≡ m
CellIs v c Next n = NextIs v c n
CellIs v c _ n = Prim.Unit

-- a cell that isn't named yet
pub record IsFresh (v : View) (c : ℕ) : Type 0 where
  pub drawn : Contains v.drawn c → ⊥
  pub owners : (n : ℕ) → Contains v.owners (c, n) → ⊥
  pub names : (name : Held) → Contains v.names (name, c) → ⊥

-- ---- requests and mail

-- nothing, a request of another worker, or that it is answered; the own one says so exactly while it is answered
pub record RequestIs (v : View) (at n : ℕ) : Type 0 where
  pub one : (n ≡ 0) ⊎ ((n ≡ answering_word) ⊎ ((asker : ℕ) × (asker < v.workers) × (asker ≢ at) × (n ≡ asking asker)))
  pub answers : (x : Answering) → at ≡ v.number → v.answering ≡ Some x → n ≡ answering_word
  pub still : at ≡ v.number → v.answering ≡ None → n ≢ answering_word

-- without a request that stands, nobody else stores to the own mail word
abbrev pub MailIs : View → ℕ → Type 0
MailIs v n = (n ≤ refused) × (v.asked ≡ None → n ≡ v.mail)

-- ---- slots

-- what goes with a chain is of that chain
abbrev pub IsCargoOf : Option Chain → Cargo → Type 0
IsCargoOf None cargo = cargo ≡ no_cargo
IsCargoOf (Some chain) cargo = (cargo.carried.known.note ≡ chain.note) × (cargo.carried.wait ≡ chain.wait) × (chain.note.cell ≡ chain.cell) × (cargo.unit ≤ 1)

-- a cell's slot has that cell's chain
abbrev pub IsInItsCell : Slot → Option Chain → Type 0
IsInItsCell (Cell c) (Some chain) = chain.cell ≡ c
IsInItsCell _ _ = Prim.Unit

-- a ready chain and one that was given count as active
abbrev pub IsActive : View → Slot → Type 0
IsActive v (Cell c) = Contains v.ready c ⊎ ((c ≡ 0) × (v.root ≡ true))
IsActive v (Mail at) = Prim.Unit

abbrev pub IsByHand : View → Slot → Type 0
IsByHand v (Cell c) = HasInHand v c
IsByHand v (Mail at) = ⊥

-- how the chain stands that counts as active: that of the root hasn't begun
abbrev pub StandsActive : View → Slot → Carried → Type 0
StandsActive v (Cell c) x = (x.standing ≡ Some ready) × (((c ≡ 0) × (v.root ≡ true)) → x.wait ≡ waits.Start)
StandsActive v (Mail at) x = x.standing ≡ Some running

-- the frames of a chain that is taken are apart, each on one stack, and their words come with it and no others; the worker holds none of these
pub record ComesWhole (u : View) (cargo : Cargo) : Type 0 where
  pub whole : (f : Frame) (p : ℕ) → Contains cargo.frames f → Inside f p → (n : ℕ) × (kept cargo.words p ≡ Some n)
  pub inside : (p n : ℕ) → kept cargo.words p ≡ Some n → (n < 2 ^ 64) × ((f : Frame) × Contains cargo.frames f × Inside f p)
  pub fresh : (p n : ℕ) → kept cargo.words p ≡ Some n → kept u.held p ≡ None
  pub one_home : (f : Frame) (p : ℕ) → Contains cargo.frames f → Inside f p → home_of u.each p ≡ home_of u.each (return_place f)
  pub some_word : (f : Frame) → Contains cargo.frames f → place_of f.low < place_of f.base
  pub apart : (f g : Frame) (p : ℕ) → Contains cargo.frames f → Contains cargo.frames g → Inside f p → Inside g p → f ≡ g

-- what is told of a slot that is taken, which the worker alone may use: its cargo; that it isn't empty; how the chain stands, and whether it counts as
-- active; that a frame of the chain on the worker's own stack is among its exported ones; that the words lie on the board's stacks; that the
-- names of its thread come with it
pub record TakenFrom (v : View) (slot : Slot) (found : Option Chain) (cargo : Cargo) : Type 0 where
  pub of : IsCargoOf found cargo
  pub there : found ≢ None
  pub cell : IsInItsCell slot found
  pub below : cargo.carried.known.note.cell < v.cells
  pub active : IsActive v slot → (cargo.unit ≡ 1) × StandsActive v slot cargo.carried
  pub by_hand : IsByHand v slot → (cargo.unit ≡ 0) × (cargo.carried.standing ≡ Some waits_word) × IsWaiting cargo.carried.wait
  pub own : (f : Frame) → Contains cargo.frames f → home_of v.each (return_place f) ≡ v.number → Contains v.exported f
  pub within : (p n : ℕ) → kept cargo.words p ≡ Some n → p < length v.held
  pub whole : ComesWhole v cargo
  pub names : (name : Held) → IsName name → ThreadHas cargo.carried.known.thread name → (c : ℕ) × Contains cargo.names (name, c)
  pub names_below : (name : Held) (c : ℕ) → Contains cargo.names (name, c) → c < v.cells

-- ---- each step

-- the words of a frame that is taken back are told
abbrev pub FrameTold : View → ℕ → ℕ → Cargo → Type 0
FrameTold v p n cargo = n ≡ 0 → (f : Frame) → Contains v.exported f → return_place f ≡ p → (q : ℕ) → Inside f q → (m : ℕ) × (kept cargo.words q ≡ Some m) × (m < 2 ^ 64)

abbrev pub Promises : View → Step → Answer → Type 0
Promises v (StackLoad p) (Number n) = kept v.held p ≡ Some n
Promises v (Look p) (Looked n cargo) = FrameTold v p n cargo
Promises v (CellLoad c word) (Number n) = CellIs v c word n
Promises v (CellChange c old new) (Number n) = StateIs v c n
Promises v Draw (Number n) = IsFresh v n
Promises v (ActiveAdd up) (Number n) = v.share ≤ n
Promises v ActiveLoad (Number n) = (v.share ≤ n) × (v.inactive ≡ true → n ≡ 0)
Promises v StopLoad (Number n) = (m : ℕ) → v.stop ≡ Some m → n ≡ m
Promises v (StopSet code) (Number n) = (m : ℕ) → v.stop ≡ Some m → n ≡ m
Promises v RootTake (Number n) = v.root ≡ true → n ≡ 0
Promises v (RequestLoad at) (Number n) = RequestIs v at n
Promises v (RequestChange at old new) (Number n) = RequestIs v at n
Promises v MailLoad (Number n) = MailIs v n
Promises v (SlotTake slot) (Took found cargo) = TakenFrom v slot found cargo
Promises v (OutLoad i) (Number n) = Prim.Unit
Promises v (StackStore p n) Done = Prim.Unit
Promises v (Mark p) Done = Prim.Unit
Promises v (CellStore c word n) Done = Prim.Unit
Promises v (MailStore at n) Done = Prim.Unit
Promises v (OutStore i n) Done = Prim.Unit
Promises v (SlotPut slot chain cargo) Done = Prim.Unit
Promises v _ _ = ⊥
