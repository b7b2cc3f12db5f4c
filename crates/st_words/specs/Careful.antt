-- What a board for a program asks of a step beside what every board asks (Careful): by it the board stays for its program. It speaks of the view
-- that is brought forward and of the step alone, so a caller shows it before there is an answer. Each clause is one sentence of what a step has
-- to keep; they are named by the kind of step that they speak of. What is the program's stands in a Meaning. The rest of the lease rule is kept
-- by view_after alone: whose number is in whose hand, what a share is, which names are known, and what goes with a chain.
use Rattle.std.specs.Prelude.{◌≡◌, ◌≢◌, ◌⊎◌, ℕ, ◌+◌, ◌^◌, ◌≤◌, ◌<◌, true, false, List, [], ◌∷◌, Option, Some, None}
use Rattle.std.specs.List.{Contains}
use Rattle.st_base.specs.declared.chain.Chain.{Chain}
use Rattle.st_base.specs.declared.chain.Frame.{Frame}
use Rattle.st_base.specs.declared.chain.Waiting.{Waiting}
use Rattle.st_base.specs.declared.chain.Waiting.TheVariants as waits
use Rattle.st_base.specs.declared.thread.Held.{Held}
use Rattle.st_words.specs.declared.view.CellWord.TheVariants.{Owner, State, Value, Next, Standing, Trap}
use Rattle.st_words.specs.declared.view.Slot.{Slot}
use Rattle.st_words.specs.declared.view.Slot.TheVariants.{Cell, Mail}
use Rattle.st_words.specs.declared.view.Known.{Known}
use Rattle.st_words.specs.declared.view.Carried.{Carried}
use Rattle.st_words.specs.declared.view.Cargo.{Cargo}
use Rattle.st_words.specs.declared.view.Waiter.{Waiter}
use Rattle.st_words.specs.declared.view.View.{View}
use Rattle.st_words.specs.Names.{IsName, ThreadHas}
use Rattle.st_words.specs.Promises.{IsGoingOn}
use Rattle.st_words.specs.Views.{without_waiter}
use Rattle.st_words.specs.Encodings.{thread_owner, counter_owner, counter_word, count_in, head_in, full_word, running, waits_word, ready, trapped, ended, trap_word, stop_kind, cell_code}
use Rattle.st_words.specs.Steps.{Step, StackStore, CellStore, CellChange, Draw, ActiveAdd, StopSet, SlotTake, SlotPut, return_place, Inside, home_of, kept, Holds, IsLeased, IsChild, HasChain, HasInHand, IsFuture, IsCounter, IsDone, taken_share}

-- what the program means to a board
pub record Meaning : Type 1 where
  -- a chain with what goes with it stands for its thread, over the words of its frames
  pub walks : Cargo → Chain → Type 0
  -- the thread is at the item of a pc
  pub at : Known → ℕ → Type 0
  -- it is at its end, with a value
  pub ends : Known → ℕ → Type 0
  -- its next item is a fork; it makes a counter
  pub forks : Known → Type 0
  pub counts : Known → Type 0
  -- the worker meets the limit of a code, by its numbers and the next item of its top thread
  pub meets : View → ℕ → Type 0

-- ---- threads and chains

-- the top thread of a logical stack
abbrev pub TopIs : List Known → (Known → Type 0) → Type 0
TopIs [] P = ⊥
TopIs (t ∷ ts) P = P t

abbrev pub InTurn : View → ℕ → (Carried → Type 0) → Type 0
InTurn u c P = (x : Carried) × Contains u.chains x × (x.known.note.cell ≡ c) × P x

abbrev pub InHand : View → ℕ → (Waiter → Type 0) → Type 0
InHand u c P = (x : Waiter) × Contains u.hand x × (x.cell ≡ c) × P x

-- the wait is over, as the view has seen
abbrev pub IsOver : View → Waiting → Type 0
IsOver u (waits.Touch cell) = Contains u.full cell
IsOver u (waits.Join cell least) = (count : ℕ) × Contains u.counts (cell, count) × (least ≤ count)
IsOver u _ = ⊥

-- its chain is in its slot
abbrev pub IsAtHome : View → ℕ → Type 0
IsAtHome u c = HasChain u c → ⊥

-- a unit goes where the share stays at least 1, or no number is in the hand
abbrev pub CanSpare : View → List Waiter → Type 0
CanSpare u hand = (2 ≤ u.share) ⊎ (hand ≡ [])

-- ---- frames

-- a word has 64 bits, and no 0 comes into the return word of a leased frame
abbrev pub Writes : View → Step → Type 0
Writes u (StackStore p n) = (n < 2 ^ 64) × (n ≡ 0 → (f : Frame) → IsLeased u f → return_place f ≢ p)
Writes u _ = Prim.Unit

-- ---- chains that are put

-- what goes with a chain that is put: a chain of the turn; leased frames of which the worker knows, with all their words as it holds them and
-- no others; those on its own stack are exported
pub record MayCarry (u : View) (chain : Chain) (cargo : Cargo) : Type 0 where
  pub carried : Contains u.chains cargo.carried
  pub note : cargo.carried.known.note ≡ chain.note
  pub cell : chain.note.cell ≡ chain.cell
  pub wait : cargo.carried.wait ≡ chain.wait
  pub leased : (f : Frame) → Contains cargo.frames f → IsLeased u f
  pub whole : (f : Frame) (p : ℕ) → Contains cargo.frames f → Inside f p → (n : ℕ) × (kept cargo.words p ≡ Some n)
  pub words : (p n : ℕ) → kept cargo.words p ≡ Some n → (kept u.held p ≡ Some n) × ((f : Frame) × Contains cargo.frames f × Inside f p)
  pub own : (f : Frame) → Contains cargo.frames f → home_of u.each (return_place f) ≡ u.number → Contains u.exported f
  pub names : (name : Held) → IsName name → ThreadHas cargo.carried.known.thread name → (c : ℕ) × Contains cargo.names (name, c)
  pub known : (name : Held) (c : ℕ) → Contains cargo.names (name, c) → Contains u.names (name, c)

-- a chain in mail counts as active, and one that is put into its cell's slot doesn't
abbrev pub unit_in : Slot → ℕ
unit_in (Cell c) = 0
unit_in (Mail at) = 1

-- the Standing word of a chain that doesn't go on
abbrev pub standing_of : Waiting → Option ℕ
standing_of (waits.Touch cell) = Some waits_word
standing_of (waits.Join cell least) = Some waits_word
standing_of waits.Trapped = Some trapped
standing_of _ = None

module _ (m : Meaning) where
  -- its Trap word shows where it waits, or where and why it has stopped
  abbrev pub ShowsPlace : Carried → Waiting → Type 0
  ShowsPlace x waits.Trapped = (pc : ℕ) × (kind : ℕ) × m.at x.known pc × (stop_kind x.known.thread.standing ≡ Some kind) × (x.trap ≡ Some (trap_word pc kind))
  ShowsPlace x _ = (pc : ℕ) × m.at x.known pc × (x.trap ≡ Some (trap_word pc 0))

  -- in its cell's slot a chain waits or has stopped, and its words show it; in mail it goes on, and the unit that goes with it can be spared
  abbrev pub Shows : View → Slot → Carried → Type 0
  Shows u (Cell c) x = (n : ℕ) × (standing_of x.wait ≡ Some n) × (x.standing ≡ Some n) × ShowsPlace x x.wait
  Shows u (Mail at) x = (x.standing ≡ Some running) × CanSpare u u.hand

  pub record MayBePut (u : View) (slot : Slot) (chain : Chain) (cargo : Cargo) : Type 0 where
    pub carries : MayCarry u chain cargo
    pub unit : cargo.unit ≡ unit_in slot
    pub walks : m.walks cargo chain
    pub shows : Shows u slot cargo.carried

  abbrev pub Puts : View → Step → Type 0
  Puts u (SlotPut slot chain cargo) = MayBePut u slot chain cargo
  Puts u _ = Prim.Unit

  -- a waiter's chain is taken where a unit was added ahead for it
  abbrev pub Takes : View → Step → Type 0
  Takes u (SlotTake (Cell c)) = HasInHand u c → taken_share u < u.share
  Takes u _ = Prim.Unit

  -- ---- cells

  -- a cell is named for the next counter of the top thread, or for its next child, once
  abbrev pub IsNext : View → ℕ → Known → Type 0
  IsNext u n t = ((n ≡ thread_owner t.note.cell t.note.forks) × m.forks t × (u.child ≡ None)) ⊎ ((n ≡ counter_owner t.note.cell t.note.counters) × m.counts t)

  -- it goes on: the child that is named, or a chain of the turn that was ready
  abbrev pub Runs : View → ℕ → ℕ → Type 0
  Runs u c n = (n ≡ running) × (IsChild u c ⊎ InTurn u c IsGoingOn)

  -- it waits or has stopped: a chain that was suspended, whose Trap word shows it
  abbrev pub StopsThere : View → ℕ → ℕ → Type 0
  StopsThere u c n = InTurn u c (λ x. (x.standing ≡ None) × (standing_of x.wait ≡ Some n) × ShowsPlace x x.wait)

  -- a waiter becomes ready: its wait is over, its chain is in its slot, what was behind it in its list is known, and a unit of the share was added
  -- ahead for it, which can be spared
  abbrev pub Readies : View → ℕ → ℕ → Type 0
  Readies u c n = (n ≡ ready) × InHand u c (λ x. (x.leads ≡ false) × ((wait : Waiting) × (x.wait ≡ Some wait) × IsOver u wait)) × IsAtHome u c × (taken_share u < u.share) × CanSpare u (without_waiter c u.hand)

  abbrev pub Ends : View → ℕ → ℕ → Type 0
  Ends u c n = (n ≡ ended) × Contains u.filled c

  abbrev pub Stores : View → Step → Type 0
  Stores u (CellStore c Owner n) = TopIs u.threads (IsNext u n)
  -- the value with which the top thread ends
  Stores u (CellStore c Value n) = TopIs u.threads (λ t. (t.note.cell ≡ c) × m.ends t n)
  -- a waiter is linked while its chain is in its slot, and what was behind it in its list is known
  Stores u (CellStore c Next n) = IsAtHome u c × InHand u c (λ x. x.leads ≡ false)
  Stores u (CellStore c Standing n) = Runs u c n ⊎ (StopsThere u c n ⊎ (Readies u c n ⊎ Ends u c n))
  -- of a chain that was suspended, before its Standing word
  Stores u (CellStore c Trap n) = InTurn u c (λ x. x.standing ≡ None)
  Stores u _ = Prim.Unit

  -- a waiter of a future or a counter is parked there, linked to the head that was seen, while its chain is in its slot
  abbrev pub Parks : View → ℕ → ℕ → ℕ → Type 0
  Parks u c old new = (waiter : ℕ) × (new ≡ waiter + 1) × IsAtHome u waiter × InHand u waiter (λ x. (x.next ≡ Some old) × (x.wait ≡ Some (waits.Touch c)))

  abbrev pub Joins : View → ℕ → ℕ → ℕ → Type 0
  Joins u c old new = (waiter : ℕ) × (least : ℕ) × (new ≡ counter_word (count_in old) (waiter + 1)) × (count_in old < least) × IsAtHome u waiter × InHand u waiter (λ x. (x.next ≡ Some (head_in old)) × (x.wait ≡ Some (waits.Join c least)))

  -- a future is made full by its own thread, the top one, which is at its end, and whose value is stored
  abbrev pub Fills : View → ℕ → ℕ → Type 0
  Fills u c new = (new ≡ full_word) × TopIs u.threads (λ t. (t.note.cell ≡ c) × ((value : ℕ) × m.ends t value × Contains u.valued (c, value)))

  abbrev pub Changes : View → Step → Type 0
  Changes u (CellChange c old new) = (IsFuture u c × (Parks u c old new ⊎ Fills u c new)) ⊎ (IsCounter u c × (Joins u c old new ⊎ IsDone u c old new))
  Changes u _ = Prim.Unit

  -- a unit is taken from the active count where it can be spared
  abbrev pub Lowers : View → Step → Type 0
  Lowers u (ActiveAdd false) = CanSpare u u.hand
  Lowers u _ = Prim.Unit

  -- a number is drawn for the next item of the top thread, where no other drawn number waits to be named, and no named child to be begun
  abbrev pub DrawsFor : View → Step → Type 0
  DrawsFor u Draw = (u.drawn ≡ []) × (u.child ≡ None) × TopIs u.threads (λ t. m.forks t ⊎ m.counts t)
  DrawsFor u _ = Prim.Unit

  -- a limit that is written is met: by a number that was drawn and isn't below the number of cells, or by the worker's own numbers
  abbrev pub StopsFor : View → Step → Type 0
  StopsFor u (StopSet code) = m.meets u code ⊎ ((code ≡ cell_code u.number) × ((n : ℕ) × Contains u.drawn n × (u.cells ≤ n)))
  StopsFor u _ = Prim.Unit

  pub record Careful (u : View) (s : Step) : Type 0 where
    pub writes : Writes u s
    pub puts : Puts u s
    pub takes : Takes u s
    pub stores : Stores u s
    pub changes : Changes u s
    pub lowers : Lowers u s
    pub draws : DrawsFor u s
    pub stops : StopsFor u s
