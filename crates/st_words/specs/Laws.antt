-- What a caller may count on of the view after a step, which it names by `named`: a group of laws for each kind of step that moves words,
-- frames, chains or waiters' numbers. They speak of view_after, and hold of what `named` gives, which differs in the threads and two numbers
-- alone. Where a law asks that frames have one return word each (OneEach), what the worker knows of its leased frames has to yield it: that
-- they are apart is enough (MarkLaws, `apart`).
use Rattle.std.specs.Prelude.{refl, ◌≡◌, ◌≢◌, ◌⊎◌, ℕ, ◌+◌, ◌<◌, ◌^◌, true, false, List, [], ◌∷◌, length, Option, Some, None, if◌then◌else◌}
use Rattle.std.specs.List.{Contains}
use Rattle.st_base.specs.declared.chain.Chain.{Chain}
use Rattle.st_base.specs.declared.chain.Frame.{Frame}
use Rattle.st_base.specs.declared.chain.Waiting.{Waiting}
use Rattle.st_base.specs.declared.chain.Waiting.TheVariants as waits
use Rattle.st_base.specs.declared.thread.Held.{Held}
use Rattle.st_words.specs.declared.view.CellWord.TheVariants.{Next, Standing}
use Rattle.st_words.specs.declared.view.Slot.{Slot}
use Rattle.st_words.specs.declared.view.Slot.TheVariants.{Cell}
use Rattle.st_words.specs.declared.view.Carried.{Carried}
use Rattle.st_words.specs.declared.view.Cargo.{Cargo}
use Rattle.st_words.specs.declared.view.Waiter.{Waiter}
use Rattle.st_words.specs.declared.view.View.{View}
use Rattle.st_words.specs.Encodings.{full_word, count_in, head_in, counter_word, is_counter, ready}
use Rattle.st_words.specs.Steps.{Step, StackStore, Mark, Look, CellLoad, CellStore, CellChange, SlotTake, SlotPut, Answer, Done, Number, Looked, Took, place_of, home_of, return_place, Inside, kept, Holds, IsLeased, HasChain, HasInHand, IsWaiting}
use Rattle.st_words.specs.Views.{Progress, with_progress, view_after, Does, IsFree, remade, is_inside, counts_cell, owner_seen, common_wait}
use Rattle.st_words.specs.Promises.{Promises}
use Rattle.st_words.specs.Careful.{MayCarry}
use Rattle.st_words.specs.Names.{KnowsNames}

-- ---- naming

-- the view after a step from u, with what its threads have come to
abbrev pub named : Progress → View → Step → Answer → View
named x u s a = with_progress x (view_after u s a)

-- what its threads have come to before it
abbrev pub progress_of : View → Progress
progress_of v = record { threads = v.threads; items = v.items; frame_bytes = v.frame_bytes }

-- nothing was done before a step, and nothing by it but the step
abbrev pub stays : (v : View) → IsFree v v
stays v = (record { progress = progress_of v; child = v.child; chains = v.chains; exported = v.exported }, refl)

abbrev pub does_alone : (v : View) (s : Step) (a : Answer) → Does v s a (view_after v s a)
does_alone v s a = (progress_of (view_after v s a), refl)

abbrev pub NamedIsWithin : Type 0
NamedIsWithin = (x : Progress) (u : View) (s : Step) (a : Answer) → Does u s a (named x u s a)

-- no step changes the worker's number, the numbers of the board, or how many words there are
pub record SizeLaws : Type 0 where
  pub number : (u : View) (s : Step) (a : Answer) → (view_after u s a).number ≡ u.number
  pub workers : (u : View) (s : Step) (a : Answer) → (view_after u s a).workers ≡ u.workers
  pub cells : (u : View) (s : Step) (a : Answer) → (view_after u s a).cells ≡ u.cells
  pub each : (u : View) (s : Step) (a : Answer) → (view_after u s a).each ≡ u.each
  pub held : (u : View) (s : Step) (a : Answer) → length (view_after u s a).held ≡ length u.held

-- ---- stores

pub record StoreLaws : Type 0 where
  pub reads : (u : View) (p n : ℕ) → Holds u p → kept (view_after u (StackStore p n) Done).held p ≡ Some n
  pub others : (u : View) (p q n : ℕ) → q ≢ p → kept (view_after u (StackStore p n) Done).held q ≡ kept u.held q

-- ---- marks

-- of the leased frames of which the worker knows, no two have one return word
abbrev pub OneEach : View → Type 0
OneEach u = (f g : Frame) → IsLeased u f → IsLeased u g → return_place f ≡ return_place g → f ≡ g

-- they are apart, and each has a word
pub record AreApart (u : View) : Type 0 where
  pub some_word : (f : Frame) → IsLeased u f → place_of f.low < place_of f.base
  pub apart : (f g : Frame) (p : ℕ) → IsLeased u f → IsLeased u g → Inside f p → Inside g p → f ≡ g

pub record MarkLaws : Type 0 where
  pub apart : (u : View) → AreApart u → OneEach u
  -- a leased frame is given up
  pub gives_up : (u : View) (f : Frame) (q : ℕ) → OneEach u → IsLeased u f → Inside f q → kept (view_after u (Mark (return_place f)) Done).held q ≡ None
  pub others : (u : View) (f : Frame) (q : ℕ) → OneEach u → IsLeased u f → (Inside f q → ⊥) → kept (view_after u (Mark (return_place f)) Done).held q ≡ kept u.held q
  pub gone : (u : View) (f : Frame) → Contains (view_after u (Mark (return_place f)) Done).away f → ⊥
  pub stay : (u : View) (p : ℕ) (f : Frame) → return_place f ≢ p → Contains u.away f → Contains (view_after u (Mark p) Done).away f
  pub were : (u : View) (p : ℕ) (f : Frame) → Contains (view_after u (Mark p) Done).away f → Contains u.away f
  pub exported : (u : View) (p : ℕ) → (view_after u (Mark p) Done).exported ≡ u.exported
  -- the return word of another frame becomes 0
  pub zero_there : (u : View) (p : ℕ) → Holds u p → ((f : Frame) → IsLeased u f → return_place f ≢ p) → kept (view_after u (Mark p) Done).held p ≡ Some 0
  pub zero_others : (u : View) (p q : ℕ) → ((f : Frame) → IsLeased u f → return_place f ≢ p) → q ≢ p → kept (view_after u (Mark p) Done).held q ≡ kept u.held q

-- ---- looks

pub record LookLaws : Type 0 where
  -- at 0 the words of the frame come in, as they are told
  pub takes_back : (u : View) (f : Frame) (cargo : Cargo) (q : ℕ) → OneEach u → Contains u.exported f → return_place f < length u.held → Promises u (Look (return_place f)) (Looked 0 cargo) → Inside f q → (m : ℕ) × (kept cargo.words q ≡ Some m) × (kept (view_after u (Look (return_place f)) (Looked 0 cargo)).held q ≡ Some m)
  pub others : (u : View) (f : Frame) (cargo : Cargo) (q : ℕ) → OneEach u → Contains u.exported f → (Inside f q → ⊥) → kept (view_after u (Look (return_place f)) (Looked 0 cargo)).held q ≡ kept u.held q
  pub gone : (u : View) (f : Frame) (cargo : Cargo) → Contains u.exported f → Contains (view_after u (Look (return_place f)) (Looked 0 cargo)).exported f → ⊥
  pub stay : (u : View) (p n : ℕ) (cargo : Cargo) (f : Frame) → return_place f ≢ p → Contains u.exported f → Contains (view_after u (Look p) (Looked n cargo)).exported f
  pub were : (u : View) (p n : ℕ) (cargo : Cargo) (f : Frame) → Contains (view_after u (Look p) (Looked n cargo)).exported f → Contains u.exported f
  pub away : (u : View) (p n : ℕ) (cargo : Cargo) → (view_after u (Look p) (Looked n cargo)).away ≡ u.away
  -- at another word nothing changes
  pub alive : (u : View) (p n : ℕ) (cargo : Cargo) → n ≢ 0 → view_after u (Look p) (Looked n cargo) ≡ u

-- ---- chains that are taken

abbrev pub taking : View → Slot → Chain → Cargo → View
taking u slot chain cargo = view_after u (SlotTake slot) (Took (Some chain) cargo)

pub record TakeLaws : Type 0 where
  pub found : (u : View) (slot : Slot) (cargo : Cargo) → Promises u (SlotTake slot) (Took None cargo) → ⊥
  pub words : (u : View) (slot : Slot) (chain : Chain) (cargo : Cargo) (p n : ℕ) → Promises u (SlotTake slot) (Took (Some chain) cargo) → kept cargo.words p ≡ Some n → kept (taking u slot chain cargo).held p ≡ Some n
  pub others : (u : View) (slot : Slot) (chain : Chain) (cargo : Cargo) (p : ℕ) → kept cargo.words p ≡ None → kept (taking u slot chain cargo).held p ≡ kept u.held p
  -- all its frames are leased ones of which the worker knows
  pub frames : (u : View) (slot : Slot) (chain : Chain) (cargo : Cargo) (f : Frame) → Promises u (SlotTake slot) (Took (Some chain) cargo) → Contains cargo.frames f → IsLeased (taking u slot chain cargo) f
  pub stay : (u : View) (slot : Slot) (chain : Chain) (cargo : Cargo) (f : Frame) → IsLeased u f → IsLeased (taking u slot chain cargo) f
  pub were : (u : View) (slot : Slot) (chain : Chain) (cargo : Cargo) (f : Frame) → IsLeased (taking u slot chain cargo) f → IsLeased u f ⊎ Contains cargo.frames f
  pub away : (u : View) (slot : Slot) (chain : Chain) (cargo : Cargo) (f : Frame) → Contains (taking u slot chain cargo).away f → Contains u.away f ⊎ Contains cargo.frames f
  pub exported : (u : View) (slot : Slot) (chain : Chain) (cargo : Cargo) → (taking u slot chain cargo).exported ≡ u.exported
  pub chain : (u : View) (slot : Slot) (chain : Chain) (cargo : Cargo) → Promises u (SlotTake slot) (Took (Some chain) cargo) → Contains (taking u slot chain cargo).chains cargo.carried × HasChain (taking u slot chain cargo) chain.cell
  pub chains : (u : View) (slot : Slot) (chain : Chain) (cargo : Cargo) (x : Carried) → Contains u.chains x → Contains (taking u slot chain cargo).chains x
  pub names : (u : View) (slot : Slot) (chain : Chain) (cargo : Cargo) (name : Held) (c : ℕ) → Contains cargo.names (name, c) ⊎ Contains u.names (name, c) → Contains (taking u slot chain cargo).names (name, c)
  -- what a number in the hand waits for is known once its chain is taken
  pub waits : (u : View) (c : ℕ) (chain : Chain) (cargo : Cargo) → HasInHand u c → (x : Waiter) × Contains (taking u (Cell c) chain cargo).hand x × (x.cell ≡ c) × (x.wait ≡ Some cargo.carried.wait)

-- ---- chains that are put

abbrev pub putting : View → Slot → Chain → Cargo → View
putting u slot chain cargo = view_after u (SlotPut slot chain cargo) Done

pub record PutLaws : Type 0 where
  pub words : (u : View) (slot : Slot) (chain : Chain) (cargo : Cargo) (p n : ℕ) → kept cargo.words p ≡ Some n → kept (putting u slot chain cargo).held p ≡ None
  pub others : (u : View) (slot : Slot) (chain : Chain) (cargo : Cargo) (p : ℕ) → kept cargo.words p ≡ None → kept (putting u slot chain cargo).held p ≡ kept u.held p
  pub gone : (u : View) (slot : Slot) (chain : Chain) (cargo : Cargo) (f : Frame) → Contains cargo.frames f → Contains (putting u slot chain cargo).away f → ⊥
  pub stay : (u : View) (slot : Slot) (chain : Chain) (cargo : Cargo) (f : Frame) → (Contains cargo.frames f → ⊥) → Contains u.away f → Contains (putting u slot chain cargo).away f
  pub were : (u : View) (slot : Slot) (chain : Chain) (cargo : Cargo) (f : Frame) → Contains (putting u slot chain cargo).away f → Contains u.away f
  pub exported : (u : View) (slot : Slot) (chain : Chain) (cargo : Cargo) → (putting u slot chain cargo).exported ≡ u.exported
  -- the chain is in the turn no more, and others are
  pub chain : (u : View) (slot : Slot) (chain : Chain) (cargo : Cargo) → HasChain (putting u slot chain cargo) chain.cell → ⊥
  pub chains : (u : View) (slot : Slot) (chain : Chain) (cargo : Cargo) (x : Carried) → x.known.note.cell ≢ chain.cell → Contains u.chains x → Contains (putting u slot chain cargo).chains x
  -- the number of a waiting chain is in the hand, and the numbers that were there stay
  pub hand : (u : View) (c : ℕ) (chain : Chain) (cargo : Cargo) → IsWaiting chain.wait → HasInHand (putting u (Cell c) chain cargo) c
  pub waits : (u : View) (c : ℕ) (chain : Chain) (cargo : Cargo) → IsWaiting chain.wait → (HasInHand u c → ⊥) → (x : Waiter) × Contains (putting u (Cell c) chain cargo).hand x × (x.cell ≡ c) × (x.wait ≡ Some chain.wait)
  pub hands : (u : View) (slot : Slot) (chain : Chain) (cargo : Cargo) (x : Waiter) → Contains u.hand x → Contains (putting u slot chain cargo).hand x

-- ---- what goes with a chain that is put

-- the held words inside one of the frames
abbrev pub inside_one : List Frame → ℕ → Option ℕ → Option ℕ
inside_one [] p h = None
inside_one (f ∷ fs) p h = if is_inside f p then h else inside_one fs p h

abbrev pub words_of : List Frame → List (Option ℕ) → List (Option ℕ)
words_of fs held = remade (inside_one fs) 0 held

-- what goes with this chain of the turn, where it has these frames: their words, and the names that the worker knows
abbrev pub cargo_of : View → Carried → List Frame → ℕ → Cargo
cargo_of u x fs unit = record { carried = x; words = words_of fs u.held; frames = fs; names = u.names; unit = unit }

-- what the worker shows of a chain of its turn that it puts
pub record HasFrames (u : View) (chain : Chain) (x : Carried) (fs : List Frame) : Type 0 where
  pub carried : Contains u.chains x
  pub note : x.known.note ≡ chain.note
  pub cell : chain.note.cell ≡ chain.cell
  pub wait : x.wait ≡ chain.wait
  pub leased : (f : Frame) → Contains fs f → IsLeased u f
  pub holds : (f : Frame) (p : ℕ) → Contains fs f → Inside f p → Holds u p
  pub own : (f : Frame) → Contains fs f → home_of u.each (return_place f) ≡ u.number → Contains u.exported f
  pub knows : KnowsNames u

pub record CargoLaws : Type 0 where
  pub words : (u : View) (x : Carried) (fs : List Frame) (unit p n : ℕ) → kept (cargo_of u x fs unit).words p ≡ Some n → (kept u.held p ≡ Some n) × ((f : Frame) × Contains fs f × Inside f p)
  pub whole : (u : View) (x : Carried) (fs : List Frame) (unit : ℕ) (f : Frame) (p n : ℕ) → Contains fs f → Inside f p → kept u.held p ≡ Some n → kept (cargo_of u x fs unit).words p ≡ Some n
  pub may_carry : (u : View) (chain : Chain) (x : Carried) (fs : List Frame) (unit : ℕ) → HasFrames u chain x fs → MayCarry u chain (cargo_of u x fs unit)

-- ---- waiters' numbers

-- the worker takes the cell for a counter, or it doesn't, by the Owner word that it saw last
abbrev pub TakesForCounter : View → ℕ → Type 0
TakesForCounter u c = counts_cell (owner_seen c u.owners) ≡ true

abbrev pub TakesForFuture : View → ℕ → Type 0
TakesForFuture u c = counts_cell (owner_seen c u.owners) ≡ false

-- all that it has seen of an Owner word is one word
abbrev pub SeesOneOwner : View → Type 0
SeesOneOwner u = (c m n : ℕ) → Contains u.owners (c, m) → Contains u.owners (c, n) → m ≡ n

pub record HandLaws : Type 0 where
  pub counter : (u : View) (c owner : ℕ) → SeesOneOwner u → Contains u.owners (c, owner) → is_counter owner ≡ true → TakesForCounter u c
  pub future : (u : View) (c owner : ℕ) → SeesOneOwner u → Contains u.owners (c, owner) → is_counter owner ≡ false → TakesForFuture u c
  -- a number in the hand becomes ready
  pub readies : (u : View) (c : ℕ) → HasInHand u c → Contains (view_after u (CellStore c Standing ready) Done).ready c
  pub leaves : (u : View) (c : ℕ) → HasInHand u c → HasInHand (view_after u (CellStore c Standing ready) Done) c → ⊥
  -- a number is parked at a future or a counter
  pub parks : (u : View) (c old waiter : ℕ) → TakesForFuture u c → waiter + 1 ≢ full_word → HasInHand (view_after u (CellChange c old (waiter + 1)) (Number old)) waiter → ⊥
  pub joins : (u : View) (c old waiter : ℕ) → TakesForCounter u c → waiter + 1 < 2 ^ 17 → HasInHand (view_after u (CellChange c old (counter_word (count_in old) (waiter + 1))) (Number old)) waiter → ⊥
  -- the head of a list that is handed out is in the hand, with what it waits for where all wait for the same
  pub fills : (u : View) (c waiter : ℕ) → TakesForFuture u c → (x : Waiter) × Contains (view_after u (CellChange c (waiter + 1) full_word) (Number (waiter + 1))).hand x × (x.cell ≡ waiter) × (x.wait ≡ Some (waits.Touch c)) × (x.leads ≡ true)
  pub counts : (u : View) (c old new waiter : ℕ) → TakesForCounter u c → head_in old ≡ waiter + 1 → head_in new ≡ 0 → (x : Waiter) × Contains (view_after u (CellChange c old new) (Number old)).hand x × (x.cell ≡ waiter) × (x.leads ≡ true)
  -- a number that leads a list has its Next word read: the next number is in the hand, and leads
  pub follows : (u : View) (c waiter : ℕ) (x : Waiter) → Contains u.hand x → x.cell ≡ c → x.leads ≡ true → (y : Waiter) × (z : Waiter) × Contains u.hand y × (y.cell ≡ c) × Contains (view_after u (CellLoad c Next) (Number (waiter + 1))).hand z × (z.cell ≡ waiter) × (z.wait ≡ common_wait y.wait) × (z.leads ≡ true)
