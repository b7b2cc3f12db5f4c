-- The laws of where threads are, over worlds with their lists. Read MoveLaws (what a worker does between steps keeps it), SlotLaws (what is in a slot that a worker
-- may use), ToldLaws (what follows for the answers of steps and for each view), RestLaws (where a thread is when no worker has any) and First.
use Rattle.std.specs.Prelude.{◌≡◌, ◌≢◌, ◌⊎◌, ℕ, ◌/◌, ◌<◌, false, List, [], ◌∷◌, Some, None}
use Rattle.std.specs.List.{Contains}
use Rattle.st_base.specs.declared.chain.Chain.{Chain}
use Rattle.st_base.specs.declared.chain.Frame.{Frame}
use Rattle.st_base.specs.declared.chain.Waiting.{Waiting}
use Rattle.st_base.specs.declared.limits.Limits.{Limits}
use Rattle.st_base.specs.declared.thread.Thread.{Thread}
use Rattle.st_words.specs.declared.view.Slot.{Slot}
use Rattle.st_words.specs.declared.view.Slot.TheVariants.{Cell}
use Rattle.st_words.specs.declared.view.Known.{Known}
use Rattle.st_words.specs.declared.view.Carried.{Carried}
use Rattle.st_words.specs.declared.view.View.{View}
use Rattle.st_words.specs.Encodings.{full_word, running, waits_word, trapped}
use Rattle.st_words.specs.Steps.{MayTake, HasThread, HasChain, HasInHand, IsChild, IsWaiting}
use Rattle.st_words.specs.Views.{Progress, with_progress, no_cargo}
use Rattle.st_words.specs.Plain.{first_words, first_cargoes, first_views}
use Rattle.st_words.specs.Promises.{IsCargoOf, IsInItsCell, IsActive, IsByHand, StandsActive, IsGoingOn, ShowsOver}
use Rattle.st_words.specs.Careful.{IsAtHome}
use Rattle.st_words.specs.Moves.{suspending, giving, restarting, beginning, exporting, MaySuspend, MayGive, MayRestart, MayBegin}
use Rattle.st_world.specs.World.{World, slot_of, cargo_of, seen}
use Rattle.st_world.specs.OfPlain.{world_of}
use Rattle.st_spots.specs.Listing.{Nowhere, Listed, Rooted, Lists, counters, IsOpen}
use Rattle.st_lists.specs.Going.{Stays}
use Rattle.st_seats.specs.Placing.{Gone, Home, Places, cells_of}

-- what a worker does by itself keeps it
pub record MoveLaws : Type 0 where
  -- an item that leaves the threads where they are
  pub progresses : (x : World) (l : Lists x) (w : ℕ) (progress : Progress) (l' : Lists (seen w (with_progress progress (x.view w)) x)) → Places x l → cells_of progress.threads ≡ cells_of (x.view w).threads → Stays l.spot l.wait l'.spot l'.wait → Places (seen w (with_progress progress (x.view w)) x) l'
  pub suspends : (x : World) (l : Lists x) (w : ℕ) (t : Known) (rest : List Known) (wait : Waiting) (l' : Lists (seen w (suspending t rest wait (x.view w)) x)) → Places x l → w < x.workers → MaySuspend (x.view w) t rest wait → Stays l.spot l.wait l'.spot l'.wait → Places (seen w (suspending t rest wait (x.view w)) x) l'
  pub gives : (x : World) (l : Lists x) (w : ℕ) (t : Known) (above : List Known) (l' : Lists (seen w (giving t above (x.view w)) x)) → Places x l → w < x.workers → MayGive (x.view w) t above → Stays l.spot l.wait l'.spot l'.wait → Places (seen w (giving t above (x.view w)) x) l'
  pub restarts : (x : World) (l : Lists x) (w : ℕ) (carried : Carried) (l' : Lists (seen w (restarting carried (x.view w)) x)) → Places x l → w < x.workers → MayRestart (x.view w) carried → Stays l.spot l.wait l'.spot l'.wait → Places (seen w (restarting carried (x.view w)) x) l'
  pub begins : (x : World) (l : Lists x) (w : ℕ) (child parent top : Known) (rest : List Known) (l' : Lists (seen w (beginning child parent rest (x.view w)) x)) → Places x l → w < x.workers → MayBegin (x.view w) child → (x.view w).threads ≡ top ∷ rest → parent.note.cell ≡ top.note.cell → Stays l.spot l.wait l'.spot l'.wait → Places (seen w (beginning child parent rest (x.view w)) x) l'
  pub exports : (x : World) (l : Lists x) (w : ℕ) (f : Frame) (l' : Lists (seen w (exporting f (x.view w)) x)) → Places x l → Stays l.spot l.wait l'.spot l'.wait → Places (seen w (exporting f (x.view w)) x) l'

-- ---- what follows

-- what is in a slot that a worker may use
pub record SlotLaws : Type 0 where
  -- a chain is put into an empty slot of its cell
  pub empty : (x : World) (l : Lists x) (w c : ℕ) → Places x l → HasChain (x.view w) c → (x.home c ≡ None) × (x.home_cargo c ≡ no_cargo)
  -- who may take finds a chain, of that cell
  pub filled : (x : World) (l : Lists x) (w c : ℕ) → Places x l → MayTake (x.view w) (Cell c) → x.home c ≢ None
  pub of : (x : World) (l : Lists x) (slot : Slot) → Places x l → IsCargoOf (slot_of x slot) (cargo_of x slot) × IsInItsCell slot (slot_of x slot)
  pub below : (x : World) (l : Lists x) (slot : Slot) → Places x l → slot_of x slot ≢ None → (cargo_of x slot).carried.known.note.cell < x.cells
  -- a chain that the view tells to count as active does, and stands so; one by a number in the hand waits, and doesn't count
  pub active : (x : World) (l : Lists x) (w : ℕ) (slot : Slot) → Places x l → MayTake (x.view w) slot → slot_of x slot ≢ None → IsActive (x.view w) slot → ((cargo_of x slot).unit ≡ 1) × StandsActive (x.view w) slot (cargo_of x slot).carried
  pub by_hand : (x : World) (l : Lists x) (w : ℕ) (slot : Slot) → Places x l → MayTake (x.view w) slot → IsByHand (x.view w) slot → ((cargo_of x slot).unit ≡ 0) × ((cargo_of x slot).carried.standing ≡ Some waits_word) × IsWaiting (cargo_of x slot).carried.wait
  -- so does the chain of a waiter that isn't in the turn; it waits for what its number waits for
  pub waiting : (x : World) (l : Lists x) (w c : ℕ) → Places x l → HasInHand (x.view w) c → IsAtHome (x.view w) c → (x.home c ≢ None) × ((x.home_cargo c).unit ≡ 0) × ((x.home_cargo c).carried.wait ≡ l.wait c)
  -- the number of a chain in a turn that isn't in the hand is nowhere
  pub nowhere : (x : World) (l : Lists x) (w c : ℕ) → Places x l → HasChain (x.view w) c → (HasInHand (x.view w) c → ⊥) → l.spot c ≡ Nowhere

-- what is always so of a view, and what a State word shows
pub record ToldLaws : Type 0 where
  pub chains : (x : World) (l : Lists x) (w : ℕ) (y z : Carried) → Places x l → Contains (x.view w).chains y → Contains (x.view w).chains z → y.known.note.cell ≡ z.known.note.cell → y ≡ z
  pub threads : (x : World) (l : Lists x) (w c : ℕ) → Places x l → HasThread (x.view w) c → HasChain (x.view w) c ⊎ (HasInHand (x.view w) c ⊎ Contains (x.view w).ready c) → ⊥
  pub ready : (x : World) (l : Lists x) (w c : ℕ) → Places x l → Contains (x.view w).ready c → HasChain (x.view w) c → ⊥
  pub waits : (x : World) (l : Lists x) (w : ℕ) (y : Carried) → Places x l → Contains (x.view w).chains y → HasInHand (x.view w) y.known.note.cell → IsWaiting y.wait × (y.standing ≡ Some waits_word)
  pub below : (x : World) (l : Lists x) (w c : ℕ) → Places x l → HasThread (x.view w) c ⊎ (HasChain (x.view w) c ⊎ IsChild (x.view w) c) → c < x.cells
  -- a thread that is somewhere has a named cell of a future that isn't full
  pub unfilled : (x : World) (l : Lists x) (w c : ℕ) → Places x l → HasThread (x.view w) c ⊎ (HasChain (x.view w) c ⊎ IsChild (x.view w) c) → (x.owner c ≢ 0) × (counters x.owner c ≡ false) × (x.state c ≢ full_word)
  -- no two workers, nor a worker and a slot, have the same thread
  pub one_thread : (x : World) (l : Lists x) (v w c : ℕ) → Places x l → HasThread (x.view v) c ⊎ (HasChain (x.view v) c ⊎ IsChild (x.view v) c) → HasThread (x.view w) c ⊎ (HasChain (x.view w) c ⊎ IsChild (x.view w) c) → v ≡ w
  pub not_here : (x : World) (l : Lists x) (w : ℕ) (slot : Slot) (chain : Chain) → Places x l → slot_of x slot ≡ Some chain → HasThread (x.view w) chain.cell ⊎ (HasChain (x.view w) chain.cell ⊎ IsChild (x.view w) chain.cell) → ⊥
  -- where a chain of the turn goes on, each State word shows its wait to be over
  pub over : (x : World) (l : Lists x) (w c : ℕ) (y : Carried) → Places x l → Contains (x.view w).chains y → IsGoingOn y → ShowsOver y.wait c (x.state c)
  -- a thread that runs has the Standing word 1
  pub stands : (x : World) (l : Lists x) (w c : ℕ) → Places x l → HasThread (x.view w) c → x.standing c ≡ running

-- the worker has no thread, no chain in its turn, no named child and no number in hand
pub record IsIdle (v : View) : Type 0 where
  pub threads : v.threads ≡ []
  pub chains : v.chains ≡ []
  pub child : v.child ≡ None
  pub hand : v.hand ≡ []

-- the thread of the cell is gone, or in its slot, where it has trapped, or is listed and waits for what isn't yet so
abbrev pub IsStill : (x : World) → Lists x → ℕ → Type 0
IsStill x l c = (x.home c ≡ None) ⊎ ((chain : Chain) × (x.home c ≡ Some chain) × ((x.standing c ≡ trapped) ⊎ ((x.standing c ≡ waits_word) × ((e : ℕ) × (k : ℕ) × (l.spot c ≡ Listed e k) × IsOpen (counters x.owner e) (x.state e) e (x.home_cargo c).carried.wait))))

pub record RestLaws : Type 0 where
  -- each thread is in its slot or gone, where all workers are idle and no chain is in mail or counts as active
  pub still : (x : World) (l : Lists x) → (p : Places x l) → ((w : ℕ) → w < x.workers → IsIdle (x.view w)) → ((v : ℕ) → v < x.workers → x.post v ≡ None) → ((c : ℕ) → c < x.cells → (x.home_cargo c).unit ≡ 0) → (c : ℕ) → ((p.place c ≡ Gone) ⊎ (p.place c ≡ Home)) × IsStill x l c

-- a board that is opened has it: the root's chain is in its slot
abbrev pub First : Type 0
First =
    (limits : Limits) (workers : ℕ) (thread : Thread) (l : Lists (world_of (limits.stack / 8) (first_words limits workers) (first_cargoes limits workers thread) (first_views limits workers))) → l.spot 0 ≡ Rooted None → ((c : ℕ) → c ≢ 0 → l.spot c ≡ Nowhere) → Places (world_of (limits.stack / 8) (first_words limits workers) (first_cargoes limits workers thread) (first_views limits workers)) l
