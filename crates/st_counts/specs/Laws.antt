-- The laws of the active count, over worlds. Read Kept (each kind of step of a worker keeps it, whatever is answered), MoveLaws (so does what a worker does
-- between steps), ToldLaws (what follows for the answers of steps and for each view) and NoneLaws (what it means that nothing is active).
use Rattle.std.specs.Prelude.{◌≡◌, ◌≢◌, ◌⊎◌, ℕ, ◌+◌, ◌/◌, ◌^◌, ◌≤◌, ◌<◌, true, false, Bool, List, [], None, Option, Some}
use Rattle.st_base.specs.declared.chain.Chain.{Chain}
use Rattle.st_base.specs.declared.chain.Frame.{Frame}
use Rattle.st_base.specs.declared.chain.Waiting.{Waiting}
use Rattle.st_base.specs.declared.limits.Limits.{Limits}
use Rattle.st_base.specs.declared.thread.Thread.{Thread}
use Rattle.st_words.specs.declared.view.CellWord.TheVariants.{Standing}
use Rattle.st_words.specs.declared.view.Slot.{Slot}
use Rattle.st_words.specs.declared.view.Slot.TheVariants.{Cell, Mail}
use Rattle.st_words.specs.declared.view.Known.{Known}
use Rattle.st_words.specs.declared.view.Carried.{Carried}
use Rattle.st_words.specs.declared.view.Cargo.{Cargo}
use Rattle.st_words.specs.declared.view.View.{View}
use Rattle.st_words.specs.Encodings.{ready}
use Rattle.st_words.specs.Steps.{Step, CellStore, CellChange, ActiveAdd, ActiveLoad, SlotTake, SlotPut, Answer, Number, Took, Can, HasInHand, some_thread, taken_share}
use Rattle.st_words.specs.Views.{Progress, with_progress, without_waiter, Does}
use Rattle.st_words.specs.Plain.{first_words, first_cargoes, first_views, added}
use Rattle.st_words.specs.Promises.{Promises, IsActive}
use Rattle.st_words.specs.Careful.{CanSpare, unit_in}
use Rattle.st_words.specs.Moves.{suspending, giving, restarting, beginning, exporting, MaySuspend, MayGive, MayRestart}
use Rattle.st_words.specs.Shares.{Covered}
use Rattle.st_world.specs.World.{World, slot_of, seen, Finds, world_after}
use Rattle.st_world.specs.OfPlain.{world_of}
use Rattle.st_counts.specs.Counting.{filling, Counts}

-- ---- what a step has to keep

-- the unit that goes with a chain that is put is that of the slot, and one that goes into mail can be spared
abbrev pub SparesFor : View → Slot → Type 0
SparesFor u (Cell c) = Prim.Unit
SparesFor u (Mail at) = CanSpare u u.hand

-- what a careful step keeps of the count: a waiter's chain is taken, and a waiter made ready, where a unit was added ahead for it; a unit goes where it
-- can be spared
abbrev pub Spares : View → Step → Type 0
Spares u (SlotTake (Cell c)) = HasInHand u c → taken_share u < u.share
Spares u (SlotPut slot chain cargo) = (cargo.unit ≡ unit_in slot) × SparesFor u slot
Spares u (CellStore c Standing n) = n ≡ ready → HasInHand u c → (taken_share u < u.share) × CanSpare u (without_waiter c u.hand)
Spares u (ActiveAdd false) = CanSpare u u.hand
Spares u s = Prim.Unit

-- who has changed a State word has a thread or a number in hand; one that found another word than it expected has changed nothing
abbrev pub HasWork : View → Step → Answer → Type 0
HasWork u (CellChange c old new) (Number n) = n ≡ old → (u.threads ≢ []) ⊎ (u.hand ≢ [])
HasWork u s a = Prim.Unit

-- by the item that goes with a step, or that the threads make by themselves, no worker comes to a thread that has none
abbrev pub NoneBegun : View → List Known → Type 0
NoneBegun u threads = some_thread threads ≤ some_thread u.threads

-- what follows from where each thread is: a chain that the view tells to count as active counts, a waiter that becomes ready is in its slot and doesn't
-- count yet, and a slot is empty where a chain is put
abbrev pub IsWeighed : World → View → Step → Type 0
IsWeighed x u (SlotTake (Cell c)) = IsActive u (Cell c) → (x.home_cargo c).unit ≡ 1
IsWeighed x u (SlotPut slot chain cargo) = slot_of x slot ≡ None
IsWeighed x u (CellStore c Standing n) = n ≡ ready → HasInHand u c → (x.home c ≢ None) × ((x.home_cargo c).unit ≡ 0)
IsWeighed x u s = Prim.Unit

-- each kind of step keeps the count, whatever is answered
abbrev pub Kept : Type 0
Kept = (x : World) (w : ℕ) (s : Step) (a : Answer) (v : View) → Counts x → w < x.workers → Can (x.view w) s → Spares (x.view w) s → HasWork (x.view w) s a → IsWeighed x (x.view w) s → Finds x w s a → Does (x.view w) s a v → NoneBegun (x.view w) v.threads → Counts (world_after x w s a v)

-- so does what a worker does by itself
pub record MoveLaws : Type 0 where
  pub progresses : (x : World) (w : ℕ) (progress : Progress) → Counts x → NoneBegun (x.view w) progress.threads → Counts (seen w (with_progress progress (x.view w)) x)
  pub suspends : (x : World) (w : ℕ) (t : Known) (rest : List Known) (wait : Waiting) → Counts x → MaySuspend (x.view w) t rest wait → Counts (seen w (suspending t rest wait (x.view w)) x)
  pub gives : (x : World) (w : ℕ) (t : Known) (above : List Known) → Counts x → MayGive (x.view w) t above → Counts (seen w (giving t above (x.view w)) x)
  pub restarts : (x : World) (w : ℕ) (carried : Carried) → Counts x → MayRestart (x.view w) carried → Counts (seen w (restarting carried (x.view w)) x)
  -- the parent is a thread of the worker
  pub begins : (x : World) (w : ℕ) (child parent : Known) (rest : List Known) → Counts x → (x.view w).threads ≢ [] → Counts (seen w (beginning child parent rest (x.view w)) x)
  pub exports : (x : World) (w : ℕ) (f : Frame) → Counts x → Counts (seen w (exporting f (x.view w)) x)

-- ---- what follows

pub record ToldLaws : Type 0 where
  pub adds : (x : World) (w : ℕ) (up : Bool) (n : ℕ) → Counts x → w < x.workers → Finds x w (ActiveAdd up) (Number n) → Promises (x.view w) (ActiveAdd up) (Number n)
  pub loads : (x : World) (w n : ℕ) → Counts x → w < x.workers → Finds x w ActiveLoad (Number n) → Promises (x.view w) ActiveLoad (Number n)
  -- what goes with a chain that is taken is at most one unit, none where no chain is, and one where it was in mail
  pub light : (x : World) (w : ℕ) (slot : Slot) (chain : Option Chain) (cargo : Cargo) → Counts x → Finds x w (SlotTake slot) (Took chain cargo) → cargo.unit ≤ filling chain
  pub mailed : (x : World) (w at : ℕ) (chain : Chain) (cargo : Cargo) → Counts x → Finds x w (SlotTake (Mail at)) (Took (Some chain) cargo) → cargo.unit ≡ 1
  -- the count doesn't wrap
  pub within : (x : World) → Counts x → x.active < 2 ^ 64
  pub rises : (x : World) → Counts x → added true x.active ≡ x.active + 1
  pub falls : (x : World) (w : ℕ) → Counts x → w < x.workers → 1 ≤ (x.view w).share → added false x.active + 1 ≡ x.active
  -- what is always so of a view
  pub covered : (x : World) (w : ℕ) → Counts x → Covered (x.view w)

-- where nothing is active, no worker has a thread, a chain or a number in hand, no chain counts, and none is in mail
pub record NoneLaws : Type 0 where
  pub share : (x : World) (w : ℕ) → Counts x → w < x.workers → x.active ≡ 0 → (x.view w).share ≡ 0
  pub threads : (x : World) (w : ℕ) → Counts x → w < x.workers → x.active ≡ 0 → (x.view w).threads ≡ []
  pub chains : (x : World) (w : ℕ) → Counts x → w < x.workers → x.active ≡ 0 → (x.view w).chains ≡ []
  pub hand : (x : World) (w : ℕ) → Counts x → w < x.workers → x.active ≡ 0 → (x.view w).hand ≡ []
  pub home : (x : World) (c : ℕ) → Counts x → c < x.cells → x.active ≡ 0 → (x.home_cargo c).unit ≡ 0
  pub post : (x : World) (v : ℕ) → Counts x → v < x.workers → x.active ≡ 0 → x.post v ≡ None
  -- and nothing will be
  pub stays : (x : World) (w : ℕ) (s : Step) (a : Answer) (v : View) → Counts x → w < x.workers → x.active ≡ 0 → Can (x.view w) s → (world_after x w s a v).active ≡ 0

-- a board that is opened has it, for at most 31 workers
abbrev pub First : Type 0
First = (limits : Limits) (workers : ℕ) (thread : Thread) → workers ≤ 31 → Counts (world_of (limits.stack / 8) (first_words limits workers) (first_cargoes limits workers thread) (first_views limits workers))
