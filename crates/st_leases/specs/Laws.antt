-- The laws of the leases, over worlds. Read Kept (each kind of step of a worker keeps them, whatever is answered), MoveLaws (so does what a worker
-- does between steps) and ToldLaws (what follows for the answers of loads, looks and takes, and for each view).
use Rattle.std.specs.Prelude.{◌≡◌, ℕ, ◌/◌, ◌<◌, List, length, Option, Some, None}
use Rattle.std.specs.List.{Contains}
use Rattle.st_base.specs.declared.chain.Chain.{Chain}
use Rattle.st_base.specs.declared.chain.Frame.{Frame}
use Rattle.st_base.specs.declared.chain.Waiting.{Waiting}
use Rattle.st_base.specs.declared.limits.Limits.{Limits}
use Rattle.st_base.specs.declared.thread.Thread.{Thread}
use Rattle.st_words.specs.declared.view.Slot.{Slot}
use Rattle.st_words.specs.declared.view.Known.{Known}
use Rattle.st_words.specs.declared.view.Carried.{Carried}
use Rattle.st_words.specs.declared.view.Cargo.{Cargo}
use Rattle.st_words.specs.declared.view.View.{View}
use Rattle.st_words.specs.Steps.{Step, StackLoad, Look, SlotTake, SlotPut, Answer, Number, Looked, Took, Can, return_place, home_of, kept}
use Rattle.st_words.specs.Views.{Progress, with_progress, Does}
use Rattle.st_words.specs.Plain.{first_words, first_cargoes, first_views}
use Rattle.st_words.specs.Promises.{Promises, ComesWhole}
use Rattle.st_words.specs.Careful.{Writes, MayCarry}
use Rattle.st_words.specs.Moves.{suspending, giving, restarting, beginning, exporting, MayExport}
use Rattle.st_words.specs.Leased.{KeepsLeased}
use Rattle.st_world.specs.World.{World, slot_of, seen, Finds, world_after}
use Rattle.st_world.specs.OfPlain.{world_of}
use Rattle.st_holders.specs.Leasing.{Leasing}

-- what a careful step keeps of the leases: no 0 comes into the return word of a leased frame, and a chain goes with leased frames and all their words
abbrev pub Tends : View → Step → Type 0
Tends u (SlotPut slot chain cargo) = MayCarry u chain cargo
Tends u s = Writes u s

-- a chain is put into an empty slot; that it is empty follows from where each thread is
abbrev pub IsVacant : World → Step → Type 0
IsVacant x (SlotPut slot chain cargo) = slot_of x slot ≡ None
IsVacant x s = Prim.Unit

-- each kind of step keeps them, whatever is answered
abbrev pub Kept : Type 0
Kept = (x : World) (w : ℕ) (s : Step) (a : Answer) (v : View) → Leasing x → w < x.workers → Can (x.view w) s → Tends (x.view w) s → IsVacant x s → Finds x w s a → Does (x.view w) s a v → Leasing (world_after x w s a v)

-- so does what a worker does by itself
pub record MoveLaws : Type 0 where
  pub progresses : (x : World) (w : ℕ) (progress : Progress) → Leasing x → Leasing (seen w (with_progress progress (x.view w)) x)
  pub suspends : (x : World) (w : ℕ) (t : Known) (rest : List Known) (wait : Waiting) → Leasing x → Leasing (seen w (suspending t rest wait (x.view w)) x)
  pub gives : (x : World) (w : ℕ) (t : Known) (above : List Known) → Leasing x → Leasing (seen w (giving t above (x.view w)) x)
  pub restarts : (x : World) (w : ℕ) (carried : Carried) → Leasing x → Leasing (seen w (restarting carried (x.view w)) x)
  pub begins : (x : World) (w : ℕ) (child parent : Known) (rest : List Known) → Leasing x → Leasing (seen w (beginning child parent rest (x.view w)) x)
  pub exports : (x : World) (w : ℕ) (f : Frame) → Leasing x → w < x.workers → MayExport (x.view w) f → Leasing (seen w (exporting f (x.view w)) x)

pub record ToldLaws : Type 0 where
  pub loads : (x : World) (w p n : ℕ) → Leasing x → Can (x.view w) (StackLoad p) → Finds x w (StackLoad p) (Number n) → Promises (x.view w) (StackLoad p) (Number n)
  pub looks : (x : World) (w p n : ℕ) (cargo : Cargo) → Leasing x → Finds x w (Look p) (Looked n cargo) → Promises (x.view w) (Look p) (Looked n cargo)
  -- a chain that is taken comes whole; a frame of it on the taker's own stack is one that it has exported; its words lie on the stacks
  pub whole : (x : World) (w : ℕ) (z : Slot) (chain : Option Chain) (cargo : Cargo) → Leasing x → w < x.workers → Finds x w (SlotTake z) (Took chain cargo) → ComesWhole (x.view w) cargo
  pub own : (x : World) (w : ℕ) (z : Slot) (chain : Option Chain) (cargo : Cargo) (f : Frame) → Leasing x → w < x.workers → Finds x w (SlotTake z) (Took chain cargo) → Contains cargo.frames f → home_of (x.view w).each (return_place f) ≡ (x.view w).number → Contains (x.view w).exported f
  pub within : (x : World) (w : ℕ) (z : Slot) (chain : Option Chain) (cargo : Cargo) (p n : ℕ) → Leasing x → w < x.workers → Finds x w (SlotTake z) (Took chain cargo) → kept cargo.words p ≡ Some n → p < length (x.view w).held
  -- what is always so of a view
  pub keeps : (x : World) (w : ℕ) → Leasing x → w < x.workers → KeepsLeased (x.view w)

-- a board that is opened has them
abbrev pub First : Type 0
First = (limits : Limits) (workers : ℕ) (thread : Thread) → Leasing (world_of (limits.stack / 8) (first_words limits workers) (first_cargoes limits workers thread) (first_views limits workers))
