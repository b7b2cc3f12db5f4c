-- The laws of requests and mail, over worlds. Read Kept (each kind of step of a worker keeps them, whatever is answered) and SlotLaws (who may take from a mail
-- slot finds it filled, and who may put into one finds it empty), ToldLaws (what loads promise) and MoveLaws (what a worker does between steps).
use Rattle.std.specs.Prelude.{◌≡◌, ℕ, ◌/◌, ◌≤◌, ◌<◌, List, Some, None}
use Rattle.st_base.specs.declared.chain.Chain.{Chain}
use Rattle.st_base.specs.declared.chain.Frame.{Frame}
use Rattle.st_base.specs.declared.chain.Waiting.{Waiting}
use Rattle.st_base.specs.declared.limits.Limits.{Limits}
use Rattle.st_base.specs.declared.thread.Thread.{Thread}
use Rattle.st_words.specs.declared.view.Slot.TheVariants.{Mail}
use Rattle.st_words.specs.declared.view.Known.{Known}
use Rattle.st_words.specs.declared.view.Carried.{Carried}
use Rattle.st_words.specs.declared.view.View.{View}
use Rattle.st_words.specs.Steps.{Step, Answer, Number, RequestLoad, MailLoad, Can, MayTake, MayPut}
use Rattle.st_words.specs.Promises.{Promises}
use Rattle.st_words.specs.Views.{Progress, with_progress, Does}
use Rattle.st_words.specs.Moves.{suspending, giving, restarting, beginning, exporting}
use Rattle.st_words.specs.Plain.{first_words, first_cargoes, first_views}
use Rattle.st_world.specs.World.{World, seen, Finds, world_after}
use Rattle.st_world.specs.OfPlain.{world_of}
use Rattle.st_requests.specs.Mailing.{Requests}

abbrev pub Kept : Type 0
Kept = (x : World) (w : ℕ) (s : Step) (a : Answer) (v : View) → Requests x → w < x.workers → Can (x.view w) s → Finds x w s a → Does (x.view w) s a v → Requests (world_after x w s a v)

pub record SlotLaws : Type 0 where
  pub filled : (x : World) (w at : ℕ) → Requests x → w < x.workers → MayTake (x.view w) (Mail at) → (chain : Chain) × (x.post at ≡ Some chain)
  pub empty : (x : World) (w at : ℕ) (chain : Chain) → Requests x → w < x.workers → MayPut (x.view w) (Mail at) chain → x.post at ≡ None

pub record ToldLaws : Type 0 where
  pub letters : (x : World) (w n : ℕ) → Requests x → Finds x w MailLoad (Number n) → Promises (x.view w) MailLoad (Number n)
  pub requests : (x : World) (w at n : ℕ) → Requests x → w < x.workers → Finds x w (RequestLoad at) (Number n) → Promises (x.view w) (RequestLoad at) (Number n)

-- what a worker does by itself changes nothing that is read
pub record MoveLaws : Type 0 where
  pub progresses : (x : World) (w : ℕ) (progress : Progress) → Requests x → Requests (seen w (with_progress progress (x.view w)) x)
  pub suspends : (x : World) (w : ℕ) (t : Known) (rest : List Known) (wait : Waiting) → Requests x → Requests (seen w (suspending t rest wait (x.view w)) x)
  pub gives : (x : World) (w : ℕ) (t : Known) (above : List Known) → Requests x → Requests (seen w (giving t above (x.view w)) x)
  pub restarts : (x : World) (w : ℕ) (carried : Carried) → Requests x → Requests (seen w (restarting carried (x.view w)) x)
  pub begins : (x : World) (w : ℕ) (child parent : Known) (rest : List Known) → Requests x → Requests (seen w (beginning child parent rest (x.view w)) x)
  pub exports : (x : World) (w : ℕ) (f : Frame) → Requests x → Requests (seen w (exporting f (x.view w)) x)

-- a board that is opened has them, for at most 31 workers
abbrev pub First : Type 0
First = (limits : Limits) (workers : ℕ) (thread : Thread) → workers ≤ 31 → Requests (world_of (limits.stack / 8) (first_words limits workers) (first_cargoes limits workers thread) (first_views limits workers))
