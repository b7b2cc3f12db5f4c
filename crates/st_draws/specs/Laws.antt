-- The laws of drawn numbers, over worlds. Read Kept (each careful step keeps them, whatever is answered), MoveLaws (so does what a worker does between steps), ToldLaws
-- (what follows for a number that is drawn, and for one that is named) and First.
use Rattle.std.specs.Prelude.{◌≡◌, ◌≢◌, ℕ, ◌+◌, ◌/◌, ◌≤◌, ◌<◌, List}
use Rattle.std.specs.List.{Contains}
use Rattle.st_base.specs.declared.chain.Frame.{Frame}
use Rattle.st_base.specs.declared.chain.Waiting.{Waiting}
use Rattle.st_base.specs.declared.limits.Limits.{Limits}
use Rattle.st_base.specs.declared.thread.Thread.{Thread}
use Rattle.st_words.specs.declared.view.Known.{Known}
use Rattle.st_words.specs.declared.view.Carried.{Carried}
use Rattle.st_words.specs.declared.view.View.{View}
use Rattle.st_words.specs.Steps.{Step, CellChange, Draw, Answer, Number, Can}
use Rattle.st_words.specs.Views.{Progress, with_progress, Does}
use Rattle.st_words.specs.Plain.{first_words, first_cargoes, first_views, one_more}
use Rattle.st_words.specs.Careful.{Meaning, Careful}
use Rattle.st_words.specs.Moves.{suspending, giving, restarting, beginning, exporting}
use Rattle.st_world.specs.World.{World, seen, Finds, world_after}
use Rattle.st_world.specs.OfPlain.{world_of}
use Rattle.st_draws.specs.Drawing.{Draws}

-- what others know: a State word is changed of a named cell alone
abbrev pub IsKnown : World → View → Step → Type 0
IsKnown x u (CellChange c old new) = x.owner c ≢ 0
IsKnown x u s = Prim.Unit

abbrev pub Kept : Meaning → Type 0
Kept m = (x : World) (w : ℕ) (s : Step) (a : Answer) (v : View) → Draws x → w < x.workers → Can (x.view w) s → Careful m (x.view w) s → IsKnown x (x.view w) s → Finds x w s a → Does (x.view w) s a v → Draws (world_after x w s a v)

-- what a worker does by itself changes nothing that is read
pub record MoveLaws : Type 0 where
  pub progresses : (x : World) (w : ℕ) (progress : Progress) → Draws x → Draws (seen w (with_progress progress (x.view w)) x)
  pub suspends : (x : World) (w : ℕ) (t : Known) (rest : List Known) (wait : Waiting) → Draws x → Draws (seen w (suspending t rest wait (x.view w)) x)
  pub gives : (x : World) (w : ℕ) (t : Known) (above : List Known) → Draws x → Draws (seen w (giving t above (x.view w)) x)
  pub restarts : (x : World) (w : ℕ) (carried : Carried) → Draws x → Draws (seen w (restarting carried (x.view w)) x)
  pub begins : (x : World) (w : ℕ) (child parent : Known) (rest : List Known) → Draws x → Draws (seen w (beginning child parent rest (x.view w)) x)
  pub exports : (x : World) (w : ℕ) (f : Frame) → Draws x → Draws (seen w (exporting f (x.view w)) x)

pub record ToldLaws : Type 0 where
  -- a number that is drawn now is nobody's, and its cell isn't named
  pub fresh : (x : World) (w n : ℕ) → Draws x → Finds x w Draw (Number n) → (x.owner n ≡ 0) × (x.state n ≡ 0) × ((v : ℕ) → Contains (x.view v).drawn n → ⊥)
  -- one that was drawn and not named is one worker's
  pub one_drawer : (x : World) (v w c : ℕ) → Draws x → Contains (x.view v).drawn c → Contains (x.view w).drawn c → v ≡ w
  pub unnamed : (x : World) (w c : ℕ) → Draws x → Contains (x.view w).drawn c → (x.owner c ≡ 0) × (x.state c ≡ 0)
  -- Drawn doesn't wrap
  pub within : (x : World) → Draws x → x.drawn ≤ x.cells + x.workers
  pub rises : (x : World) → Draws x → one_more x.drawn ≡ x.drawn + 1

-- a board that is opened has it, for at most 31 workers: the root's cell was drawn
abbrev pub First : Type 0
First = (limits : Limits) (workers : ℕ) (thread : Thread) → workers ≤ 31 → Draws (world_of (limits.stack / 8) (first_words limits workers) (first_cargoes limits workers thread) (first_views limits workers))
