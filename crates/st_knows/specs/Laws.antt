-- The laws of what views have seen of cells, over worlds. Read Kept (each careful step keeps it, whatever is answered), MoveLaws (so does what a worker does between
-- steps), ToldLaws (what follows for the answers of loads, and what the worker takes a cell for) and First.
use Rattle.std.specs.Prelude.{◌≡◌, ◌≢◌, ◌⊎◌, ℕ, ◌/◌, ◌≤◌, ◌<◌, false, List, Some}
use Rattle.std.specs.List.{Contains}
use Rattle.st_base.specs.declared.chain.Frame.{Frame}
use Rattle.st_base.specs.declared.chain.Waiting.{Waiting}
use Rattle.st_base.specs.declared.limits.Limits.{Limits}
use Rattle.st_base.specs.declared.thread.Thread.{Thread}
use Rattle.st_base.specs.declared.thread.Held.{Held}
use Rattle.st_words.specs.declared.view.CellWord.TheVariants.{Owner, Value}
use Rattle.st_words.specs.declared.view.Known.{Known}
use Rattle.st_words.specs.declared.view.Carried.{Carried}
use Rattle.st_words.specs.declared.view.View.{View}
use Rattle.st_words.specs.Encodings.{is_counter, full_word, count_in}
use Rattle.st_words.specs.Steps.{Step, CellLoad, CellStore, CellChange, StopLoad, StopSet, Answer, Number, Can, IsFuture, IsCounter, HasThread}
use Rattle.st_words.specs.Views.{Progress, with_progress, Does, kind_of}
use Rattle.st_words.specs.Laws.{SeesOneOwner}
use Rattle.st_words.specs.Plain.{first_words, first_cargoes, first_views}
use Rattle.st_words.specs.Promises.{Promises}
use Rattle.st_words.specs.Careful.{Meaning, Careful}
use Rattle.st_words.specs.Moves.{suspending, giving, restarting, beginning, exporting}
use Rattle.st_world.specs.World.{World, seen, Finds, world_after}
use Rattle.st_world.specs.OfPlain.{world_of}
use Rattle.st_lists.specs.Laws.{KnowsKind}
use Rattle.st_knows.specs.Knowing.{Knows}

-- what others know: a cell that is named was not; a value is stored while its future isn't full; a State word that is changed is of a named cell of the kind that the
-- worker takes it for, and a count doesn't fall
abbrev pub IsKnown : World → View → Step → Type 0
IsKnown x u (CellStore c Owner n) = x.owner c ≡ 0
IsKnown x u (CellStore c Value n) = x.state c ≢ full_word
IsKnown x u (CellChange c old new) = (x.owner c ≢ 0) × KnowsKind (x.owner c) u c × (IsCounter u c → count_in old ≤ count_in new)
IsKnown x u s = Prim.Unit

abbrev pub Kept : Meaning → Type 0
Kept m = (x : World) (w : ℕ) (s : Step) (a : Answer) (v : View) → Knows x → w < x.workers → Can (x.view w) s → Careful m (x.view w) s → IsKnown x (x.view w) s → Finds x w s a → Does (x.view w) s a v → Knows (world_after x w s a v)

-- what a worker does by itself changes nothing that is read
pub record MoveLaws : Type 0 where
  pub progresses : (x : World) (w : ℕ) (progress : Progress) → Knows x → Knows (seen w (with_progress progress (x.view w)) x)
  pub suspends : (x : World) (w : ℕ) (t : Known) (rest : List Known) (wait : Waiting) → Knows x → Knows (seen w (suspending t rest wait (x.view w)) x)
  pub gives : (x : World) (w : ℕ) (t : Known) (above : List Known) → Knows x → Knows (seen w (giving t above (x.view w)) x)
  pub restarts : (x : World) (w : ℕ) (carried : Carried) → Knows x → Knows (seen w (restarting carried (x.view w)) x)
  pub begins : (x : World) (w : ℕ) (child parent : Known) (rest : List Known) → Knows x → Knows (seen w (beginning child parent rest (x.view w)) x)
  pub exports : (x : World) (w : ℕ) (f : Frame) → Knows x → Knows (seen w (exporting f (x.view w)) x)

pub record ToldLaws : Type 0 where
  -- the cell of a thread is of a future, by where each thread is
  pub kind : (x : World) (w c : ℕ) → Knows x → (HasThread (x.view w) c → is_counter (x.owner c) ≡ false) → IsFuture (x.view w) c ⊎ IsCounter (x.view w) c → KnowsKind (x.owner c) (x.view w) c
  pub named : (x : World) (w c : ℕ) → Knows x → (HasThread (x.view w) c → x.owner c ≢ 0) → IsFuture (x.view w) c ⊎ IsCounter (x.view w) c → x.owner c ≢ 0
  pub owners : (x : World) (w c n : ℕ) → Knows x → Finds x w (CellLoad c Owner) (Number n) → (m : ℕ) → Contains (x.view w).owners (c, m) → n ≡ m
  pub full : (x : World) (w c : ℕ) → Knows x → Contains (x.view w).full c → x.state c ≡ full_word
  pub counts : (x : World) (w c k : ℕ) → Knows x → Contains (x.view w).counts (c, k) → k ≤ count_in (x.state c)
  pub values : (x : World) (w c n : ℕ) → Knows x → Finds x w (CellLoad c Value) (Number n) → Promises (x.view w) (CellLoad c Value) (Number n)
  pub stop_load : (x : World) (w n : ℕ) → Knows x → Finds x w StopLoad (Number n) → Promises (x.view w) StopLoad (Number n)
  pub stop_set : (x : World) (w code n : ℕ) → Knows x → Finds x w (StopSet code) (Number n) → Promises (x.view w) (StopSet code) (Number n)
  -- a number whose cell isn't named is in no owners and names of a view
  pub unseen : (x : World) (w c : ℕ) → Knows x → x.owner c ≡ 0 → ((n : ℕ) → Contains (x.view w).owners (c, n) → ⊥) × ((name : Held) → Contains (x.view w).names (name, c) → ⊥)
  -- what is always so of a view
  pub one_owner : (x : World) (w : ℕ) → Knows x → SeesOneOwner (x.view w)
  pub kinds : (x : World) (w : ℕ) (name : Held) (c n : ℕ) → Knows x → Contains (x.view w).names (name, c) → Contains (x.view w).owners (c, n) → kind_of name ≡ Some (is_counter n)

-- a board that is opened has it
abbrev pub First : Type 0
First = (limits : Limits) (workers : ℕ) (thread : Thread) → Knows (world_of (limits.stack / 8) (first_words limits workers) (first_cargoes limits workers thread) (first_views limits workers))
