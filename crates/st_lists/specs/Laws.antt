-- The laws of numbers and lists, over worlds. Read Kept (each kind of step of a worker keeps them, whatever is answered, and how the numbers move), MoveLaws (so
-- does what a worker does between steps, and the numbers stay), ToldLaws (what follows for the words that are read, and where the numbers of a view
-- are) and First (a board that is opened).
-- Tends is what a careful step keeps of the lists, and IsKnown what others know of it.
use Rattle.std.specs.Prelude.{◌≡◌, ◌≢◌, ◌⊎◌, ℕ, suc, ◌+◌, ◌/◌, ◌<◌, ◌≤◌, true, false, List, Some, None}
use Rattle.std.specs.List.{Contains}
use Rattle.st_base.specs.declared.chain.Frame.{Frame}
use Rattle.st_base.specs.declared.chain.Waiting.{Waiting}
use Rattle.st_base.specs.declared.chain.Waiting.TheVariants as waits
use Rattle.st_base.specs.declared.limits.Limits.{Limits}
use Rattle.st_base.specs.declared.thread.Thread.{Thread}
use Rattle.st_words.specs.declared.view.CellWord.TheVariants.{Owner, Next, Standing}
use Rattle.st_words.specs.declared.view.Slot.TheVariants.{Cell}
use Rattle.st_words.specs.declared.view.Known.{Known}
use Rattle.st_words.specs.declared.view.Carried.{Carried}
use Rattle.st_words.specs.declared.view.Waiter.{Waiter}
use Rattle.st_words.specs.declared.view.View.{View}
use Rattle.st_words.specs.Encodings.{is_counter, full_word, count_in, head_in, counter_word, ready}
use Rattle.st_words.specs.Steps.{Step, CellStore, CellChange, RootTake, SlotTake, SlotPut, Answer, Number, Can, HasInHand, IsFuture, IsCounter, IsDone}
use Rattle.st_words.specs.Careful.{InHand, IsAtHome}
use Rattle.st_words.specs.Views.{Progress, with_progress, counts_cell, owner_seen, Does}
use Rattle.st_words.specs.Plain.{first_words, first_cargoes, first_views}
use Rattle.st_words.specs.Promises.{Promises}
use Rattle.st_words.specs.Moves.{suspending, giving, restarting, beginning, exporting}
use Rattle.st_world.specs.World.{World, seen, Finds, world_after}
use Rattle.st_world.specs.OfPlain.{world_of}
use Rattle.st_spots.specs.Listing.{Spot, Nowhere, Held, Readied, Rooted, Lists}
use Rattle.st_lists.specs.Going.{Stays, Goes}

-- ---- what a careful step keeps of the lists

abbrev pub IsLast : View → ℕ → Type 0
IsLast u c = InHand u c (λ x. x.leads ≡ false)

-- a waiter of a future or a counter is parked there, linked to the head that was seen, while its chain is in its slot
abbrev pub ParksThere : View → ℕ → ℕ → ℕ → Type 0
ParksThere u c old new = (waiter : ℕ) × (new ≡ waiter + 1) × IsAtHome u waiter × InHand u waiter (λ x. (x.next ≡ Some old) × (x.wait ≡ Some (waits.Touch c)))

abbrev pub JoinsThere : View → ℕ → ℕ → ℕ → Type 0
JoinsThere u c old new = (waiter : ℕ) × (least : ℕ) × (new ≡ counter_word (count_in old) (waiter + 1)) × (count_in old < least) × IsAtHome u waiter × InHand u waiter (λ x. (x.next ≡ Some (head_in old)) × (x.wait ≡ Some (waits.Join c least)))

-- what is behind a waiter that is linked or made ready is known; a waiter is parked where it waits
abbrev pub Tends : View → Step → Type 0
Tends u (CellStore c Next n) = IsLast u c
Tends u (CellStore c Standing n) = n ≡ ready → IsLast u c
Tends u (CellChange c old new) = (IsFuture u c × (ParksThere u c old new ⊎ (new ≡ full_word))) ⊎ (IsCounter u c × (JoinsThere u c old new ⊎ IsDone u c old new))
Tends u s = Prim.Unit

-- ---- what is known by others

-- a cell is of a counter or a future, as the worker takes it
abbrev pub KnowsKind : ℕ → View → ℕ → Type 0
KnowsKind owner u c = (IsFuture u c → is_counter owner ≡ false) × (IsCounter u c → is_counter owner ≡ true) × (counts_cell (owner_seen c u.owners) ≡ is_counter owner)

-- a cell that is named has the State word 0; the worker knows the kind of a cell; a chain that is taken by its number in the hand waits as it says; the
-- number of a chain that is put is in the hand or nowhere
abbrev pub IsKnown : (x : World) → Lists x → ℕ → Step → Type 0
IsKnown x l w (CellStore c Owner n) = x.state c ≡ 0
IsKnown x l w (CellChange c old new) = KnowsKind (x.owner c) (x.view w) c
IsKnown x l w (SlotTake (Cell c)) = l.spot c ≡ Held w → (x.home_cargo c).carried.wait ≡ l.wait c
IsKnown x l w (SlotPut (Cell c) chain cargo) = (HasInHand (x.view w) c → ⊥) → l.spot c ≡ Nowhere
IsKnown x l w s = Prim.Unit

-- ---- laws

-- the lists of a world, and P holds of where the numbers are and what they wait for
abbrev pub Having : World → ((ℕ → Spot) → (ℕ → Waiting) → Type 0) → Type 0
Having x P = (l : Lists x) × P l.spot l.wait

-- the lists of the world y, where the numbers are as those of x are
abbrev pub Staying : (x : World) → Lists x → World → Type 0
Staying x l y = Having y (λ spot wait. Stays l.spot l.wait spot wait)

-- each kind of step keeps them, whatever is answered, where it is careful and what others know is so, and the numbers go as Goes says
abbrev pub Kept : Type 0
Kept = (x : World) (l : Lists x) (w : ℕ) (s : Step) (a : Answer) (v : View) → w < x.workers → Can (x.view w) s → Tends (x.view w) s → IsKnown x l w s → Finds x w s a → Does (x.view w) s a v → Having (world_after x w s a v) (λ spot wait. Goes l.spot l.wait spot wait w (x.view w) s a)

-- by what a worker does by itself the numbers stay
pub record MoveLaws : Type 0 where
  pub progresses : (x : World) (l : Lists x) (w : ℕ) (progress : Progress) → Staying x l (seen w (with_progress progress (x.view w)) x)
  pub suspends : (x : World) (l : Lists x) (w : ℕ) (t : Known) (rest : List Known) (wait : Waiting) → Staying x l (seen w (suspending t rest wait (x.view w)) x)
  pub gives : (x : World) (l : Lists x) (w : ℕ) (t : Known) (above : List Known) → Staying x l (seen w (giving t above (x.view w)) x)
  pub restarts : (x : World) (l : Lists x) (w : ℕ) (carried : Carried) → Staying x l (seen w (restarting carried (x.view w)) x)
  pub begins : (x : World) (l : Lists x) (w : ℕ) (child parent : Known) (rest : List Known) → Staying x l (seen w (beginning child parent rest (x.view w)) x)
  pub exports : (x : World) (l : Lists x) (w : ℕ) (f : Frame) → Staying x l (seen w (exporting f (x.view w)) x)

-- what follows for the words that are read, and where the numbers of a view are
pub record ToldLaws : Type 0 where
  pub takes : (x : World) (l : Lists x) (w n : ℕ) → Finds x w RootTake (Number n) → Promises (x.view w) RootTake (Number n)
  pub finds : (x : World) (l : Lists x) (w n : ℕ) → Finds x w RootTake (Number (suc n)) → l.spot 0 ≡ Rooted None
  -- the head of the waiters of a cell is one of the cells, by what its Owner word tells
  pub future : (x : World) (l : Lists x) (c : ℕ) → is_counter (x.owner c) ≡ false → (x.state c ≡ full_word) ⊎ (x.state c ≤ x.cells)
  pub counter : (x : World) (l : Lists x) (c : ℕ) → is_counter (x.owner c) ≡ true → head_in (x.state c) ≤ x.cells
  -- and so is what is behind a waiter that leads
  pub leads : (x : World) (l : Lists x) (w : ℕ) (y : Waiter) → Contains (x.view w).hand y → y.leads ≡ true → x.next y.cell ≤ x.cells
  pub hand : (x : World) (l : Lists x) (w c : ℕ) → HasInHand (x.view w) c → l.spot c ≡ Held w
  pub readies : (x : World) (l : Lists x) (w c : ℕ) → Contains (x.view w).ready c → l.spot c ≡ Readied w
  pub root : (x : World) (l : Lists x) (w : ℕ) → (x.view w).root ≡ true → l.spot 0 ≡ Rooted (Some w)

-- a board that is opened has them: the root's chain may be found, and no other number is anywhere
abbrev pub First : Type 0
First = (limits : Limits) (workers : ℕ) (thread : Thread) →
    Having (world_of (limits.stack / 8) (first_words limits workers) (first_cargoes limits workers thread) (first_views limits workers)) (λ spot wait. (spot 0 ≡ Rooted None) × ((c : ℕ) → c ≢ 0 → spot c ≡ Nowhere))
