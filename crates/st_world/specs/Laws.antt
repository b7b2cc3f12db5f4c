-- What is known of worlds. Read PlainLaws: a board over vectors answers what its world answers, and leaves what its world leaves. Reach for
-- TotalLaws where a sum has a number changed.
use Rattle.std.specs.Prelude.{◌≡◌, ◌≢◌, ℕ, ◌+◌, ◌*◌, ◌≤◌, ◌<◌, List, length}
use Rattle.st_words.specs.declared.view.Slot.{Slot}
use Rattle.st_words.specs.declared.view.Slot.TheVariants.{Cell, Mail}
use Rattle.st_words.specs.declared.view.View.{View}
use Rattle.st_words.specs.declared.words.Words.{Words}
use Rattle.st_words.specs.Encodings.{out_bytes}
use Rattle.st_words.specs.Sizes.{Sized}
use Rattle.st_words.specs.Steps.{Step, StackStore, Mark, CellStore, CellChange, RequestChange, MailStore, OutStore, SlotTake, SlotPut, Answer, Can}
use Rattle.st_words.specs.Plain.{Cargoes, view_at, Exact, Left}
use Rattle.st_world.specs.Functions.{put, total}
use Rattle.st_world.specs.World.{World, Finds, world_after}
use Rattle.st_world.specs.OfPlain.{world_of}

-- ---- boards over vectors

abbrev pub HasSlot : World → Slot → Type 0
HasSlot x (Cell c) = c < x.cells
HasSlot x (Mail v) = v < x.workers

-- the word or the slot that a step changes is there
abbrev pub IsPlaced : World → Step → Type 0
IsPlaced x (StackStore p n) = p < x.workers * x.each
IsPlaced x (Mark p) = p < x.workers * x.each
IsPlaced x (CellStore c word n) = c < x.cells
IsPlaced x (CellChange c old new) = c < x.cells
IsPlaced x (RequestChange at old new) = at < x.workers
IsPlaced x (MailStore at n) = at < x.workers
IsPlaced x (OutStore i n) = i < out_bytes
IsPlaced x (SlotTake slot) = HasSlot x slot
IsPlaced x (SlotPut slot chain cargo) = HasSlot x slot
IsPlaced x _ = Prim.Unit

-- its lists are as long as its numbers say
pub record IsWhole (each : ℕ) (x : Words) (ls : Cargoes) (vs : List View) : Type 0 where
  pub sized : Sized x ls vs
  pub stack : length x.stack ≡ length vs * each

-- the worker w has the view v, and the others have theirs
pub record SetsView (vs : List View) (w : ℕ) (v : View) (vs' : List View) : Type 0 where
  pub own : view_at vs' w ≡ v
  pub others : (q : ℕ) → q ≢ w → view_at vs' q ≡ view_at vs q

pub record PlainLaws : Type 0 where
  -- what a worker may ask is of a word or a slot that is there
  pub placed : (each : ℕ) (x : Words) (ls : Cargoes) (vs : List View) (w : ℕ) (s : Step) → IsWhole each x ls vs → w < length vs → Can (view_at vs w) s → IsPlaced (world_of each x ls vs) s
  pub finds : (each : ℕ) (x : Words) (ls : Cargoes) (vs : List View) (w : ℕ) (s : Step) (a : Answer) → IsWhole each x ls vs → Exact x ls w s a → Finds (world_of each x ls vs) w s a
  pub leaves : (each : ℕ) (x : Words) (ls : Cargoes) (vs : List View) (w : ℕ) (s : Step) (a : Answer) (v : View) (x' : Words) (ls' : Cargoes) (vs' : List View) → IsWhole each x ls vs → IsPlaced (world_of each x ls vs) s → Left x ls vs w s a x' ls' vs' → SetsView vs w v vs' → world_of each x' ls' vs' ≡ world_after (world_of each x ls vs) w s a v

-- ---- sums

pub record TotalLaws : Type 0 where
  -- sums of equal numbers are equal
  pub same : (f g : ℕ → ℕ) (n : ℕ) → ((i : ℕ) → i < n → f i ≡ g i) → total f n ≡ total g n
  -- one number is changed
  pub changes : (f : ℕ → ℕ) (i x n : ℕ) → i < n → total (put f i x) n + f i ≡ total f n + x
  -- a number that isn't summed is changed
  pub beyond : (f : ℕ → ℕ) (i x n : ℕ) → n ≤ i → total (put f i x) n ≡ total f n
  -- each number is at most the sum
  pub part : (f : ℕ → ℕ) (i n : ℕ) → i < n → f i ≤ total f n
  -- the sum is 0 where all numbers are
  pub none : (f : ℕ → ℕ) (i n : ℕ) → total f n ≡ 0 → i < n → f i ≡ 0
