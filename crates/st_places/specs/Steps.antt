-- What a step is told of beside Careful, for the places of threads: IsKnown (what follows from the other groups), and ThreadsGo (which thread goes out by the
-- item that goes with the step).
use Rattle.std.specs.Prelude.{◌≡◌, ℕ, ◌<◌, Bool, true, false, not, ◌&&◌, ◌==◌, ◌∷◌, None}
use Rattle.st_base.specs.declared.chain.Waiting.{Waiting}
use Rattle.st_words.specs.declared.view.CellWord.TheVariants.{Owner, Standing}
use Rattle.st_words.specs.declared.view.Slot.TheVariants.{Mail}
use Rattle.st_words.specs.declared.view.Known.{Known}
use Rattle.st_words.specs.declared.view.View.{View}
use Rattle.st_words.specs.Encodings.{full_word, ready}
use Rattle.st_words.specs.Steps.{Step, CellStore, CellChange, SlotPut, Answer, Number}
use Rattle.st_words.specs.Careful.{IsOver as HasSeenOver}
use Rattle.st_words.specs.Views.{counts_cell, owner_seen}
use Rattle.st_world.specs.World.{World}
use Rattle.st_lists.specs.Laws.{KnowsKind}
use Rattle.st_spots.specs.Listing.{counters}
use Rattle.st_seats.specs.Placing.{IsOver, cells_of}

-- a cell that is named was not; what the view has seen to be over is over, where a waiter becomes ready; a State word that is changed is of the kind that
-- the worker takes it for; a mail slot is there, and empty, where a chain is put
abbrev pub IsKnown : World → View → Step → Type 0
IsKnown x u (CellStore c Owner n) = (x.owner c ≡ 0) × (x.state c ≡ 0)
IsKnown x u (CellStore c Standing n) = n ≡ ready → (k : Waiting) → HasSeenOver u k → IsOver (counters x.owner) x.state k
IsKnown x u (CellChange c old new) = KnowsKind (x.owner c) u c
IsKnown x u (SlotPut (Mail at) chain cargo) = (x.post at ≡ None) × (at < x.workers)
IsKnown x u s = Prim.Unit

-- ---- threads

-- the threads that go on are the same, by their numbers
abbrev pub SameThreads : View → View → Type 0
SameThreads u v = cells_of v.threads ≡ cells_of u.threads

-- the top thread, whose cell this is, goes out
abbrev pub TopEnds : View → ℕ → View → Type 0
TopEnds u c v = (top : Known) × (u.threads ≡ top ∷ v.threads) × (top.note.cell ≡ c)

-- a future becomes full
abbrev pub is_fill : View → Step → Answer → Bool
is_fill u (CellChange c old new) (Number n) = ((n == old) && not (counts_cell (owner_seen c u.owners))) && (new == full_word)
is_fill u s a = false

abbrev pub GoesOut : Bool → View → ℕ → View → Type 0
GoesOut true u c v = TopEnds u c v
GoesOut false u c v = SameThreads u v

abbrev pub ThreadsGo : View → Step → Answer → View → Type 0
ThreadsGo u (CellChange c old new) a v = GoesOut (is_fill u (CellChange c old new) a) u c v
ThreadsGo u s a v = SameThreads u v
