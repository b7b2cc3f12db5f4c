-- What a worker does by itself between two of its steps, as far as a view tells: a thread is suspended, given or restarted as a chain of its turn; a
-- child whose cell was named is begun; frames of its stack are exported. What the items of its threads do to these is the program's, and stands
-- in the crates above. No move changes a word of the board.
use Rattle.std.specs.Prelude.{◌≡◌, ◌≢◌, ◌⊎◌, ℕ, ◌≤◌, ◌<◌, true, List, [], ◌∷◌, ◌++◌, Option, Some, None}
use Rattle.std.specs.List.{Contains}
use Rattle.st_base.specs.declared.chain.Frame.{Frame}
use Rattle.st_base.specs.declared.chain.Waiting.{Waiting}
use Rattle.st_base.specs.declared.chain.Waiting.TheVariants as waits
use Rattle.st_words.specs.declared.view.Known.{Known}
use Rattle.st_words.specs.declared.view.Carried.{Carried}
use Rattle.st_words.specs.declared.view.View.{View}
use Rattle.st_words.specs.Encodings.{running}
use Rattle.st_words.specs.Steps.{place_of, return_place, Inside, home_of, kept, Holds, IsLeased, taken_share}
use Rattle.st_words.specs.Views.{without_chain}
use Rattle.st_words.specs.Careful.{IsOver}

-- ---- suspending: the top thread. Where another lies below it, a unit was added ahead

abbrev pub suspended : Known → Waiting → Carried
suspended t wait = record { known = t; wait = wait; trap = None; standing = None }

abbrev pub suspending : Known → List Known → Waiting → View → View
suspending t rest wait v = record v { threads = rest; chains = suspended t wait ∷ v.chains }

pub record MaySuspend (v : View) (t : Known) (rest : List Known) (wait : Waiting) : Type 0 where
  pub is : v.threads ≡ t ∷ rest
  pub none_drawn : v.drawn ≡ []
  pub no_child : v.child ≡ None
  pub covers : taken_share (suspending t rest wait v) ≤ v.share

-- ---- giving: the bottom thread, where another lies above it. A unit was added ahead. Its Standing word is 1, as that of each thread of a worker

abbrev pub given_chain : Known → Carried
given_chain t = record { known = t; wait = waits.Ready; trap = None; standing = Some running }

abbrev pub giving : Known → List Known → View → View
giving t above v = record v { threads = above; chains = given_chain t ∷ v.chains }

pub record MayGive (v : View) (t : Known) (above : List Known) : Type 0 where
  pub is : v.threads ≡ above ++ t ∷ []
  pub others : above ≢ []
  pub covers : taken_share (giving t above v) ≤ v.share

-- ---- restarting: a chain of the turn is the only thread. Its Standing word was stored as 1, and what it waits for was seen

abbrev pub WasSeen : View → Waiting → Type 0
WasSeen v waits.Start = Prim.Unit
WasSeen v waits.Ready = Prim.Unit
WasSeen v (waits.Touch cell) = (n : ℕ) × Contains v.values (cell, n)
WasSeen v (waits.Join cell least) = IsOver v (waits.Join cell least)
WasSeen v waits.Trapped = ⊥

abbrev pub restarting : Carried → View → View
restarting x v = record v { threads = x.known ∷ []; chains = without_chain x.known.note.cell v.chains }

pub record MayRestart (v : View) (x : Carried) : Type 0 where
  pub none : v.threads ≡ []
  pub carried : Contains v.chains x
  pub stands : x.standing ≡ Some running
  pub seen : WasSeen v x.wait

-- ---- a child is begun above its parent, whose fork is over

abbrev pub beginning : Known → Known → List Known → View → View
beginning child parent rest v = record v { threads = child ∷ parent ∷ rest; child = None }

pub record MayBegin (v : View) (child : Known) : Type 0 where
  -- its cell is named, and its Standing word is 1
  pub named : v.child ≡ Some (record { cell = child.note.cell; stands = true })
  pub none_drawn : v.drawn ≡ []

-- ---- exporting: frames that lie on the worker's own stack; the worker holds all their words, the return word isn't 0, and they overlap no other
-- leased frame

pub record MayExport (v : View) (f : Frame) : Type 0 where
  pub some_word : place_of f.low < place_of f.base
  pub own : (p : ℕ) → Inside f p → home_of v.each p ≡ v.number
  pub holds : (p : ℕ) → Inside f p → Holds v p
  pub lives : (n : ℕ) × (kept v.held (return_place f) ≡ Some n) × (n ≢ 0)
  pub apart : (g : Frame) (p : ℕ) → IsLeased v g → Inside f p → Inside g p → ⊥

abbrev pub exporting : Frame → View → View
exporting f v = record v { exported = f ∷ v.exported }
