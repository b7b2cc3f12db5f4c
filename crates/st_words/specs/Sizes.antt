-- The sizes of a plain board, which no step changes: how many words of each kind there are, and that each view has the board's numbers.
-- Read Sized, which a plain board keeps. Who holds which word is no part of it. HasSlot: there is such a slot.
use Rattle.std.specs.Prelude.{◌≡◌, ℕ, ◌*◌, ◌<◌, List, length}
use Rattle.st_words.specs.declared.view.Slot.{Slot}
use Rattle.st_words.specs.declared.view.Slot.TheVariants.{Cell, Mail}
use Rattle.st_words.specs.declared.view.View.{View}
use Rattle.st_words.specs.declared.words.Words.{Words}
use Rattle.st_words.specs.Encodings.{out_bytes}
use Rattle.st_words.specs.Plain.{Cargoes, view_at}

-- there is such a slot
abbrev pub HasSlot : Words → Slot → Type 0
HasSlot x (Cell c) = c < length x.cell_slots
HasSlot x (Mail at) = at < length x.mail_slots

-- the words of cells, of workers, and of bytes; there are as many cells as Owner words
pub record SizedWords (x : Words) (workers : ℕ) : Type 0 where
  pub states : length x.states ≡ length x.owners
  pub values : length x.values ≡ length x.owners
  pub nexts : length x.nexts ≡ length x.owners
  pub standings : length x.standings ≡ length x.owners
  pub traps : length x.traps ≡ length x.owners
  pub cell_slots : length x.cell_slots ≡ length x.owners
  pub requests : length x.requests ≡ workers
  pub mail : length x.mail ≡ workers
  pub mail_slots : length x.mail_slots ≡ workers
  pub out : length x.out ≡ out_bytes

pub record SizedCargoes (ls : Cargoes) (count workers : ℕ) : Type 0 where
  pub cells : length ls.cells ≡ count
  pub mail : length ls.mail ≡ workers

-- a view has its worker's number and the numbers of the board
pub record SizedView (crew count stack w : ℕ) (v : View) : Type 0 where
  pub number : v.number ≡ w
  pub workers : v.workers ≡ crew
  pub cells : v.cells ≡ count
  pub each : crew * v.each ≡ stack
  pub held : length v.held ≡ stack

abbrev pub SizedViews : List View → ℕ → ℕ → Type 0
SizedViews vs cells stack = (w : ℕ) → w < length vs → SizedView (length vs) cells stack w (view_at vs w)

-- what a plain board keeps
pub record Sized (x : Words) (ls : Cargoes) (vs : List View) : Type 0 where
  pub words : SizedWords x (length vs)
  pub cargoes : SizedCargoes ls (length x.owners) (length vs)
  pub views : SizedViews vs (length x.owners) (length x.stack)
