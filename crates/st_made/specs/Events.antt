-- The item of the heap-frame machine that goes with a step of a board (Event), by the view before the step and the one that is named after it. A
-- future that becomes full ends its thread; a count that grows is an st_done; an Owner word of a counter is an st_counter; a byte is an st_putc. Any
-- other step has none. Of a State word that was changed, and of an Owner word, it is decided by the tests of view_after, so that both compute together.
use Rattle.std.specs.Prelude.{◌≡◌, ℕ, ◌+◌, Bool, true, false, ◌==◌, List, [], ◌∷◌, Some, None}
use Rattle.std.specs.List.{Contains}
use Rattle.st_base.specs.declared.thread.Held.TheVariants.{Counter}
use Rattle.st_words.specs.declared.view.CellWord.TheVariants.{Owner}
use Rattle.st_words.specs.declared.view.Known.{Known}
use Rattle.st_words.specs.declared.view.View.{View}
use Rattle.st_words.specs.Encodings.{counter_owner, full_word, head_in, is_counter, printed as printed_word}
use Rattle.st_words.specs.Steps.{Step, CellStore, CellChange, OutStore, Answer, Number}
use Rattle.st_words.specs.Views.{owner_seen, counts_cell}
use Rattle.st_model.specs.declared.program.Program.{Program}
use Rattle.st_model.specs.Memory.{Data}
use Rattle.st_model.specs.Heap.{Path, Change, Moves}
use Rattle.st_made.specs.Items.{IsLive, went, next_move, EndsWith}

-- the threads and the two numbers stay
pub record NoItem (u v' : View) : Type 0 where
  pub threads : v'.threads ≡ u.threads
  pub items : v'.items ≡ u.items
  pub bytes : v'.frame_bytes ≡ u.frame_bytes

-- it adds to the counter of the cell c
pub record AddsTo (u : View) (c : ℕ) (t : Known) (x : Change) : Type 0 where
  pub maker : Path
  pub number : ℕ
  pub added : x.added ≡ Some (maker, number)
  pub name : Contains u.names (Counter maker number, c)
  pub child : x.child ≡ None
  pub printed : x.printed ≡ None
  pub counters : x.own.counters ≡ t.thread.counters
  pub bytes : x.own.bytes ≡ t.thread.bytes
  pub live : IsLive x.own.standing

-- it makes the counter whose Owner word is n
pub record MakesCounter (n : ℕ) (t : Known) (x : Change) : Type 0 where
  pub word : n ≡ counter_owner t.note.cell t.note.counters
  pub counters : x.own.counters ≡ t.thread.counters + 1
  pub added : x.added ≡ None
  pub child : x.child ≡ None
  pub printed : x.printed ≡ None
  pub bytes : x.own.bytes ≡ t.thread.bytes
  pub live : IsLive x.own.standing

-- the root prints the byte of the word n, at its place
pub record PrintsWord (i n : ℕ) (t : Known) (x : Change) : Type 0 where
  pub root : t.path ≡ []
  pub place : i ≡ t.note.bytes
  pub byte : ℕ
  pub printed : x.printed ≡ Some byte
  pub word : n ≡ printed_word t.thread.forks byte
  pub child : x.child ≡ None
  pub added : x.added ≡ None
  pub counters : x.own.counters ≡ t.thread.counters
  pub bytes : x.own.bytes ≡ t.thread.bytes + 1
  pub live : IsLive x.own.standing

module _ (program : Program) (source : Data) where
  -- the top thread, whose cell is c, ends with the value that it has stored there, and goes out
  pub record EndsItem (c : ℕ) (u v' : View) : Type 0 where
    pub top : Known
    pub below : List Known
    pub value : ℕ
    pub is : u.threads ≡ top ∷ below
    pub begun : top.begun ≡ true
    pub cell : top.note.cell ≡ c
    pub stored : Contains u.valued (c, value)
    pub can : EndsWith program source top value
    pub threads : v'.threads ≡ below
    pub items : v'.items ≡ u.items
    pub bytes : v'.frame_bytes ≡ u.frame_bytes

  -- the top thread makes an item of this kind, and goes on
  pub record GoesOn (u v' : View) (Is : Known → Change → Type 0) : Type 0 where
    pub top : Known
    pub below : List Known
    pub change : Change
    pub is : u.threads ≡ top ∷ below
    pub begun : top.begun ≡ true
    pub can : next_move program source top ≡ Moves change
    pub sort : Is top change
    pub threads : v'.threads ≡ went top change.own ∷ below
    pub items : v'.items ≡ u.items
    pub bytes : v'.frame_bytes ≡ u.frame_bytes

  -- a State word that was changed: the future became full, or a waiter was parked
  abbrev pub future_event : Bool → ℕ → View → View → Type 0
  future_event true c u v' = EndsItem c u v'
  future_event false c u v' = NoItem u v'

  -- the count grew, or a waiter was parked
  abbrev pub counter_event : Bool → ℕ → View → View → Type 0
  counter_event true c u v' = GoesOn u v' (AddsTo u c)
  counter_event false c u v' = NoItem u v'

  -- of a cell that the worker takes for a counter, or not
  abbrev pub state_event : Bool → ℕ → ℕ → View → View → Type 0
  state_event true c new u v' = counter_event (head_in new == 0) c u v'
  state_event false c new u v' = future_event (new == full_word) c u v'

  -- a compare and exchange that stored, or that found another word
  abbrev pub change_event : Bool → ℕ → ℕ → View → View → Type 0
  change_event true c new u v' = state_event (counts_cell (owner_seen c u.owners)) c new u v'
  change_event false c new u v' = NoItem u v'

  -- a cell is named for a counter, or for the next child, which is begun by a move
  abbrev pub owner_event : Bool → ℕ → View → View → Type 0
  owner_event true n u v' = GoesOn u v' (MakesCounter n)
  owner_event false n u v' = NoItem u v'

  abbrev pub Event : View → Step → Answer → View → Type 0
  Event u (CellChange c old new) (Number n) v' = change_event (n == old) c new u v'
  Event u (CellStore c Owner n) a v' = owner_event (is_counter n) n u v'
  Event u (OutStore i n) a v' = GoesOn u v' (PrintsWord i n)
  Event u _ a v' = NoItem u v'
