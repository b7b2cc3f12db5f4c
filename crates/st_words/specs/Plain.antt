-- A board over vectors. Read Exact (what a step answers, by the words and slots), words_after (what it leaves of them), cargoes_after (what goes
-- with the chains in the slots, for contracts alone) and Left (what a step leaves of the board); first_words, first_views and first_cargoes are
-- those of a board that is opened.
use Rattle.std.specs.Prelude.{◌≡◌, ℕ, ◌+◌, ◌*◌, ◌/◌, ◌%◌, ◌^◌, ◌-◌, Bool, true, false, ◌&&◌, ◌==◌, nat_le, nat_lt, List, [], length, map, replicate, Option, Some, None, slice_get, slice_set, slice_index_or, if◌then◌else◌}
use Rattle.std.specs.List.{range_with_len}
use Rattle.std.specs.Int.{from_bool}
use Rattle.st_base.specs.declared.chain.Chain.{Chain}
use Rattle.st_base.specs.declared.chain.Note.{Note}
use Rattle.st_base.specs.declared.chain.Waiting.TheVariants as waits
use Rattle.st_base.specs.declared.thread.Thread.{Thread}
use Rattle.st_base.specs.declared.limits.Limits.{Limits}
use Rattle.st_words.specs.declared.view.CellWord.{CellWord}
use Rattle.st_words.specs.declared.view.CellWord.TheVariants.{Owner, State, Value, Next, Standing, Trap}
use Rattle.st_words.specs.declared.view.Slot.{Slot}
use Rattle.st_words.specs.declared.view.Slot.TheVariants.{Cell, Mail}
use Rattle.st_words.specs.declared.view.Cargo.{Cargo}
use Rattle.st_words.specs.declared.view.View.{View}
use Rattle.st_words.specs.declared.words.Words.{Words}
use Rattle.st_words.specs.Encodings.{ready, out_bytes}
use Rattle.st_words.specs.Steps.{Step, StackLoad, StackStore, Mark, Look, CellLoad, CellStore, CellChange, Draw, ActiveAdd, ActiveLoad, StopLoad, StopSet, RootTake, RequestLoad, RequestChange, MailLoad, MailStore, OutStore, SlotTake, SlotPut, OutLoad, Answer, Done, Number, Looked, Took}
use Rattle.st_words.specs.Views.{no_cargo, no_known, in_hand}

-- ---- words

-- the words of one kind of all cells
abbrev pub cell_words : Words → CellWord → List ℕ
cell_words x Owner = x.owners
cell_words x State = x.states
cell_words x Value = x.values
cell_words x Next = x.nexts
cell_words x Standing = x.standings
cell_words x Trap = x.traps

abbrev pub with_cell : Words → ℕ → CellWord → ℕ → Words
with_cell x c Owner n = record x { owners = slice_set x.owners c n }
with_cell x c State n = record x { states = slice_set x.states c n }
with_cell x c Value n = record x { values = slice_set x.values c n }
with_cell x c Next n = record x { nexts = slice_set x.nexts c n }
with_cell x c Standing n = record x { standings = slice_set x.standings c n }
with_cell x c Trap n = record x { traps = slice_set x.traps c n }

-- what lies in a slot
abbrev pub in_slot : Words → Slot → Option (Option Chain)
in_slot x (Cell c) = slice_get x.cell_slots c
in_slot x (Mail at) = slice_get x.mail_slots at

abbrev pub with_slot : Words → Slot → Option Chain → Words
with_slot x (Cell c) chain = record x { cell_slots = slice_set x.cell_slots c chain }
with_slot x (Mail at) chain = record x { mail_slots = slice_set x.mail_slots at chain }

-- numbers wrap at 2 ^ 64
abbrev pub one_more : ℕ → ℕ
one_more n = (n + 1) % 2 ^ 64

abbrev pub one_less : ℕ → ℕ
one_less n = (n + (2 ^ 64 - 1)) % 2 ^ 64

abbrev pub added : Bool → ℕ → ℕ
added true n = one_more n
added false n = one_less n

-- ---- views

abbrev pub no_view : View
no_view = record {
  number = 0;
  workers = 0;
  cells = 0;
  each = 0;
  held = [];
  exported = [];
  away = [];
  threads = [];
  chains = [];
  names = [];
  items = 0;
  frame_bytes = 0;
  drawn = [];
  child = None;
  owners = [];
  full = [];
  filled = [];
  values = [];
  valued = [];
  counts = [];
  ready = [];
  hand = [];
  share = 0;
  asked = None;
  answering = None;
  mail = 0;
  given = false;
  root = false;
  inactive = false;
  stop = None;
  loaded = [];
}

abbrev pub view_at : List View → ℕ → View
view_at vs w = slice_index_or vs w no_view

-- the views after a step of w, by what its caller names
abbrev pub views_after : (View → Step → Answer → View) → List View → ℕ → Step → Answer → List View
views_after after vs w s a = slice_set vs w (after (view_at vs w) s a)

-- ---- what goes with the chains in the slots

pub record Cargoes : Type 0 where
  pub cells : List Cargo
  pub mail : List Cargo

abbrev pub cargo_in : Cargoes → Slot → Cargo
cargo_in ls (Cell c) = slice_index_or ls.cells c no_cargo
cargo_in ls (Mail at) = slice_index_or ls.mail at no_cargo

abbrev pub with_cargo : Cargoes → Slot → Cargo → Cargoes
with_cargo ls (Cell c) cargo = record ls { cells = slice_set ls.cells c cargo }
with_cargo ls (Mail at) cargo = record ls { mail = slice_set ls.mail at cargo }

-- a waiter that becomes ready counts as active from then on, and its Standing word is 3
abbrev pub readied : Cargo → Cargo
readied cargo = record cargo { carried = record cargo.carried { standing = Some ready }; unit = 1 }

abbrev pub ready_cargo : Bool → ℕ → Cargoes → Cargoes
ready_cargo true c ls = with_cargo ls (Cell c) (readied (cargo_in ls (Cell c)))
ready_cargo false c ls = ls

-- what a step of the worker with this view leaves of them
abbrev pub cargoes_after : View → Cargoes → Step → Cargoes
cargoes_after v ls (CellStore c Standing n) = ready_cargo ((n == ready) && in_hand c v.hand) c ls
cargoes_after v ls (SlotTake slot) = with_cargo ls slot no_cargo
cargoes_after v ls (SlotPut slot chain cargo) = with_cargo ls slot cargo
cargoes_after v ls _ = ls

-- ---- steps

-- all words of the stacks are told at a look
abbrev pub stack_cargo : Words → Cargo
stack_cargo x = record no_cargo { words = map Some x.stack }

-- what a step of the worker w answers
abbrev pub Exact : Words → Cargoes → ℕ → Step → Answer → Type 0
Exact x ls w (StackLoad p) (Number n) = slice_get x.stack p ≡ Some n
Exact x ls w (StackStore p n) Done = Prim.Unit
Exact x ls w (Mark p) Done = Prim.Unit
Exact x ls w (Look p) (Looked n cargo) = (slice_get x.stack p ≡ Some n) × (cargo ≡ stack_cargo x)
Exact x ls w (CellLoad c word) (Number n) = slice_get (cell_words x word) c ≡ Some n
Exact x ls w (CellStore c word n) Done = Prim.Unit
Exact x ls w (CellChange c old new) (Number n) = slice_get x.states c ≡ Some n
Exact x ls w Draw (Number n) = n ≡ x.drawn
Exact x ls w (ActiveAdd up) (Number n) = n ≡ x.active
Exact x ls w ActiveLoad (Number n) = n ≡ x.active
Exact x ls w StopLoad (Number n) = n ≡ x.stop
Exact x ls w (StopSet code) (Number n) = n ≡ x.stop
Exact x ls w RootTake (Number n) = n ≡ from_bool (x.root == 1)
Exact x ls w (RequestLoad at) (Number n) = slice_get x.requests at ≡ Some n
Exact x ls w (RequestChange at old new) (Number n) = slice_get x.requests at ≡ Some n
Exact x ls w MailLoad (Number n) = slice_get x.mail w ≡ Some n
Exact x ls w (MailStore at n) Done = Prim.Unit
Exact x ls w (OutStore i n) Done = Prim.Unit
Exact x ls w (SlotTake slot) (Took chain cargo) = (in_slot x slot ≡ Some chain) × (cargo ≡ cargo_in ls slot)
Exact x ls w (SlotPut slot chain cargo) Done = Prim.Unit
Exact x ls w (OutLoad i) (Number n) = slice_get x.out i ≡ Some n
Exact _ _ _ _ _ = ⊥

-- a compare and exchange stores where it found what it compared with
abbrev pub changed : Bool → ℕ → ℕ → List ℕ → List ℕ
changed true at new words = slice_set words at new
changed false at new words = words

abbrev pub stopped : Bool → ℕ → ℕ → ℕ
stopped true code n = code
stopped false code n = n

-- what a step of the worker w leaves of the words and slots
unfoldable pub words_after : Words → ℕ → Step → Answer → Words
words_after x w (StackStore p n) a = record x { stack = slice_set x.stack p n }
words_after x w (Mark p) a = record x { stack = slice_set x.stack p 0 }
words_after x w (CellStore c word n) a = with_cell x c word n
words_after x w (CellChange c old new) (Number n) = record x { states = changed (n == old) c new x.states }
words_after x w Draw a = record x { drawn = one_more x.drawn }
words_after x w (ActiveAdd up) a = record x { active = added up x.active }
words_after x w (StopSet code) (Number n) = record x { stop = stopped (n == 0) code x.stop }
words_after x w RootTake a = record x { root = 0 }
words_after x w (RequestChange at old new) (Number n) = record x { requests = changed (n == old) at new x.requests }
words_after x w (MailStore at n) a = record x { mail = slice_set x.mail at n }
words_after x w (OutStore i n) a = record x { out = slice_set x.out i n }
words_after x w (SlotTake slot) a = with_slot x slot None
words_after x w (SlotPut slot chain cargo) a = with_slot x slot (Some chain)
words_after x w _ a = x

-- what a step of the worker w leaves of the board; `after` is what its caller names
pub record Left (x : Words) (ls : Cargoes) (vs : List View) (w : ℕ) (s : Step) (a : Answer) (x' : Words) (ls' : Cargoes) (vs' : List View) : Type 0 where
  pub words : x' ≡ words_after x w s a
  pub cargoes : ls' ≡ cargoes_after (view_at vs w) ls s
  pub workers : length vs' ≡ length vs

-- ---- a board that is opened

-- a worker holds the words of its own stack, which are 0
abbrev pub first_held : ℕ → ℕ → ℕ → List (Option ℕ)
first_held workers each w = map (λ p. if nat_le (w * each) p && nat_lt p ((w + 1) * each) then Some 0 else None) (range_with_len 0 (workers * each))

abbrev pub first_view : Limits → ℕ → ℕ → View
first_view limits workers w = record no_view {
  number = w;
  workers = workers;
  cells = limits.cells;
  each = limits.stack / 8;
  held = first_held workers (limits.stack / 8) w;
}

abbrev pub first_views : Limits → ℕ → List View
first_views limits workers = map (first_view limits workers) (range_with_len 0 workers)

abbrev pub root_note : Note
root_note = record { cell = 0; forks = 0; counters = 0; bytes = 0 }

-- the chain of the root, which hasn't begun
abbrev pub root_chain : Chain
root_chain = record { cell = 0; pc = 0; fp = 0; saved = replicate 11 0; note = root_note; wait = waits.Start }

-- it goes with the root's thread, which the opener names, and counts as active
abbrev pub root_cargo : Thread → Cargo
root_cargo thread = record no_cargo {
  carried = record { known = record no_known { note = root_note; thread = thread }; wait = waits.Start; trap = None; standing = Some ready };
  unit = 1;
}

-- one word, then zeros
abbrev pub led_by : ℕ → ℕ → List ℕ
led_by n count = slice_set (replicate count 0) 0 n

unfoldable pub first_words : Limits → ℕ → Words
first_words limits workers = record {
  stack = replicate (workers * (limits.stack / 8)) 0;
  owners = led_by 1 limits.cells;
  states = replicate limits.cells 0;
  values = replicate limits.cells 0;
  nexts = replicate limits.cells 0;
  standings = led_by ready limits.cells;
  traps = replicate limits.cells 0;
  drawn = 1;
  active = 1;
  stop = 0;
  root = 1;
  requests = replicate workers 0;
  mail = replicate workers 0;
  out = replicate out_bytes 0;
  cell_slots = slice_set (replicate limits.cells None) 0 (Some root_chain);
  mail_slots = replicate workers None;
}

unfoldable pub first_cargoes : Limits → ℕ → Thread → Cargoes
first_cargoes limits workers thread = record { cells = slice_set (replicate limits.cells no_cargo) 0 (root_cargo thread); mail = replicate workers no_cargo }
