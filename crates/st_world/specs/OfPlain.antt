-- The world that a board over vectors shows.
use Rattle.std.specs.Prelude.{ℕ, List, length, Option, None, slice_index_or}
use Rattle.st_base.specs.declared.chain.Chain.{Chain}
use Rattle.st_words.specs.declared.view.Cargo.{Cargo}
use Rattle.st_words.specs.declared.view.View.{View}
use Rattle.st_words.specs.declared.words.Words.{Words}
use Rattle.st_words.specs.Plain.{Cargoes, view_at}
use Rattle.st_words.specs.Views.{no_cargo}
use Rattle.st_world.specs.World.{World}

abbrev pub reading : List ℕ → ℕ → ℕ
reading words at = slice_index_or words at 0

abbrev pub reading_slot : List (Option Chain) → ℕ → Option Chain
reading_slot slots at = slice_index_or slots at None

abbrev pub reading_cargo : List Cargo → ℕ → Cargo
reading_cargo cargoes at = slice_index_or cargoes at no_cargo

-- of a board with so many words on one worker's stack
abbrev pub world_of : ℕ → Words → Cargoes → List View → World
world_of each x ls vs = record {
  workers = length vs;
  cells = length x.owners;
  each = each;
  stack = reading x.stack;
  owner = reading x.owners;
  state = reading x.states;
  value = reading x.values;
  next = reading x.nexts;
  standing = reading x.standings;
  trap = reading x.traps;
  drawn = x.drawn;
  active = x.active;
  stop = x.stop;
  root = x.root;
  request = reading x.requests;
  mail = reading x.mail;
  out = reading x.out;
  home = reading_slot x.cell_slots;
  home_cargo = reading_cargo ls.cells;
  post = reading_slot x.mail_slots;
  post_cargo = reading_cargo ls.mail;
  view = view_at vs;
}
