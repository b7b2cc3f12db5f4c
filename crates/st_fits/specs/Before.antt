-- The view from which a worker makes its next step, as a function of the worker and of the view that its board has of it (before), and the view after that step (after). A worker is ahead of
-- its board's view by what it does by itself: a chain that came has become its thread, a child has begun, items were begun and made, frames are exported, and the top or
-- the bottom thread has become a chain. Each step of the board brings the view forward by all of it.
use Rattle.std.specs.Prelude.{ℕ, zero, suc, ◌-◌, Bool, true, false, not, ◌&&◌, ◌==◌, List, [], ◌∷◌, is_some, Option, Some, None, if◌then◌else◌}
use Rattle.st_base.specs.declared.chain.Waiting.{Waiting}
use Rattle.st_base.specs.declared.chain.Waiting.TheVariants as waits
use Rattle.st_base.specs.Entry.{entry_at}
use Rattle.st_words.specs.declared.view.Carried.{Carried}
use Rattle.st_words.specs.declared.view.CellWord.TheVariants.{Owner}
use Rattle.st_words.specs.declared.view.Known.{Known}
use Rattle.st_words.specs.declared.view.View.{View}
use Rattle.st_words.specs.Encodings.{full_word, head_in, is_counter, running}
use Rattle.st_words.specs.Steps.{Step, CellStore, CellChange, OutStore, Answer, Number}
use Rattle.st_words.specs.Views.{view_after, owner_seen, counts_cell}
use Rattle.st_model.specs.declared.program.Program.{Program}
use Rattle.st_model.specs.Memory.{Data}
use Rattle.st_model.specs.Heap.{Move, Moves}
use Rattle.st_made.specs.Items.{went, next_move}
use Rattle.st_ahead.specs.Ahead.{own_item, or_else, brought}
use Rattle.st_ahead.specs.Naming.{on, opened, pushed, left, given, resumed, exported}
use Rattle.st_phases.specs.declared.automaton.Automaton.{Automaton}
use Rattle.st_phases.specs.declared.phase.Phase.{Phase}
use Rattle.st_phases.specs.declared.phase.Phase.TheVariants as phases

-- ---- what the worker is ahead with

abbrev pub is_trap : Waiting → Bool
is_trap waits.Trapped = true
is_trap _ = false

-- the machine is at an entry whose item isn't made before a step of the board: each but st_poll
abbrev pub is_at_entry : ℕ → Bool
is_at_entry pc = is_some (entry_at pc) && not (pc == 0x80)

-- the item that was begun last isn't made yet: its thread is at an entry, waits, or has met a limit
abbrev pub is_held_up : Automaton → Phase → Bool
is_held_up x phases.Running = is_at_entry x.machine.pc
is_held_up x phases.Polling = false
is_held_up x (phases.Parting leaving) = not (is_trap leaving.wait)
is_held_up x (phases.Suspending leaving) = not (is_trap leaving.wait)
is_held_up x (phases.Marking chain leaving) = not (is_trap leaving.wait)
is_held_up x _ = true

-- a chain that came may have become the thread since
abbrev pub is_under_way : Phase → Bool
is_under_way phases.Running = true
is_under_way (phases.Stopping kind) = true
is_under_way (phases.Parting leaving) = true
is_under_way (phases.Suspending leaving) = true
is_under_way (phases.Marking chain leaving) = true
is_under_way _ = false

abbrev pub is_running : Option ℕ → Bool
is_running None = false
is_running (Some n) = n == running

-- a chain is the only one of the turn, and its Standing word says that it goes on
abbrev pub has_come : List Carried → Bool
has_come (x ∷ []) = is_running x.standing
has_come _ = false

-- it is the thread then
abbrev pub come : Phase → View → View
come phase v = if is_under_way phase && has_come v.chains then resumed v else v

-- the top thread becomes a chain before its Trap word is stored, and the bottom one before its chain is put into the mail
abbrev pub left_where_none : Waiting → List Carried → View → View
left_where_none wait [] v = left wait v
left_where_none wait (x ∷ xs) v = v

abbrev pub given_where_none : List Carried → View → View
given_where_none [] v = given v
given_where_none (x ∷ xs) v = v

abbrev pub taken_out : Phase → View → View
taken_out (phases.Marking chain leaving) v = left_where_none leaving.wait v.chains v
taken_out (phases.Mailing asker chain) v = given_where_none v.chains v
taken_out _ v = v

module _ (p : Program) (d : Data) where
  -- a child begins in the turn behind which its worker polls
  abbrev pub with_child : Phase → View → View
  with_child phases.Polling v = pushed p d v
  with_child _ v = v

  -- ---- items

  -- the next item is begun, and made where it is the thread's own
  abbrev pub one_more : View → View
  one_more v = or_else p d (own_item p d v) (opened v) (λ u. u)

  -- so many items were begun, the last of which isn't made yet
  abbrev pub begun : ℕ → View → View
  begun zero v = v
  begun (suc n) v = opened (brought p d n (on p d v))

  -- or all of them were made
  abbrev pub finished : ℕ → View → View
  finished zero v = on p d v
  finished (suc n) v = one_more (brought p d n (on p d v))

  abbrev pub with_items : Bool → ℕ → View → View
  with_items true n v = begun n v
  with_items false n v = finished n v

  abbrev pub ahead : Automaton → View → View
  ahead x v = with_items (is_held_up x x.phase) (x.items - v.items) v

  -- ---- the view before a step

  unfoldable pub before : Automaton → View → View
  before x v = exported x.stack.exported (taken_out x.phase (ahead x (with_child x.phase (come x.phase v))))

  -- ---- the view after a step

  -- the top thread has made its next item, or is gone
  abbrev pub moved_by : Known → List Known → Move → List Known
  moved_by t ts (Moves c) = went t c.own ∷ ts
  moved_by t ts _ = t ∷ ts

  abbrev pub with_item : List Known → List Known
  with_item [] = []
  with_item (t ∷ ts) = moved_by t ts (next_move p d t)

  abbrev pub without_top : List Known → List Known
  without_top [] = []
  without_top (t ∷ ts) = ts

  -- by the tests of view_after: a future has become full, or a count has grown
  abbrev pub future_after : Bool → List Known → List Known
  future_after true ts = without_top ts
  future_after false ts = ts

  abbrev pub counter_after : Bool → List Known → List Known
  counter_after true ts = with_item ts
  counter_after false ts = ts

  abbrev pub state_after : Bool → ℕ → List Known → List Known
  state_after true new ts = counter_after (head_in new == 0) ts
  state_after false new ts = future_after (new == full_word) ts

  abbrev pub change_after : Bool → ℕ → ℕ → View → List Known
  change_after true c new u = state_after (counts_cell (owner_seen c u.owners)) new u.threads
  change_after false c new u = u.threads

  -- a cell is named for a counter
  abbrev pub owner_after : Bool → List Known → List Known
  owner_after true ts = with_item ts
  owner_after false ts = ts

  abbrev pub threads_after : View → Step → Answer → List Known
  threads_after u (CellChange c old new) (Number n) = change_after (n == old) c new u
  threads_after u (CellStore c Owner n) a = owner_after (is_counter n) u.threads
  threads_after u (OutStore i n) a = with_item u.threads
  threads_after u s a = u.threads

  -- the step, with the item that goes with it
  unfoldable pub after : View → Step → Answer → View
  after u s a = record (view_after u s a) { threads = threads_after u s a }
