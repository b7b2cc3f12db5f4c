-- What a view comes to by private items of its top thread alone. Read brought: a function of the view and of how many items the worker has begun and made since, so that
-- who makes a step of the board can name the view from which it makes it. own_item is one of them, where the view tells what it makes; seen_change what the next item
-- makes, by the values and counts that the view has seen.
use Rattle.std.specs.Prelude.{ℕ, zero, suc, ◌+◌, Bool, true, false, not, ◌&&◌, ◌||◌, ◌==◌, nat_le, List, [], ◌∷◌, is_none, Option, Some, None, if◌then◌else◌}
use Rattle.std.specs.Str.{bytes_eq}
use Rattle.st_base.specs.declared.thread.Held.{Held}
use Rattle.st_base.specs.declared.thread.Held.TheVariants.{Number, Future, Counter}
use Rattle.st_base.specs.declared.thread.Standing.{Standing}
use Rattle.st_base.specs.declared.thread.Standing.TheVariants.{Going, Ended}
use Rattle.st_base.specs.declared.thread.Thread.{Thread}
use Rattle.st_words.specs.declared.view.Known.{Known}
use Rattle.st_words.specs.declared.view.View.{View}
use Rattle.st_model.specs.declared.program.Program.{Program}
use Rattle.st_model.specs.Memory.{Data}
use Rattle.st_model.specs.Heap.{Path, Change, Move, Stays, Moves, Touch, Join}
use Rattle.st_model.specs.Limits.{frame_made}
use Rattle.st_made.specs.Items.{went, next_move}

-- ---- what the view has seen

abbrev pub is_future : Path → Held → Bool
is_future q (Number n) = false
is_future q (Future p) = bytes_eq p q
is_future q (Counter p i) = false

abbrev pub is_counter : Path → ℕ → Held → Bool
is_counter q k (Number n) = false
is_counter q k (Future p) = false
is_counter q k (Counter p i) = bytes_eq p q && (i == k)

-- the cell of the first name that is so
abbrev pub cell_of : (Held → Bool) → List (Held × ℕ) → Option ℕ
cell_of is [] = None
cell_of is (entry ∷ entries) = if is entry.0 then Some entry.1 else cell_of is entries

abbrev pub value_at : ℕ → List (ℕ × ℕ) → Option ℕ
value_at c [] = None
value_at c (entry ∷ entries) = if entry.0 == c then Some entry.1 else value_at c entries

-- a count of the cell is at least so many
abbrev pub reaches : ℕ → ℕ → List (ℕ × ℕ) → Bool
reaches least c [] = false
reaches least c (entry ∷ entries) = ((entry.0 == c) && nat_le least entry.1) || reaches least c entries

abbrev pub by_value : (ℕ → Change) → Option ℕ → Option Change
by_value f None = None
by_value f (Some n) = Some (f n)

abbrev pub touched : (ℕ → Change) → List (ℕ × ℕ) → Option ℕ → Option Change
touched f values None = None
touched f values (Some cell) = by_value f (value_at cell values)

abbrev pub joined : Change → ℕ → List (ℕ × ℕ) → Option ℕ → Option Change
joined c least counts None = None
joined c least counts (Some cell) = if reaches least cell counts then Some c else None

-- what the next item makes, as far as the view can tell
abbrev pub seen_change : View → Move → Option Change
seen_change v Stays = None
seen_change v (Moves c) = Some c
seen_change v (Touch q f) = touched f v.values (cell_of (is_future q) v.names)
seen_change v (Join q k least c) = joined c least v.counts (cell_of (is_counter q k) v.names)

-- ---- one item

abbrev pub is_going : Standing → Bool
is_going Going = true
is_going _ = false

abbrev pub is_live : Standing → Bool
is_live (Ended n) = false
is_live _ = true

-- the item changes its own thread alone, and doesn't end it
abbrev pub is_private : Thread → Change → Bool
is_private t c = ((is_none c.child && is_none c.added) && (is_none c.printed && (c.own.counters == t.counters))) && ((c.own.bytes == t.bytes) && is_live c.own.standing)

module _ (program : Program) (source : Data) where
  abbrev pub item_by : View → Known → List Known → Option Change → Option View
  item_by v top rest None = None
  item_by v top rest (Some c) = if is_private top.thread c then Some (record v { threads = went top c.own ∷ rest; items = v.items + 1; frame_bytes = v.frame_bytes + frame_made program top.path top.thread }) else None

  abbrev pub item_of : View → List Known → Option View
  item_of v [] = None
  item_of v (top ∷ rest) = if is_going top.thread.standing && not top.begun then item_by v top rest (seen_change v (next_move program source top)) else None

  -- the view after the next item of its top thread was begun and made, where it is a private one
  abbrev pub own_item : View → Option View
  own_item v = item_of v v.threads

  abbrev pub or_else : Option View → View → (View → View) → View
  or_else None v on = v
  or_else (Some u) v on = on u

  -- after so many of them
  abbrev pub brought : ℕ → View → View
  brought zero v = v
  brought (suc n) v = or_else (own_item v) v (λ u. brought n u)
