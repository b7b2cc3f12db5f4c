-- What a view comes to by the other moves that a worker makes by itself, as functions of the view, so that who makes a step of the board can name the view from which it makes it.
-- Read on (the item that was begun is made), opened (the next one is begun), pushed (a child begins), left (the top thread becomes a chain), given (the bottom one does), resumed (a
-- chain is the only thread) and exported (frames are exported). Where a move can't be made each leaves the view as it is.
use Rattle.std.specs.Prelude.{◌+◌, true, not, ◌&&◌, List, [], ◌∷◌, ◌++◌, Option, Some, None, if◌then◌else◌}
use Rattle.st_base.specs.declared.chain.Frame.{Frame}
use Rattle.st_base.specs.declared.chain.Waiting.{Waiting}
use Rattle.st_base.specs.declared.thread.Thread.{Thread}
use Rattle.st_words.specs.declared.view.Carried.{Carried}
use Rattle.st_words.specs.declared.view.Child.{Child}
use Rattle.st_words.specs.declared.view.Known.{Known}
use Rattle.st_words.specs.declared.view.View.{View}
use Rattle.st_words.specs.Moves.{suspending, giving, restarting, beginning, exporting}
use Rattle.st_words.specs.Views.{is_among}
use Rattle.st_model.specs.declared.program.Program.{Program}
use Rattle.st_model.specs.Memory.{Data}
use Rattle.st_model.specs.Heap.{Change, Move, Moves}
use Rattle.st_model.specs.Limits.{frame_made}
use Rattle.st_made.specs.Items.{went, born, child_path, next_move}
use Rattle.st_ahead.specs.Ahead.{seen_change, is_going, is_private, or_else}

module _ (program : Program) (source : Data) where
  -- ---- items

  abbrev pub finished_by : View → Known → List Known → Option Change → Option View
  finished_by v top rest None = None
  finished_by v top rest (Some c) = if is_private top.thread c then Some (record v { threads = went top c.own ∷ rest; frame_bytes = v.frame_bytes + frame_made program top.path top.thread }) else None

  abbrev pub finished : View → List Known → Option View
  finished v [] = None
  finished v (top ∷ rest) = if top.begun then finished_by v top rest (seen_change v (next_move program source top)) else None

  -- the item that was begun is made, where it is a private one
  abbrev pub on : View → View
  on v = or_else program source (finished v v.threads) v (λ u. u)

  -- ---- children

  abbrev pub pushed_child : View → Known → List Known → Child → Thread → Option Thread → View
  pushed_child v top rest child own None = v
  pushed_child v top rest child own (Some thread) = beginning (born child.cell (child_path top) thread) (went top own) rest v

  abbrev pub pushed_move : View → Known → List Known → Child → Move → View
  pushed_move v top rest child (Moves c) = pushed_child v top rest child c.own c.child
  pushed_move v top rest child _ = v

  abbrev pub pushed_by : View → List Known → Option Child → View
  pushed_by v (top ∷ rest) (Some child) = if top.begun then pushed_move v top rest child (next_move program source top) else v
  pushed_by v _ _ = v

  -- the child whose cell is named begins above its parent
  abbrev pub pushed : View → View
  pushed v = pushed_by v v.threads v.child

-- ---- an item begins

abbrev pub opened_by : View → List Known → View
opened_by v [] = v
opened_by v (top ∷ rest) = if is_going top.thread.standing && not top.begun then record v { threads = record top { begun = true } ∷ rest; items = v.items + 1 } else v

-- the next item of the top thread is begun
abbrev pub opened : View → View
opened v = opened_by v v.threads

-- ---- chains

abbrev pub left_by : Waiting → View → List Known → View
left_by wait v [] = v
left_by wait v (top ∷ rest) = suspending top rest wait v

-- the top thread becomes a chain, which waits so
abbrev pub left : Waiting → View → View
left wait v = left_by wait v v.threads

abbrev pub given_by : View → List Known → List Known → View
given_by v above [] = v
given_by v above (t ∷ []) = giving t above v
given_by v above (t ∷ next ∷ ts) = given_by v (above ++ t ∷ []) (next ∷ ts)

-- the bottom thread becomes a chain that can go on
abbrev pub given : View → View
given v = given_by v [] v.threads

abbrev pub resumed_by : View → List Known → List Carried → View
resumed_by v [] (x ∷ []) = restarting x v
resumed_by v _ _ = v

-- the one chain of the turn is the only thread
abbrev pub resumed : View → View
resumed v = resumed_by v v.threads v.chains

-- ---- frames

-- these frames are exported, those that weren't
abbrev pub exported : List Frame → View → View
exported [] v = v
exported (f ∷ fs) v = exported fs (if is_among v.exported f then v else exporting f v)
