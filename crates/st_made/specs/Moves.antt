-- What a worker does by itself between two of its steps on a board: Made, a list of single moves, each told by the view before and after it. An item
-- of the top thread is begun; a private one is made, or a touch or join for which the view has seen enough; a child whose cell is named is begun; a
-- thread becomes a chain of the turn, or a chain the only thread; a frame is exported. No move changes a word of the board, and each but MakesItem and
-- MakesFork leaves the heap-frame machine as it is.
use Rattle.std.specs.Prelude.{◌≡◌, ◌⊎◌, ℕ, ◌+◌, true, false, List, [], ◌∷◌, Some}
use Rattle.std.specs.List.{Contains}
use Rattle.st_base.specs.declared.chain.Frame.{Frame}
use Rattle.st_base.specs.declared.chain.Waiting.{Waiting}
use Rattle.st_base.specs.declared.thread.Held.TheVariants.{Future}
use Rattle.st_base.specs.declared.thread.Thread.{Thread}
use Rattle.st_words.specs.declared.view.Known.{Known}
use Rattle.st_words.specs.declared.view.Carried.{Carried}
use Rattle.st_words.specs.declared.view.View.{View}
use Rattle.st_words.specs.Moves.{MaySuspend, suspending, MayGive, giving, MayRestart, restarting, MayBegin, beginning, MayExport, exporting}
use Rattle.st_model.specs.declared.program.Program.{Program}
use Rattle.st_model.specs.Memory.{Data}
use Rattle.st_model.specs.Heap.{Change, Moves}
use Rattle.st_model.specs.Limits.{frame_made}
use Rattle.st_model.specs.Quiet.{IsGoing}
use Rattle.st_made.specs.Items.{SeenEnough, IsPrivate, went, born, child_path, next_move, WaitsAt}

module _ (program : Program) (source : Data) where
  -- the next item of the top thread is begun
  pub record Begins (v u : View) : Type 0 where
    pub top : Known
    pub rest : List Known
    pub is : v.threads ≡ top ∷ rest
    pub going : IsGoing top.thread.standing
    pub not_yet : top.begun ≡ false
    pub after : u ≡ record v { threads = record top { begun = true } ∷ rest; items = v.items + 1 }

  -- and made
  pub record MakesItem (v u : View) : Type 0 where
    pub top : Known
    pub rest : List Known
    pub change : Change
    pub is : v.threads ≡ top ∷ rest
    pub begun : top.begun ≡ true
    pub can : SeenEnough v (next_move program source top) change
    pub private : IsPrivate top.thread change
    pub after : u ≡ record v { threads = went top change.own ∷ rest; frame_bytes = v.frame_bytes + frame_made program top.path top.thread }

  -- a fork: the child, whose cell is named, is begun above its parent
  pub record MakesFork (v u : View) : Type 0 where
    pub top : Known
    pub rest : List Known
    pub change : Change
    pub child : Thread
    pub cell : ℕ
    pub is : v.threads ≡ top ∷ rest
    pub begun : top.begun ≡ true
    pub can : next_move program source top ≡ Moves change
    pub made : change.child ≡ Some child
    pub name : Contains v.names (Future (child_path top), cell)
    pub may : MayBegin v (born cell (child_path top) child)
    pub after : u ≡ beginning (born cell (child_path top) child) (went top change.own) rest v

  -- the top thread waits at its next item, or has stopped, and becomes a chain of the turn
  pub record Suspends (v u : View) : Type 0 where
    pub top : Known
    pub rest : List Known
    pub wait : Waiting
    pub may : MaySuspend v top rest wait
    pub waits : WaitsAt program source v top wait
    pub after : u ≡ suspending top rest wait v

  -- the bottom thread, above which another lies, becomes one
  pub record Gives (v u : View) : Type 0 where
    pub bottom : Known
    pub above : List Known
    pub may : MayGive v bottom above
    pub after : u ≡ giving bottom above v

  -- a chain of the turn becomes the only thread
  pub record Restarts (v u : View) : Type 0 where
    pub chain : Carried
    pub may : MayRestart v chain
    pub after : u ≡ restarting chain v

  pub record Exports (v u : View) : Type 0 where
    pub frame : Frame
    pub may : MayExport v frame
    pub after : u ≡ exporting frame v

  abbrev pub OneMove : View → View → Type 0
  OneMove v u = Begins v u ⊎ (MakesItem v u ⊎ (MakesFork v u ⊎ (Suspends v u ⊎ (Gives v u ⊎ (Restarts v u ⊎ Exports v u)))))

  -- by the views after each of them
  abbrev pub AllMoves : View → List View → View → Type 0
  AllMoves v [] u = v ≡ u
  AllMoves v (x ∷ xs) u = OneMove v x × AllMoves x xs u

  abbrev pub Made : View → View → Type 0
  Made v u = (xs : List View) × AllMoves v xs u
