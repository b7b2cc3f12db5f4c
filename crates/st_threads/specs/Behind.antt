-- The heap-frame machine behind a board. StepBehind: the item that goes with a step, and the heap after it; MoveBehind: a move that a worker makes by itself, and the
-- heap after it. Each heap is the one before, or the one after one item of the worker's top thread.
use Rattle.std.specs.Prelude.{◌≡◌, ◌⊎◌, ℕ, Bool, true, false, ◌==◌}
use Rattle.st_words.specs.declared.view.CellWord.TheVariants.{Owner}
use Rattle.st_words.specs.declared.view.Known.{Known}
use Rattle.st_words.specs.declared.view.View.{View}
use Rattle.st_words.specs.Encodings.{full_word, head_in, is_counter}
use Rattle.st_words.specs.Steps.{Step, CellStore, CellChange, OutStore, Answer, Number}
use Rattle.st_words.specs.Views.{owner_seen, counts_cell}
use Rattle.st_model.specs.declared.program.Program.{Program}
use Rattle.st_model.specs.Memory.{Data}
use Rattle.st_model.specs.Heap.{Heap, Change, after}
use Rattle.st_made.specs.Items.{ending}
use Rattle.st_made.specs.Events.{NoItem, EndsItem, GoesOn, AddsTo, MakesCounter, PrintsWord}
use Rattle.st_made.specs.Moves.{Begins, MakesItem, MakesFork, Suspends, Gives, Restarts, Exports}

-- after an item of the thread
abbrev pub heap_on : Heap → Known → Change → Heap
heap_on h t c = after h t.path t.thread c

module _ (program : Program) (source : Data) (h : Heap) where
  -- ---- with a step

  pub record Rests (u v' : View) (h' : Heap) : Type 0 where
    pub of : NoItem u v'
    pub heap : h' ≡ h

  pub record Ends (c : ℕ) (u v' : View) (h' : Heap) : Type 0 where
    pub of : EndsItem program source c u v'
    pub heap : h' ≡ heap_on h of.top (ending of.top.thread of.value)

  pub record Goes (u v' : View) (Is : Known → Change → Type 0) (h' : Heap) : Type 0 where
    pub of : GoesOn program source u v' Is
    pub heap : h' ≡ heap_on h of.top of.change

  abbrev pub future_behind : Bool → ℕ → View → View → Heap → Type 0
  future_behind true c u v' h' = Ends c u v' h'
  future_behind false c u v' h' = Rests u v' h'

  abbrev pub counter_behind : Bool → ℕ → View → View → Heap → Type 0
  counter_behind true c u v' h' = Goes u v' (AddsTo u c) h'
  counter_behind false c u v' h' = Rests u v' h'

  abbrev pub state_behind : Bool → ℕ → ℕ → View → View → Heap → Type 0
  state_behind true c new u v' h' = counter_behind (head_in new == 0) c u v' h'
  state_behind false c new u v' h' = future_behind (new == full_word) c u v' h'

  abbrev pub change_behind : Bool → ℕ → ℕ → View → View → Heap → Type 0
  change_behind true c new u v' h' = state_behind (counts_cell (owner_seen c u.owners)) c new u v' h'
  change_behind false c new u v' h' = Rests u v' h'

  abbrev pub owner_behind : Bool → ℕ → View → View → Heap → Type 0
  owner_behind true n u v' h' = Goes u v' (MakesCounter n) h'
  owner_behind false n u v' h' = Rests u v' h'

  abbrev pub StepBehind : View → Step → Answer → View → Heap → Type 0
  StepBehind u (CellChange c old new) (Number n) v' h' = change_behind (n == old) c new u v' h'
  StepBehind u (CellStore c Owner n) a v' h' = owner_behind (is_counter n) n u v' h'
  StepBehind u (OutStore i n) a v' h' = Goes u v' (PrintsWord i n) h'
  StepBehind u _ a v' h' = Rests u v' h'

  -- ---- with a move

  -- a private item
  pub record Makes (v u : View) (h' : Heap) : Type 0 where
    pub of : MakesItem program source v u
    pub heap : h' ≡ heap_on h of.top of.change

  pub record Forks (v u : View) (h' : Heap) : Type 0 where
    pub of : MakesFork program source v u
    pub heap : h' ≡ heap_on h of.top of.change

  -- no item is made
  abbrev pub IsStill : View → View → Type 0
  IsStill v u = Begins program source v u ⊎ (Suspends program source v u ⊎ (Gives program source v u ⊎ (Restarts program source v u ⊎ Exports program source v u)))

  abbrev pub MoveBehind : View → View → Heap → Type 0
  MoveBehind v u h' = (IsStill v u × (h' ≡ h)) ⊎ (Makes v u h' ⊎ Forks v u h')
