-- The laws of the moves that are functions of a view: whatever each leaves is made by the worker itself, where the move may be made. Read NamingLaws; BroughtOn says that the view that is
-- brought by one item more is the next one.
use Rattle.std.specs.Prelude.{◌≡◌, ◌⊎◌, ℕ, suc, true, false, List, [], ◌∷◌, Some, if◌then◌else◌}
use Rattle.std.specs.List.{Contains}
use Rattle.st_base.specs.declared.chain.Frame.{Frame}
use Rattle.st_base.specs.declared.chain.Waiting.{Waiting}
use Rattle.st_base.specs.declared.thread.Held.TheVariants.{Future}
use Rattle.st_base.specs.declared.thread.Thread.{Thread}
use Rattle.st_words.specs.declared.view.Carried.{Carried}
use Rattle.st_words.specs.declared.view.Child.{Child}
use Rattle.st_words.specs.declared.view.Known.{Known}
use Rattle.st_words.specs.declared.view.View.{View}
use Rattle.st_words.specs.Moves.{MaySuspend, suspending, MayGive, giving, MayRestart, restarting, beginning, MayExport, exporting}
use Rattle.st_words.specs.Views.{is_among}
use Rattle.st_model.specs.declared.program.Program.{Program}
use Rattle.st_model.specs.Memory.{Data}
use Rattle.st_model.specs.Heap.{Change, Moves}
use Rattle.st_made.specs.Items.{went, born, child_path, next_move, WaitsAt}
use Rattle.st_made.specs.Moves.{Made}
use Rattle.st_ahead.specs.Ahead.{own_item, brought}
use Rattle.st_ahead.specs.Naming.{on, opened, pushed, left, given, resumed, exported}

-- the child of the view may begin: its cell is named and stands, and the item of the top thread that was begun forks it
pub record MayPush (program : Program) (source : Data) (v : View) : Type 0 where
  pub top : Known
  pub rest : List Known
  pub is : v.threads ≡ top ∷ rest
  pub begun : top.begun ≡ true
  pub child : Child
  pub named : v.child ≡ Some child
  pub stands : child.stands ≡ true
  pub none_drawn : v.drawn ≡ []
  pub change : Change
  pub moves : next_move program source top ≡ Moves change
  pub thread : Thread
  pub made : change.child ≡ Some thread
  pub name : Contains v.names (Future (child_path top), child.cell)

-- each of these frames may be exported where it isn't yet, one behind the other
abbrev pub AllMayExport : View → List Frame → Type 0
AllMayExport v [] = Prim.Unit
AllMayExport v (f ∷ fs) = (is_among v.exported f ≡ false → MayExport v f) × AllMayExport (if is_among v.exported f then v else exporting f v) fs

pub record NamingLaws (program : Program) (source : Data) : Type 0 where
  pub on_made : (v : View) → Made program source v (on program source v)
  pub opened_made : (v : View) → Made program source v (opened v)
  pub pushed_made : (v : View) (may : MayPush program source v) → (pushed program source v ≡ beginning (born may.child.cell (child_path may.top) may.thread) (went may.top may.change.own) may.rest v) × Made program source v (pushed program source v)
  pub left_made : (v : View) (top : Known) (rest : List Known) (wait : Waiting) → MaySuspend v top rest wait → WaitsAt program source v top wait → (left wait v ≡ suspending top rest wait v) × Made program source v (left wait v)
  pub given_made : (v : View) (bottom : Known) (above : List Known) → MayGive v bottom above → (given v ≡ giving bottom above v) × Made program source v (given v)
  pub resumed_made : (v : View) (x : Carried) → v.chains ≡ x ∷ [] → MayRestart v x → (resumed v ≡ restarting x v) × Made program source v (resumed v)
  pub exported_made : (v : View) (fs : List Frame) → AllMayExport v fs → Made program source v (exported fs v)
  -- those that were and these are exported, and nothing else is changed
  pub exports : (v : View) (fs : List Frame) (f : Frame) → Contains v.exported f ⊎ Contains fs f → Contains (exported fs v).exported f
  pub only : (v : View) (fs : List Frame) (f : Frame) → Contains (exported fs v).exported f → Contains v.exported f ⊎ Contains fs f
  pub same : (v : View) (fs : List Frame) → exported fs v ≡ record v { exported = (exported fs v).exported }

abbrev pub AllNamed : Type 0
AllNamed = (program : Program) (source : Data) → NamingLaws program source

-- the view that is brought by one item more is the one after the next item
abbrev pub BroughtOn : Type 0
BroughtOn = (program : Program) (source : Data) (v u : View) (n : ℕ) → own_item program source (brought program source n v) ≡ Some u → brought program source (suc n) v ≡ u
