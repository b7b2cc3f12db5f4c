-- Pure copies on a machine over the words that are held, an instruction at a time. Read CopyRuns (so many instructions of a copy are left, and lead to
-- a machine), MayCopy (what its next one asks) and Copied (what that does, for all that the machine leads to by the copy).
use Rattle.std.specs.Prelude.{◌≡◌, ◌⊎◌, ℕ, suc, ◌+◌, true, List, length, Option, Some, slice_get}
use Rattle.st_base.specs.declared.image.Image.{Image}
use Rattle.st_model.specs.declared.code.Layout.TheVariants.{Postprocessed}
use Rattle.st_model.specs.declared.program.Program.{Program}
use Rattle.st_model.specs.declared.program.ProgramFunction.{ProgramFunction}
use Rattle.st_model.specs.Layout.{IsCodeOf, saved_of}
use Rattle.st_model.specs.Memory.{Data}
use Rattle.st_words.specs.Steps.{Step, StackLoad, Answer, Number, kept}
use Rattle.st_step.specs.declared.state.State.{State}
use Rattle.st_step.specs.Runs.{Situation, Path}
use Rattle.st_items.specs.Code.{code_at}
use Rattle.st_items.specs.Copied.{copy_address}
use Rattle.st_chain.specs.Walk.{word_in, is_held}

-- a machine over the words that are held
abbrev pub over : List (Option ℕ) → State → Situation
over held m = record { state = m; word = word_in held }

-- so many instructions of the pure copy of the function f are left, and lead to a machine
pub record CopyRuns (p : Program) (d : Data) (held : List (Option ℕ)) (f : ℕ) (function : ProgramFunction) (left : ℕ) (m last : State) : Type 0 where
  pub here : slice_get p.functions f ≡ Some function
  pub path : Path d (code_at Postprocessed p) (is_held held) (copy_address p f function) (4 + length (saved_of function)) left (over held m) (over held last)

-- an instruction of a copy is left, and each load that it may need may be asked
pub record MayCopy (asks : Step → Type 0) (image : Image) (d : Data) (m : State) : Type 0 where
  pub p : Program
  pub code : IsCodeOf Postprocessed p image
  pub held : List (Option ℕ)
  pub f : ℕ
  pub function : ProgramFunction
  pub left : ℕ
  pub last : State
  pub runs : CopyRuns p d held f function (suc left) m last
  pub may : (q : ℕ) → is_held held q ≡ true → asks (StackLoad q)

-- which step of the board was made with which answer is told by `made`
module _ {Board : Type 0} (made : Step → Answer → Board → Type 0) (old : Board) where
  -- no step is made, and it goes; or a load of a word that is held, and it goes if that told this word
  abbrev pub Loads : List (Option ℕ) → Board → Type 0 → Type 0
  Loads held new goes = ((new ≡ old) × goes) ⊎ ((q : ℕ) × (n : ℕ) × (is_held held q ≡ true) × made (StackLoad q) (Number n) new × (kept held q ≡ Some n → goes))

  -- wherever the machine led by a copy, it still does
  abbrev pub Copied : Image → Data → State → State → Board → Type 0
  Copied image d m m' new =
      (p : Program) (held : List (Option ℕ)) (f : ℕ) (function : ProgramFunction) (left : ℕ) (last : State) → IsCodeOf Postprocessed p image → CopyRuns p d held f function (suc left) m last → Loads held new (CopyRuns p d held f function left m' last)
