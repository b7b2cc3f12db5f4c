-- Encoding the words of functions, by what the linker has of them: the words of each function, in order, and the rows of the runtime, in
-- which a function's first address stands. Read first_far_of (the first branch that doesn't reach), resolved_all (the instructions of the
-- words), Leaves (what is still to be encoded), IsAssembled (the image of it all) and IsEncodable (what encoding needs).
use Rattle.std.specs.Prelude.{◌≡◌, ℕ, ◌+◌, ◌*◌, ◌<◌, ◌≤◌, ℤ, pos, ◌-ℤ◌, List, [], ◌∷◌, ◌++◌, map, length, Option, Some, None, slice_get}
use Rattle.st_base.specs.declared.line.Line.{Line}
use Rattle.st_base.specs.declared.reg.Reg.TheVariants as registers
use Rattle.st_base.specs.declared.image.FrameRow.{FrameRow}
use Rattle.st_base.specs.declared.image.ForkRow.{ForkRow}
use Rattle.st_base.specs.declared.image.Image.{Image}
use Rattle.st_rv.specs.declared.ins.Op.TheVariants as ops
use Rattle.st_rv.specs.declared.ins.Ins.{Ins}
use Rattle.st_rv.specs.Rows.{FitsTable}
use Rattle.st_model.specs.declared.code.PostedIns.{PostedIns}
use Rattle.st_model.specs.declared.code.PostedIns.TheVariants as posted
use Rattle.st_model.specs.declared.code.PostedWord.{PostedWord}
use Rattle.st_model.specs.Layout.{code_start, distance, branch_ins, upper_ins, first_of, far_among, AreWords}
use Rattle.st_post.specs.declared.posted.PostedFunction.{PostedFunction}
use Rattle.st_link.specs.declared.error.LinkFault.{LinkFault}

-- the words of each function
abbrev pub words_in : List PostedFunction → List (List PostedWord)
words_in functions = map (λ f. f.words) functions

-- all words, in order
abbrev pub joined : List (List PostedWord) → List PostedWord
joined [] = []
joined (ws ∷ wss) = ws ++ joined wss

-- how many they are
abbrev pub total : List (List PostedWord) → ℕ
total [] = 0
total (ws ∷ wss) = length ws + total wss

-- ---- branches

-- the first branch that doesn't reach
abbrev pub first_far_of : List (List PostedWord) → Option (Line × ℤ)
first_far_of [] = None
first_far_of (ws ∷ wss) = first_of (far_among 0 ws) (first_far_of wss)

abbrev pub told : Option LinkFault → Option (Line × ℤ)
told None = None
told (Some fault) = Some (fault.line, fault.distance)

-- ---- instructions

abbrev pub from_row : Option FrameRow → ℕ
from_row None = 0
from_row (Some row) = row.code_from

-- the address of a function
abbrev pub start_in : List FrameRow → ℕ → ℕ
start_in rows f = from_row (slice_get rows f)

-- the instruction of a word at an address, the word `at` of its function
abbrev pub resolved_by : List FrameRow → ℕ → ℕ → PostedIns → Ins
resolved_by rows address at (posted.Plain i) = i
resolved_by rows address at (posted.Branch op rs1 rs2 to) = branch_ins op rs1 rs2 (distance at to)
resolved_by rows address at (posted.Jump to) = upper_ins ops.Jal registers.Zero (distance at to)
resolved_by rows address at (posted.Call f) = upper_ins ops.Jal registers.Ra (pos (start_in rows f) -ℤ pos address)
resolved_by rows address at (posted.Entry entry) = upper_ins ops.Jal registers.Ra (pos entry -ℤ pos address)

abbrev pub resolved_in : List FrameRow → ℕ → ℕ → List PostedWord → List Ins
resolved_in rows address at [] = []
resolved_in rows address at (w ∷ ws) = resolved_by rows address at w.ins ∷ resolved_in rows (address + 4) (at + 1) ws

abbrev pub resolved_all : List FrameRow → ℕ → List (List PostedWord) → List Ins
resolved_all rows address [] = []
resolved_all rows address (ws ∷ wss) = resolved_in rows address 0 ws ++ resolved_all rows (address + 4 * length ws) wss

-- each has a word
abbrev pub AllFit : List Ins → Type 0
AllFit [] = Unit {0}
AllFit (i ∷ is) = FitsTable i × AllFit is

-- a call names one of n functions
abbrev pub IsCalled : ℕ → PostedIns → Type 0
IsCalled n (posted.Call f) = f < n
IsCalled n _ = Unit {0}

abbrev pub AreCalled : ℕ → List PostedWord → Type 0
AreCalled n [] = Unit {0}
AreCalled n (w ∷ ws) = IsCalled n w.ins × AreCalled n ws

abbrev pub AllCalled : ℕ → List (List PostedWord) → Type 0
AllCalled n [] = Unit {0}
AllCalled n (ws ∷ wss) = AreCalled n ws × AllCalled n wss

-- ---- words

-- behind these words, words of the rest make words of the whole
abbrev pub Leaves : List Ins → List Ins → List ℕ → Type 0
Leaves whole rest done = (ws : List ℕ) → AreWords rest ws → AreWords whole (done ++ ws)

-- the new words are the old ones with words of these instructions behind
abbrev pub Adds : List Ins → List ℕ → List ℕ → Type 0
Adds is old new = (whole rest : List Ins) → Leaves whole (is ++ rest) old → Leaves whole rest new

-- the image of functions that are laid out
pub record IsAssembled (functions : List PostedFunction) (rows : List FrameRow) (forks : List ForkRow) (rodata : List ℕ) (main : ℕ) (image : Image) : Type 0 where
  pub words : AreWords (resolved_all rows code_start (words_in functions)) image.words
  pub rows_are : image.rows ≡ rows
  pub forks_are : image.forks ≡ forks
  pub bytes : image.rodata ≡ rodata
  pub lines : image.lines ≡ map (λ w. w.line) (joined (words_in functions))
  pub begins : image.begins ≡ map (λ w. w.begins) (joined (words_in functions))
  pub main_is : image.main_at ≡ start_in rows main

-- ---- what encoding needs of code

pub record IsEncodable (functions : List PostedFunction) (rows : List FrameRow) (main : ℕ) : Type 0 where
  pub fits : ∥ AllFit (resolved_all rows code_start (words_in functions)) ∥₁
  pub calls : AllCalled (length rows) (words_in functions)
  pub small : total (words_in functions) ≤ 196608
  pub main_in : main < length rows
