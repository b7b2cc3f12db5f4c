-- When a program isn't linked: a branch of its postprocessed layout doesn't reach (IsFar), and of these the first by file and line is told
-- (IsFirstFar).
use Rattle.std.specs.Prelude.{◌≡◌, ℕ, ℤ, Some, slice_get}
use Rattle.st_base.specs.declared.line.Line.{Line}
use Rattle.st_asm.specs.Unit.{IsEarlier}
use Rattle.st_model.specs.declared.code.Layout.TheVariants.{Postprocessed}
use Rattle.st_model.specs.declared.code.PostedWord.{PostedWord}
use Rattle.st_model.specs.declared.program.Program.{Program}
use Rattle.st_model.specs.declared.program.ProgramFunction.{ProgramFunction}
use Rattle.st_model.specs.Layout.{far_at, far_branch, function_words}
use Rattle.st_link.specs.declared.error.LinkFault.{LinkFault}
use Rattle.st_base.specs.declared.failure.Failure.{Failure}
use Rattle.st_base.specs.declared.failure.Failure.TheVariants.{Fault, OutOfMemory}

-- a branch of the postprocessed layout that doesn't reach: its line and its distance
pub record IsFar (p : Program) (line : Line) (distance : ℤ) : Type 0 where
  pub f : ℕ
  pub function : ProgramFunction
  pub there : slice_get p.functions f ≡ Some function
  pub at : ℕ
  pub word : PostedWord
  pub placed : slice_get (function_words Postprocessed function) at ≡ Some word
  pub far : far_at at word.line word.ins ≡ Some (line, distance)

-- the first branch that doesn't reach: no other that doesn't stands on an earlier line
abbrev pub IsFirstFar : Program → Line → ℤ → Type 0
IsFirstFar p line distance = (far_branch p ≡ Some (line, distance)) × ((l : Line) (d : ℤ) → IsFar p l d → IsEarlier l line → ⊥)

-- a refusal but for want of memory tells the first branch that doesn't reach in the postprocessed layout
abbrev pub IsRefusal : Program → Failure LinkFault → Type 0
IsRefusal p (Fault fault) = IsFirstFar p fault.line fault.distance
IsRefusal p OutOfMemory = Unit {0}
