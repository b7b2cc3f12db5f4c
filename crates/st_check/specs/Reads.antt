-- What is told of undefined reads by the order of functions and items: the first of one function (IsToldOf), the first of a program
-- (IsFirstTold), and that there are none in a program (ReadsDefined).
use Rattle.std.specs.Prelude.{◌≡◌, ℕ, ◌<◌, ◌≤◌, ◌∷◌, Some, slice_get, map, reverse}
use Rattle.st_base.specs.declared.form.FormKind.TheVariants.{UndefinedRead as UndefinedRead'}
use Rattle.st_model.specs.declared.program.Program.{Program}
use Rattle.st_model.specs.declared.program.ProgramFunction.{ProgramFunction}
use Rattle.st_model.specs.Flow.{UndefinedRead}
use Rattle.st_flow.specs.Undefined.{PassesOnce}
use Rattle.st_check.specs.declared.fault.FormFault.{FormFault}
use Rattle.st_check.specs.Acceptance.{lines_at}

-- the fault is told of the first item of the function that has an undefined read, and carries the lines of a path to it
pub record IsToldOf (p : Program) (function : ProgramFunction) (fault : FormFault) : Type 0 where
  pub bad : UndefinedRead p function
  pub first : (read : UndefinedRead p function) → bad.at ≤ read.at
  pub kind : fault.kind ≡ UndefinedRead'
  pub line : fault.line ≡ bad.item.line
  pub path : map Some fault.path ≡ lines_at function (reverse (bad.at ∷ bad.back))
  pub once : PassesOnce function bad.place (reverse (bad.at ∷ bad.back))

-- the functions before a place have no undefined read
abbrev pub ReadsDefinedBelow : Program → ℕ → Type 0
ReadsDefinedBelow p end = (f : ℕ) (function : ProgramFunction) → f < end → slice_get p.functions f ≡ Some function → UndefinedRead p function → ⊥

-- the fault is told of the first function that has an undefined read, and there of its first item
pub record IsFirstTold (p : Program) (fault : FormFault) : Type 0 where
  pub f : ℕ
  pub function : ProgramFunction
  pub there : slice_get p.functions f ≡ Some function
  pub below : ReadsDefinedBelow p f
  pub told : IsToldOf p function fault

-- no function has an undefined read
abbrev pub ReadsDefined : Program → Type 0
ReadsDefined p = (f : ℕ) (function : ProgramFunction) → slice_get p.functions f ≡ Some function → UndefinedRead p function → ⊥
