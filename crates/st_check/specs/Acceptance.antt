-- When a unit is accepted (IsAcceptedUnit), and which fault is told where it isn't (IsFirstFault): the least of its faults of form; where
-- it has none, the undefined read that is first by file and line.
use Rattle.std.specs.Prelude.{◌≡◌, ◌⊎◌, ℕ, List, [], ◌∷◌, ◌++◌, Option, Some, None, slice_get, map, reverse, AllPairs}
use Rattle.st_base.specs.declared.line.Line.{Line}
use Rattle.st_base.specs.declared.form.FormKind.TheVariants.{UndefinedRead as UndefinedRead'}
use Rattle.st_asm.specs.declared.unit.Function.{Function}
use Rattle.st_asm.specs.declared.unit.SourceLine.{SourceLine}
use Rattle.st_asm.specs.Unit.{IsEarlier}
use Rattle.st_model.specs.declared.program.Item.{Item}
use Rattle.st_model.specs.declared.program.Program.{Program}
use Rattle.st_model.specs.declared.program.ProgramFunction.{ProgramFunction}
use Rattle.st_model.specs.Flow.{UndefinedRead}
use Rattle.st_flow.specs.Undefined.{PassesOnce}
use Rattle.st_check.specs.declared.fault.FormFault.{FormFault}
use Rattle.st_base.specs.declared.failure.Failure.{Failure}
use Rattle.st_base.specs.declared.failure.Failure.TheVariants as errors
use Rattle.st_check.specs.Faults.{unit_faults, least_fault}
use Rattle.st_check.specs.Programs.{program_of}

-- a unit has none of the faults of form, and no path of items of its program leads to an undefined read
pub record IsAcceptedUnit (functions : List Function) : Type 0 where
  pub formed : unit_faults functions ≡ []
  pub defined : (f : ℕ) (function : ProgramFunction) → slice_get (program_of functions).functions f ≡ Some function → UndefinedRead (program_of functions) function → ⊥

abbrev pub line_of : Option Item → Option Line
line_of None = None
line_of (Some item) = Some item.line

-- the first lines of the items at these places
abbrev pub lines_at : ProgramFunction → List ℕ → List (Option Line)
lines_at function [] = []
lines_at function (i ∷ is) = line_of (slice_get function.items i) ∷ lines_at function is

-- no undefined read of the program stands on an earlier line
abbrev pub IsFirstRead : Program → Line → Type 0
IsFirstRead p line = (g : ℕ) (function : ProgramFunction) → slice_get p.functions g ≡ Some function → (bad : UndefinedRead p function) → IsEarlier bad.item.line line → ⊥

-- the fault is told of an item that has an undefined read, the first by file and line, and carries the lines of a path to it, which
-- passes no item twice up to the last that takes the place's definition away, and none twice behind it
pub record IsReadFault (p : Program) (fault : FormFault) : Type 0 where
  pub f : ℕ
  pub function : ProgramFunction
  pub there : slice_get p.functions f ≡ Some function
  pub bad : UndefinedRead p function
  pub first : IsFirstRead p fault.line
  pub kind : fault.kind ≡ UndefinedRead'
  pub line : fault.line ≡ bad.item.line
  pub path : map Some fault.path ≡ lines_at function (reverse (bad.at ∷ bad.back))
  pub once : PassesOnce function bad.place (reverse (bad.at ∷ bad.back))

-- the fault that is told of a unit
abbrev pub IsFirstFault : List Function → FormFault → Type 0
IsFirstFault functions fault =
    ((least_fault (unit_faults functions) ≡ Some (fault.line, fault.kind)) × (fault.path ≡ [])) ⊎ ((unit_faults functions ≡ []) × IsReadFault (program_of functions) fault)

-- ---- lines

-- the line is that of a function's label, or of one of its items
abbrev pub IsFunctionLine : Function → Line → Type 0
IsFunctionLine function line = (function.line ≡ line) ⊎ ((i : ℕ) × ((item : SourceLine) × (slice_get function.items i ≡ Some item) × (item.line ≡ line)))

-- the line is one of the functions' lines
abbrev pub IsUnitLine : List Function → Line → Type 0
IsUnitLine functions line = (f : ℕ) × ((function : Function) × (slice_get functions f ≡ Some function) × IsFunctionLine function line)

-- the line of a fault: one of the functions', or line 1 of file 1 where there is no main
abbrev pub IsFaultLine : List Function → Line → Type 0
IsFaultLine functions line = (line ≡ record { file = 1; line = 1 }) ⊎ IsUnitLine functions line

abbrev pub IsErrorLine : List Function → Failure FormFault → Type 0
IsErrorLine functions (errors.Fault fault) = IsFaultLine functions fault.line
IsErrorLine functions errors.OutOfMemory = Unit {0}

-- each item of a program has one of the functions' lines
abbrev pub HasUnitLines : List Function → Program → Type 0
HasUnitLines functions p = (f i : ℕ) (function : ProgramFunction) (item : Item) → slice_get p.functions f ≡ Some function → slice_get function.items i ≡ Some item → IsUnitLine functions item.line

-- the lines of all items of a program, in the order of functions and items
abbrev pub program_lines : List ProgramFunction → List Line
program_lines [] = []
program_lines (f ∷ fs) = map (λ item. item.line) f.items ++ program_lines fs

-- each item of a program stands on a later line than those before it
abbrev pub HasOrder : Program → Type 0
HasOrder p = AllPairs IsEarlier (program_lines p.functions)

-- ---- refusals

-- a refusal but for want of memory tells the unit's first fault, and the unit isn't accepted
abbrev pub IsRefusal : List Function → Failure FormFault → Type 0
IsRefusal functions (errors.Fault fault) = IsFirstFault functions fault × (IsAcceptedUnit functions → ⊥)
IsRefusal functions errors.OutOfMemory = Unit {0}
