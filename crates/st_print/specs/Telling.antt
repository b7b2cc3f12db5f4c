-- The texts of faults (fault_text), each one line. FILE is the word that named the file; a path is its numbers, separated by commas, in
-- brackets. NamesFiles: there is a word for each file that a fault names.
use Rattle.std.specs.Prelude.{◌≤◌, ℕ, ◌-◌, List, [], ◌∷◌, ◌++◌, length, slice_index_or, codes, decimal}
use Rattle.std.specs.Fmt.{signed_decimal}
use Rattle.st_base.specs.declared.line.Line.{Line}
use Rattle.st_base.specs.declared.form.FormKind.{FormKind}
use Rattle.st_base.specs.declared.form.FormKind.TheVariants as forms
use Rattle.st_base.specs.declared.thread.TrapKind.{TrapKind}
use Rattle.st_base.specs.declared.thread.TrapKind.TheVariants as traps
use Rattle.st_base.specs.declared.limits.LimitKind.{LimitKind}
use Rattle.st_base.specs.declared.limits.LimitKind.TheVariants as limits
use Rattle.st_line.specs.Fault.{kind_text}
use Rattle.st_print.specs.declared.fault.Fault.{Fault}
use Rattle.st_print.specs.declared.fault.Fault.TheVariants as faults

abbrev pub form_text : FormKind → List ℕ
form_text forms.NoMain = codes "F1 NoMain"
form_text forms.Prologue = codes "F2 Prologue"
form_text forms.Epilogue = codes "F3 Epilogue"
form_text forms.FrameSize = codes "F4 FrameSize"
form_text forms.SlotRange = codes "F5 SlotRange"
form_text forms.Partition = codes "F6 Partition"
form_text forms.NotSaved = codes "F7 NotSaved"
form_text forms.BranchOut = codes "F8 BranchOut"
form_text forms.FallsOut = codes "F9 FallsOut"
form_text forms.ForkPlace = codes "F10 ForkPlace"
form_text forms.UndefinedRead = codes "F11 UndefinedRead"
form_text forms.BadCall = codes "F12 BadCall"

abbrev pub trap_text : TrapKind → List ℕ
trap_text traps.LoadRange = codes "LoadRange"
trap_text traps.Misaligned = codes "Misaligned"
trap_text traps.WrongHandle = codes "WrongHandle"
trap_text traps.PutInChild = codes "PutInChild"
trap_text traps.Abort = codes "Abort"

-- the numbers of a path, each behind a comma
abbrev pub numbers_after : List ℕ → List ℕ
numbers_after [] = []
numbers_after (k ∷ path) = codes "," ++ decimal k ++ numbers_after path

abbrev pub numbers_text : List ℕ → List ℕ
numbers_text [] = []
numbers_text (k ∷ path) = decimal k ++ numbers_after path

abbrev pub path_text : List ℕ → List ℕ
path_text path = codes "[" ++ numbers_text path ++ codes "]"

-- the name of a file, which is counted from 1
abbrev pub file_text : List (List ℕ) → ℕ → List ℕ
file_text names file = slice_index_or names (file - 1) []

abbrev pub line_text : List (List ℕ) → Line → List ℕ
line_text names line = file_text names line.file ++ codes ":" ++ decimal line.line ++ codes ": "

abbrev pub limit_text : LimitKind → List ℕ
limit_text (limits.Stack worker frame) = codes "limit Stack worker " ++ decimal worker ++ codes " frame " ++ decimal frame
limit_text (limits.Cell cells) = codes "limit Cell " ++ decimal cells
limit_text (limits.Step worker) = codes "limit Step worker " ++ decimal worker
limit_text limits.Out = codes "limit Out"
limit_text limits.Input = codes "limit Input"
limit_text limits.Turn = codes "limit Turn"

-- a fault's text without the line's end
abbrev pub fault_words : List (List ℕ) → Fault → List ℕ
fault_words names faults.Usage = codes "usage: st_main COMMAND [OPTIONS] FILE..."
fault_words names (faults.Reading f) = line_text names f.line ++ kind_text f.kind
fault_words names (faults.Checking line kind) = line_text names line ++ form_text kind
fault_words names (faults.Linking line distance) = line_text names line ++ codes "L1 BranchRange " ++ signed_decimal distance
fault_words names (faults.Trap line kind path) = line_text names line ++ codes "trap " ++ trap_text kind ++ codes " in thread " ++ path_text path
fault_words names (faults.Deadlock line path) = line_text names line ++ codes "deadlock in thread " ++ path_text path
fault_words names (faults.Waits line path) = line_text names line ++ codes "waits in thread " ++ path_text path
fault_words names (faults.Limit kind) = limit_text kind
fault_words names (faults.ReadFile file) = codes "read fault " ++ file_text names file
fault_words names faults.ReadInput = codes "read fault input"
fault_words names faults.Write = codes "write fault"
fault_words names faults.OutOfMemory = codes "out of memory"

unfoldable pub fault_text : List (List ℕ) → Fault → List ℕ
fault_text names fault = fault_words names fault ++ codes "\n"

-- there is a name for the file, which is counted from 1
abbrev pub HasName : List (List ℕ) → ℕ → Type 0
HasName names file = (1 ≤ file) × (file ≤ length names)

abbrev pub NamesFiles : List (List ℕ) → Fault → Type 0
NamesFiles names (faults.Reading f) = HasName names f.line.file
NamesFiles names (faults.Checking line kind) = HasName names line.file
NamesFiles names (faults.Linking line distance) = HasName names line.file
NamesFiles names (faults.Trap line kind path) = HasName names line.file
NamesFiles names (faults.Deadlock line path) = HasName names line.file
NamesFiles names (faults.Waits line path) = HasName names line.file
NamesFiles names (faults.ReadFile file) = HasName names file
NamesFiles names _ = Unit {0}
