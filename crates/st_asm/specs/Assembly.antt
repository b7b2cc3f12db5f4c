-- How lines make a unit (unit_of): each line in turn is labelled and stated in what was assembled so far, or has a fault; then names in
-- operands become places. The fault told is that of the first line, and there the least kind (checked_line tests in that order).
use Rattle.std.specs.Prelude.{ℕ, ◌+◌, ◌-◌, ◌%◌, ◌^◌, Bool, true, false, ◌&&◌, ◌==◌, nat_le, nat_lt, List, [], ◌∷◌, ◌++◌, length, replicate, map, Option, Some, None, Result, Ok, Err, if◌then◌else◌}
use Rattle.std.specs.Str.{bytes_eq}
use Rattle.st_base.specs.declared.line.Line.{Line}
use Rattle.st_line.specs.declared.fault.AsmKind.{AsmKind}
use Rattle.st_line.specs.declared.fault.AsmKind.TheVariants.{DoubleLabel, NoLabel, TooLarge}
use Rattle.st_line.specs.declared.fault.AsmFault.{AsmFault}
use Rattle.st_line.specs.declared.source.Target.{Target}
use Rattle.st_line.specs.declared.source.Target.TheVariants as targets
use Rattle.st_line.specs.declared.source.SourceIns.{SourceIns}
use Rattle.st_line.specs.declared.source.SourceIns.TheVariants as source
use Rattle.st_line.specs.declared.source.Statement.{Statement}
use Rattle.st_line.specs.declared.source.Statement.TheVariants as statements
use Rattle.st_line.specs.declared.source.Part.{Part}
use Rattle.st_line.specs.declared.source.Part.TheVariants as parts
use Rattle.st_line.specs.declared.source.Standing.{Standing}
use Rattle.st_line.specs.Statement.{◌>>=◌, require, line_label, line_statement}
use Rattle.st_asm.specs.declared.unit.SourceLine.{SourceLine}
use Rattle.st_asm.specs.declared.unit.Function.{Function}
use Rattle.st_asm.specs.Labels.{Located, located, is_local, scope_of, Definition, definitions_of, is_single, is_known}

-- a label of a scope, with what stands there
pub record Label : Type 0 where
  pub scope : ℕ
  pub name : List ℕ
  pub target : Target

-- what the lines so far have made
pub record Assembly : Type 0 where
  -- where the next line stands
  pub standing : Standing
  -- the functions that are whole, and the one that goes on
  pub functions : List Function
  pub current : Option Function
  pub rodata : List ℕ
  -- the instruction lines; a line `.st_fork` isn't one
  pub instructions : ℕ
  -- a label stands where the next item will
  pub marked : Bool
  pub labels : List Label

abbrev pub nothing : Assembly
nothing = record { standing = record { in_data = false; part = parts.Outside }; functions = []; current = None; rodata = []; instructions = 0; marked = false; labels = [] }

abbrev pub one_or_none : Option Function → List Function
one_or_none None = []
one_or_none (Some f) = f ∷ []

-- all functions, the one that goes on too
abbrev pub functions_in : Assembly → List Function
functions_in a = a.functions ++ one_or_none a.current

-- a file begins as code, in no function
abbrev pub begin_file : Assembly → Assembly
begin_file a = record a { standing = record { in_data = false; part = parts.Outside }; functions = functions_in a; current = None; marked = false }

abbrev pub begin_line : Line → Assembly → Assembly
begin_line line a = if line.line == 1 then begin_file a else a

-- ---- labels

abbrev pub with_label : Line → List ℕ → Target → Assembly → Assembly
with_label line name target a = record a { labels = a.labels ++ record { scope = scope_of line.file name; name = name; target = target } ∷ [] }

-- a label in data
abbrev pub data_label : Line → List ℕ → Assembly → Assembly
data_label line name a = with_label line name (targets.Data (length a.rodata)) a

abbrev pub new_function : Line → List ℕ → Function
new_function line name = record { name = name; ints = 0; handles = 0; slots = 0; line = line; items = [] }

-- a label in code that isn't local begins a function
abbrev pub function_label : Line → List ℕ → Assembly → Assembly
function_label line name a =
    with_label line name (targets.Place (length (functions_in a)) 0) (record a { standing = record a.standing { part = parts.Head false false }; functions = functions_in a; current = Some (new_function line name); marked = true })

-- a local label in code; outside a function nothing stands there
abbrev pub local_label : Line → List ℕ → Option Function → Assembly → Assembly
local_label line name None a = a
local_label line name (Some f) a = with_label line name (targets.Place (length a.functions) (length f.items)) (record a { marked = true })

abbrev pub label_in : Bool → Bool → Line → List ℕ → Assembly → Assembly
label_in true local line name a = data_label line name a
label_in false true line name a = local_label line name a.current a
label_in false false line name a = function_label line name a

abbrev pub labelled : Line → Option (List ℕ) → Assembly → Assembly
labelled line None a = a
labelled line (Some name) a = label_in a.standing.in_data (is_local name) line name a

-- ---- statements

abbrev pub zeros : ℕ → List ℕ
zeros n = replicate n 0

-- the zeros that bring a length to a multiple
abbrev pub padding : ℕ → ℕ → ℕ
padding multiple n = (multiple - n % multiple) % multiple

abbrev pub with_data : List ℕ → Assembly → Assembly
with_data bytes a = record a { rodata = a.rodata ++ bytes }

abbrev pub aligned : Bool → ℕ → Assembly → Assembly
aligned true power a = with_data (zeros (padding (2 ^ power) (length a.rodata))) a
aligned false power a = a

abbrev pub on_function : (Function → Function) → Option Function → Option Function
on_function f None = None
on_function f (Some function) = Some (f function)

-- what `.st_args` and `.st_handles` leave of the head of a function
abbrev pub argued : Part → Part
argued (parts.Head arguments handles) = parts.Head true handles
argued part = part

abbrev pub handled : Part → Part
handled (parts.Head arguments handles) = parts.Head arguments true
handled part = part

-- 1 for an instruction, and 0 for `.st_fork`
abbrev pub weight : SourceIns → ℕ
weight (source.Fork handle) = 0
weight _ = 1

abbrev pub with_item : Line → SourceIns → Assembly → Assembly
with_item line ins a =
    record a { standing = record a.standing { part = parts.Body }; current = on_function (λ f. record f { items = f.items ++ record { line = line; labelled = a.marked; ins = ins } ∷ [] }) a.current; instructions = a.instructions + weight ins; marked = false }

abbrev pub in_section : Bool → Assembly → Assembly
in_section is_data a = record a { standing = record a.standing { in_data = is_data } }

abbrev pub with_statement : Line → Statement → Assembly → Assembly
with_statement line statements.Ignored a = a
with_statement line statements.Code a = in_section false a
with_statement line statements.Rodata a = in_section true a
with_statement line (statements.Align power) a = aligned a.standing.in_data power a
with_statement line (statements.Data bytes) a = with_data bytes a
with_statement line (statements.Zeros count) a = with_data (zeros count) a
with_statement line (statements.Arguments ints handles) a =
    record a { standing = record a.standing { part = argued a.standing.part }; current = on_function (λ f. record f { ints = ints; handles = handles }) a.current }
with_statement line (statements.Handles slots) a =
    record a { standing = record a.standing { part = handled a.standing.part }; current = on_function (λ f. record f { slots = slots }) a.current }
with_statement line (statements.Instruction ins) a = with_item line ins a

abbrev pub stated : Line → Option Statement → Assembly → Assembly
stated line None a = a
stated line (Some statement) a = with_statement line statement a

-- ---- one line

-- the name that an instruction's operand gives
abbrev pub name_in_target : Target → Option (List ℕ)
name_in_target (targets.Name name) = Some name
name_in_target _ = None

abbrev pub name_in : SourceIns → Option (List ℕ)
name_in (source.La rd to) = name_in_target to
name_in (source.Branch op rs1 rs2 to) = name_in_target to
name_in (source.Jump to) = name_in_target to
name_in (source.Call name) = Some name
name_in _ = None

abbrev pub name_given : Option Statement → Option (List ℕ)
name_given (Some (statements.Instruction ins)) = name_in ins
name_given _ = None

-- at most 65,536 instruction lines and 1,048,576 bytes of data
abbrev pub is_small : Assembly → Bool
is_small a = nat_le a.instructions 65536 && nat_le (length a.rodata) 1048576

-- what has been made behind a line, or the line's least fault
unfoldable pub checked_line : List Definition → Assembly → Located → Result Assembly AsmKind
checked_line ds a l = do
  statement ← line_statement (labelled l.line (line_label l.text) (begin_line l.line a)).standing l.text
  single ← require (is_single ds l.line (line_label l.text)) DoubleLabel
  known ← require (is_known ds l.line.file (name_given statement)) NoLabel
  small ← require (is_small (stated l.line statement (labelled l.line (line_label l.text) (begin_line l.line a)))) TooLarge
  Ok (stated l.line statement (labelled l.line (line_label l.text) (begin_line l.line a)))

-- ---- all lines

abbrev pub then_lines : Line → (Assembly → Result Assembly AsmFault) → Result Assembly AsmKind → Result Assembly AsmFault
then_lines line rest (Ok a) = rest a
then_lines line rest (Err kind) = Err (record { line = line; kind = kind })

-- what all lines make, or the first fault
abbrev pub checked_lines : List Definition → Assembly → List Located → Result Assembly AsmFault
checked_lines ds a [] = Ok a
checked_lines ds a (l ∷ ls) = then_lines l.line (λ b. checked_lines ds b ls) (checked_line ds a l)

-- ---- names become places

-- what stands at a label of a scope
abbrev pub target_at : ℕ → List ℕ → List Label → Option Target
target_at scope name [] = None
target_at scope name (l ∷ ls) = if (l.scope == scope) && bytes_eq l.name name then Some l.target else target_at scope name ls

abbrev pub found_or : Target → Option Target → Target
found_or to None = to
found_or to (Some found) = found

abbrev pub target_in : List Label → ℕ → Target → Target
target_in labels file (targets.Name name) = found_or (targets.Name name) (target_at (scope_of file name) name labels)
target_in labels file to = to

abbrev pub ins_in : List Label → ℕ → SourceIns → SourceIns
ins_in labels file (source.La rd to) = source.La rd (target_in labels file to)
ins_in labels file (source.Branch op rs1 rs2 to) = source.Branch op rs1 rs2 (target_in labels file to)
ins_in labels file (source.Jump to) = source.Jump (target_in labels file to)
ins_in labels file ins = ins

abbrev pub item_in : List Label → SourceLine → SourceLine
item_in labels item = record item { ins = ins_in labels item.line.file item.ins }

abbrev pub function_in : List Label → Function → Function
function_in labels function = record function { items = map (item_in labels) function.items }

-- ---- units

-- the functions and the read-only data of a unit
pub record Parts : Type 0 where
  pub functions : List Function
  pub rodata : List ℕ

abbrev pub parts_in : Assembly → Parts
parts_in a = record { functions = map (function_in a.labels) (functions_in a); rodata = a.rodata }

abbrev pub unit_from : Result Assembly AsmFault → Result Parts AsmFault
unit_from (Ok a) = Ok (parts_in a)
unit_from (Err fault) = Err fault

-- the file, counted on from this number, in which the byte past 1,048,576 of all texts stands, with so many before
abbrev pub too_long : ℕ → ℕ → List (List ℕ) → Option ℕ
too_long file before [] = None
too_long file before (text ∷ texts) = if nat_lt 1048576 (before + length text) then Some file else too_long (file + 1) (before + length text) texts

abbrev pub unit_when : Option ℕ → List Located → Result Parts AsmFault
unit_when (Some file) lines = Err (record { line = record { file = file; line = 1 }; kind = TooLarge })
unit_when None lines = unit_from (checked_lines (definitions_of lines) nothing lines)

-- the unit of texts, or their first fault
unfoldable pub unit_of : List (List ℕ) → Result Parts AsmFault
unit_of texts = unit_when (too_long 1 0 texts) (located 1 texts)
