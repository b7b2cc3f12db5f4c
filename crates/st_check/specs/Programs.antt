-- The program of a unit (program_of): each function's items are its prologue, its epilogues, its forks with their calls, and its other
-- lines. It is meant where the unit has none of the faults of Faults; what it is elsewhere doesn't matter.
use Rattle.std.specs.Prelude.{ℕ, ◌+◌, ◌-◌, ◌^◌, ℤ, pos, Bool, true, false, ◌==◌, List, [], ◌∷◌, map, Option, Some, None, if◌then◌else◌}
use Rattle.std.specs.Str.{bytes_eq}
use Rattle.st_base.specs.declared.reg.Reg.{Reg}
use Rattle.st_base.specs.Reg.{reg_number}
use Rattle.st_line.specs.declared.source.Target.{Target}
use Rattle.st_line.specs.declared.source.Target.TheVariants as targets
use Rattle.st_line.specs.declared.source.SourceIns.{SourceIns}
use Rattle.st_line.specs.declared.source.SourceIns.TheVariants as source
use Rattle.st_asm.specs.declared.unit.Function.{Function}
use Rattle.st_asm.specs.Labels.{entry_at}
use Rattle.st_line.specs.Operands.{named_in}
use Rattle.st_model.specs.declared.program.Item.{Item}
use Rattle.st_model.specs.declared.program.ItemKind.{ItemKind}
use Rattle.st_model.specs.declared.program.ItemKind.TheVariants as items
use Rattle.st_model.specs.declared.program.Program.{Program}
use Rattle.st_model.specs.declared.program.ProgramFunction.{ProgramFunction}
use Rattle.st_check.specs.Shape.{Group, epilogue, single, Shape, faulty, formed, shape_of, first_line}
use Rattle.st_check.specs.Faults.{main_name, is_fork}

-- ---- names

abbrev pub number_or : Option ℕ → ℕ
number_or None = 0
number_or (Some n) = n

-- the place of the function of a name, counted on from this number
abbrev pub place_from : ℕ → List ℕ → List Function → Option ℕ
place_from f name [] = None
place_from f name (g ∷ gs) = if bytes_eq g.name name then Some f else place_from (f + 1) name gs

abbrev pub function_place : List Function → List ℕ → Option ℕ
function_place functions name = place_from 0 name functions

-- the address of the entry of a name
abbrev pub entry_address : List ℕ → ℕ
entry_address name = number_or (entry_at name)

-- ---- places

-- a line `.st_fork` is one item with the call behind it
abbrev pub is_fork_group : Group → Bool
is_fork_group (single l) = is_fork l.ins
is_fork_group (epilogue line) = false

-- the number of the item that begins at the line of a place, counted on from this number; behind a `.st_fork` its call is no item
abbrev pub item_number : ℕ → Bool → ℕ → List (ℕ × Group) → ℕ
item_number n forked at [] = n
item_number n true at (g ∷ gs) = item_number n false at gs
item_number n false at (g ∷ gs) = if g.0 == at then n else item_number (n + 1) (is_fork_group g.1) at gs

-- the item to which a branch goes; the prologue is item 0
abbrev pub item_of_target : List (ℕ × Group) → Target → ℕ
item_of_target groups (targets.Place f at) = item_number 1 false at groups
item_of_target groups _ = 0

abbrev pub data_address : Target → ℤ
data_address (targets.Data offset) = pos (0x2000_0000 + offset)
data_address _ = pos 0

-- ---- items

abbrev pub call_kind : List Function → List ℕ → Option ℕ → ItemKind
call_kind functions name (Some f) = items.Call f
call_kind functions name None = items.Entry (entry_address name)

abbrev pub called : List Function → SourceIns → ℕ
called functions (source.Call name) = number_or (function_place functions name)
called functions _ = 0

abbrev pub call_behind : List Function → List (ℕ × Group) → ℕ
call_behind functions ((at, single l) ∷ gs) = called functions l.ins
call_behind functions _ = 0

abbrev pub line_kind : List Function → List (ℕ × Group) → SourceIns → List (ℕ × Group) → ItemKind
line_kind functions groups (source.Plain i) behind = items.Plain i
line_kind functions groups (source.Li rd value) behind = items.Li rd value
line_kind functions groups (source.La rd to) behind = items.Li rd (data_address to)
line_kind functions groups (source.Branch op rs1 rs2 to) behind = items.Branch op rs1 rs2 (item_of_target groups to)
line_kind functions groups (source.Jump to) behind = items.Jump (item_of_target groups to)
line_kind functions groups (source.Call name) behind = call_kind functions name (function_place functions name)
line_kind functions groups source.Ret behind = items.Epilogue
line_kind functions groups (source.Fork handle) behind = items.Fork (call_behind functions behind) handle

-- the items of groups; behind a `.st_fork` its call is no item
abbrev pub items_of : List Function → List (ℕ × Group) → Bool → List (ℕ × Group) → List Item
items_of functions groups forked [] = []
items_of functions groups true (g ∷ gs) = items_of functions groups false gs
items_of functions groups false ((at, epilogue line) ∷ gs) = record { line = line; kind = items.Epilogue } ∷ items_of functions groups false gs
items_of functions groups false ((at, single l) ∷ gs) =
    record { line = l.line; kind = line_kind functions groups l.ins gs } ∷ items_of functions groups (is_fork_group (single l)) gs

-- ---- functions

-- s1 is x9, and s2 to s11 are x18 to x27
abbrev pub saved_bit : Reg → ℕ
saved_bit r = if reg_number r == 9 then 0 else (reg_number r - 17)

-- the saved registers as bits: bit i-1 stands for s_i
abbrev pub saved_bits : List Reg → ℕ
saved_bits [] = 0
saved_bits (r ∷ rs) = 2 ^ saved_bit r + saved_bits rs

abbrev pub function_by : List Function → Function → Shape → ProgramFunction
function_by functions function (faulty fault) =
    record { ints = function.ints; handles = function.handles; frame_bytes = 0; saved = 0; slots = function.slots; items = [] }
function_by functions function (formed shape) =
    record { ints = function.ints; handles = function.handles; frame_bytes = shape.frame; saved = saved_bits shape.saved; slots = function.slots; items = record { line = first_line function.line function.items; kind = items.Prologue } ∷ items_of functions shape.groups false shape.groups }

abbrev pub program_function : List Function → Function → ProgramFunction
program_function functions function = function_by functions function (shape_of function)

-- ---- programs

unfoldable pub program_of : List Function → Program
program_of functions = record { functions = map (program_function functions) functions; main = number_or (function_place functions main_name) }
