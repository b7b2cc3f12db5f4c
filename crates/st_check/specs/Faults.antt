-- The faults of a unit but undefined reads (unit_faults): all that stand, each with its line and kind. The one that counts is the first by
-- file and line, and on one line the least kind (least_fault).
use Rattle.std.specs.Prelude.{ℕ, ◌+◌, ◌*◌, ◌-◌, ◌%◌, Bool, true, false, not, ◌&&◌, ◌||◌, ◌==◌, nat_le, nat_lt, List, [], ◌∷◌, ◌++◌, length, Option, Some, None, if◌then◌else◌, codes}
use Rattle.std.specs.Str.{bytes_eq}
use Rattle.st_base.specs.declared.reg.Reg.{Reg}
use Rattle.st_base.specs.Reg.{reg_number}
use Rattle.st_base.specs.declared.line.Line.{Line}
use Rattle.st_base.specs.declared.form.FormKind.{FormKind}
use Rattle.st_base.specs.declared.form.FormKind.TheVariants as forms
use Rattle.st_rv.specs.declared.ins.Ins.{Ins}
use Rattle.st_rv.specs.declared.ins.OpKind.{OpKind}
use Rattle.st_rv.specs.declared.ins.OpKind.TheVariants as kinds
use Rattle.st_rv.specs.Op.{kind_of}
use Rattle.st_rv.specs.Results.{access_size}
use Rattle.st_line.specs.declared.source.Target.{Target}
use Rattle.st_line.specs.declared.source.Target.TheVariants as targets
use Rattle.st_line.specs.declared.source.SourceIns.{SourceIns}
use Rattle.st_line.specs.declared.source.SourceIns.TheVariants as source
use Rattle.st_asm.specs.declared.unit.SourceLine.{SourceLine}
use Rattle.st_asm.specs.declared.unit.Function.{Function}
use Rattle.st_asm.specs.Labels.{is_named}
use Rattle.st_model.specs.Memory.{slot_place}
use Rattle.st_model.specs.Effect.{is_handle, is_frame, is_move}
use Rattle.st_model.specs.Accepted.{is_int}
use Rattle.st_check.specs.Shape.{Fault, Group, epilogue, single, Formed, Shape, faulty, formed, shape_of}

-- ---- registers

abbrev pub is_integer : Reg → Bool
is_integer r = is_int (reg_number r)

-- an integer register, zero or a handle
abbrev pub is_slot_register : Reg → Bool
is_slot_register r = is_integer r || is_handle r

abbrev pub is_in : Reg → List Reg → Bool
is_in r [] = false
is_in r (s ∷ ss) = (reg_number r == reg_number s) || is_in r ss

-- one of s1 to s11
abbrev pub is_saved : Reg → Bool
is_saved r = (reg_number r == 9) || (nat_le 18 (reg_number r) && nat_le (reg_number r) 27)

-- ---- slots: an access through s0 is aligned to its size, and lies wholly in the slots of its register's class

-- where the integer slots end: below the return word, the caller's s0 and the saved registers
abbrev pub slots_end : Formed → ℕ
slots_end shape = shape.frame - (16 + 8 * length shape.saved)

abbrev pub is_aligned : Formed → Ins → Bool
is_aligned shape i = slot_place shape.frame i.imm % access_size i.op == 0

abbrev pub is_in_slots : ℕ → Formed → Ins → Reg → Bool
is_in_slots h shape i r =
    if is_handle r then (access_size i.op == 8) && nat_le (slot_place shape.frame i.imm + 8) (8 * h)
    else (not (is_integer r) || (nat_le (8 * h) (slot_place shape.frame i.imm) && nat_le (slot_place shape.frame i.imm + access_size i.op) (slots_end shape)))

abbrev pub is_slot : ℕ → Formed → Ins → Reg → Bool
is_slot h shape i r = is_aligned shape i && is_in_slots h shape i r

-- F5 of a plain instruction: a store through another register than s0, or an access out of its slots
abbrev pub slot_fault : OpKind → ℕ → Formed → Ins → Bool
slot_fault kinds.Load h shape i = is_frame i.rs1 && not (is_slot h shape i i.rd)
slot_fault kinds.Store h shape i = not (is_frame i.rs1) || not (is_slot h shape i i.rs2)
slot_fault _ h shape i = false

abbrev pub line_slot_fault : ℕ → Formed → SourceIns → Bool
line_slot_fault h shape (source.Plain i) = slot_fault (kind_of i.op) h shape i
line_slot_fault h shape _ = false

-- ---- classes of registers: all are integers or zero, but s0 as the base of a slot access, and handles in `mv` and in slot accesses

abbrev pub are_integers : Reg → Reg → Bool
are_integers r s = is_integer r && is_integer s

abbrev pub is_handle_move : Ins → Bool
is_handle_move i = is_move i.op i.imm && is_handle i.rd && is_handle i.rs1

abbrev pub load_keeps : Bool → Ins → Bool
load_keeps true i = is_slot_register i.rd
load_keeps false i = are_integers i.rd i.rs1

abbrev pub store_keeps : Bool → Ins → Bool
store_keeps true i = is_slot_register i.rs2
store_keeps false i = are_integers i.rs1 i.rs2

abbrev pub plain_keeps : OpKind → Ins → Bool
plain_keeps kinds.Register i = is_integer i.rd && are_integers i.rs1 i.rs2
plain_keeps kinds.Immediate i = are_integers i.rd i.rs1 || is_handle_move i
plain_keeps kinds.Upper i = is_integer i.rd
plain_keeps kinds.Load i = load_keeps (is_frame i.rs1) i
plain_keeps kinds.Store i = store_keeps (is_frame i.rs1) i
plain_keeps _ i = true

-- the registers of an instruction are of their classes
abbrev pub keeps_classes : SourceIns → Bool
keeps_classes (source.Plain i) = plain_keeps (kind_of i.op) i
keeps_classes (source.Li rd value) = is_integer rd
keeps_classes (source.La rd to) = is_integer rd
keeps_classes (source.Branch op rs1 rs2 to) = are_integers rs1 rs2
keeps_classes _ = true

-- ---- what is written

abbrev pub plain_writes : OpKind → Ins → Option Reg
plain_writes kinds.Store i = None
plain_writes kinds.Break i = None
plain_writes _ i = Some i.rd

abbrev pub written : SourceIns → Option Reg
written (source.Plain i) = plain_writes (kind_of i.op) i
written (source.Li rd value) = Some rd
written (source.La rd to) = Some rd
written (source.Fork handle) = Some handle
written _ = None

abbrev pub may_write : Formed → Option Reg → Bool
may_write shape None = true
may_write shape (Some r) = not (is_saved r) || is_in r shape.saved

-- ---- branches

-- a place at which a group of the body begins
abbrev pub begins_group : ℕ → List (ℕ × Group) → Bool
begins_group at [] = false
begins_group at (g ∷ gs) = (g.0 == at) || begins_group at gs

abbrev pub stays : ℕ → Formed → Target → Bool
stays f shape (targets.Place g at) = (f == g) && begins_group at shape.groups
stays f shape _ = false

abbrev pub target_stays : ℕ → Formed → SourceIns → Bool
target_stays f shape (source.Branch op rs1 rs2 to) = stays f shape to
target_stays f shape (source.Jump to) = stays f shape to
target_stays f shape _ = true

-- ---- calls

abbrev pub names_of : List Function → List (List ℕ)
names_of [] = []
names_of (f ∷ fs) = f.name ∷ names_of fs

-- the runtime calls; the entries st_fork_in, st_fork_out and st_end are none
abbrev pub is_runtime_call : List ℕ → Bool
is_runtime_call name = is_named name (codes "st_touch" ∷ codes "st_counter" ∷ codes "st_done" ∷ codes "st_join" ∷ codes "st_poll" ∷ codes "st_putc" ∷ [])

abbrev pub is_data : Target → Bool
is_data (targets.Data offset) = true
is_data _ = false

abbrev pub calls_right : List Function → SourceIns → Bool
calls_right functions (source.Call name) = is_named name (names_of functions) || is_runtime_call name
calls_right functions (source.La rd to) = is_data to
calls_right functions _ = true

-- ---- forks

abbrev pub calls_function : List Function → SourceIns → Bool
calls_function functions (source.Call name) = is_named name (names_of functions)
calls_function functions _ = false

-- s8 to s11
abbrev pub is_fork_register : Reg → Bool
is_fork_register r = nat_le 24 (reg_number r) && nat_le (reg_number r) 27

-- behind a `.st_fork` stands a call of a function, without a label
abbrev pub forks_before : List Function → List (ℕ × Group) → Bool
forks_before functions ((at, single l) ∷ gs) = calls_function functions l.ins && not l.labelled
forks_before functions _ = false

abbrev pub forks_right : List Function → SourceIns → List (ℕ × Group) → Bool
forks_right functions (source.Fork handle) behind = is_fork_register handle && forks_before functions behind
forks_right functions _ behind = true

-- ---- the end

abbrev pub is_fork : SourceIns → Bool
is_fork (source.Fork handle) = true
is_fork _ = false

abbrev pub plain_ends : OpKind → Bool
plain_ends kinds.Break = true
plain_ends _ = false

-- `ret`, `j` or `ebreak`
abbrev pub ends : SourceIns → Bool
ends source.Ret = true
ends (source.Jump to) = true
ends (source.Plain i) = plain_ends (kind_of i.op)
ends _ = false

-- the groups behind hold lines `.st_fork` alone
abbrev pub only_forks : List (ℕ × Group) → Bool
only_forks [] = true
only_forks ((at, single l) ∷ gs) = is_fork l.ins && only_forks gs
only_forks ((at, epilogue line) ∷ gs) = false

-- the function's last instruction goes on
abbrev pub falls_out : SourceIns → List (ℕ × Group) → Bool
falls_out ins behind = not (is_fork ins) && only_forks behind && not (ends ins)

-- ---- faults of a function

abbrev pub fault_when : Bool → Line → FormKind → List Fault
fault_when false line kind = []
fault_when true line kind = (line, kind) ∷ []

-- those of a line of the body, in the order of their kinds
abbrev pub line_faults : List Function → ℕ → ℕ → Formed → SourceLine → List (ℕ × Group) → List Fault
line_faults functions f h shape l behind =
    fault_when (line_slot_fault h shape l.ins) l.line forms.SlotRange ++ fault_when (not (keeps_classes l.ins)) l.line forms.Partition ++ fault_when (not (may_write shape (written l.ins))) l.line forms.NotSaved ++ fault_when (not (target_stays f shape l.ins)) l.line forms.BranchOut ++ fault_when (falls_out l.ins behind) l.line forms.FallsOut ++ fault_when (not (forks_right functions l.ins behind)) l.line forms.ForkPlace ++ fault_when (not (calls_right functions l.ins)) l.line forms.BadCall

abbrev pub group_faults : List Function → ℕ → ℕ → Formed → List (ℕ × Group) → List Fault
group_faults functions f h shape [] = []
group_faults functions f h shape ((at, single l) ∷ gs) = line_faults functions f h shape l gs ++ group_faults functions f h shape gs
group_faults functions f h shape ((at, epilogue line) ∷ gs) = group_faults functions f h shape gs

-- the last line of a prologue, behind which nothing comes, falls out too
abbrev pub empty_faults : Line → List (ℕ × Group) → List Fault
empty_faults last groups = fault_when (only_forks groups) last forms.FallsOut

-- the line of the prologue's last instruction
abbrev pub line_before : Line → ℕ → List SourceLine → Line
line_before line at [] = line
line_before line at (l ∷ ls) = if at == 0 then line else line_before l.line (at - 1) ls

abbrev pub shape_faults : List Function → ℕ → Function → Shape → List Fault
shape_faults functions f function (faulty fault) = fault ∷ []
shape_faults functions f function (formed shape) =
    empty_faults (line_before function.line (4 + length shape.saved) function.items) shape.groups ++ group_faults functions f function.slots shape shape.groups

abbrev pub function_faults : List Function → ℕ → Function → List Fault
function_faults functions f function = shape_faults functions f function (shape_of function)

abbrev pub functions_faults : List Function → ℕ → List Function → List Fault
functions_faults functions f [] = []
functions_faults functions f (g ∷ gs) = function_faults functions f g ++ functions_faults functions (f + 1) gs

-- ---- faults of a unit

abbrev pub main_name : List ℕ
main_name = codes "main"

-- `main` takes nothing, or one integer
abbrev pub is_main_right : Function → Bool
is_main_right function = nat_le function.ints 1 && (function.handles == 0)

-- there is no `main`, which is told at line 1 of file 1; or it has other arguments
abbrev pub main_faults : List Function → List Fault
main_faults [] = (record { file = 1; line = 1 }, forms.NoMain) ∷ []
main_faults (f ∷ fs) = if bytes_eq f.name main_name then fault_when (not (is_main_right f)) f.line forms.NoMain else main_faults fs

-- all faults of a unit but undefined reads
unfoldable pub unit_faults : List Function → List Fault
unit_faults functions = main_faults functions ++ functions_faults functions 0 functions

-- ---- the one that counts

abbrev pub form_number : FormKind → ℕ
form_number forms.NoMain = 1
form_number forms.Prologue = 2
form_number forms.Epilogue = 3
form_number forms.FrameSize = 4
form_number forms.SlotRange = 5
form_number forms.Partition = 6
form_number forms.NotSaved = 7
form_number forms.BranchOut = 8
form_number forms.FallsOut = 9
form_number forms.ForkPlace = 10
form_number forms.UndefinedRead = 11
form_number forms.BadCall = 12

-- before another by file and line, and on one line by kind
abbrev pub is_before : Fault → Fault → Bool
is_before a b =
    nat_lt a.0.file b.0.file || ((a.0.file == b.0.file) && (nat_lt a.0.line b.0.line || ((a.0.line == b.0.line) && nat_lt (form_number a.1) (form_number b.1))))

abbrev pub lesser : Fault → Option Fault → Fault
lesser a None = a
lesser a (Some b) = if is_before b a then b else a

-- the least of faults
abbrev pub least_fault : List Fault → Option Fault
least_fault [] = None
least_fault (a ∷ rest) = Some (lesser a (least_fault rest))
