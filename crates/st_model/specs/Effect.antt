-- What one item does, as its thread alone sees it. The ordinary machine and the heap-frame machine both use item_effect.
-- Results of instructions are those of the instruction table's crate; the runtime calls are defined here.
use Rattle.std.specs.Prelude.{ℕ, ℤ, ◌+◌, ◌/◌, ◌%◌, ◌^◌, nat_lt, nat_le, length, slice_set, slice_index_or, Bool, true, false, cond, ◌==◌, List, replicate, Option, Some, None, slice_get}
use Rattle.st_base.specs.declared.reg.Reg.{Reg}
use Rattle.st_base.specs.declared.reg.Reg.TheVariants.{S0, A0, A6, A7, S8, S9, S10, S11}
use Rattle.st_base.specs.declared.registers.Pick.TheVariants.{Saved, Arguments}
use Rattle.st_base.specs.declared.thread.Held.{Held}
use Rattle.st_base.specs.declared.thread.Held.TheVariants.{Number, Future, Counter}
use Rattle.st_base.specs.declared.thread.Activation.{Activation}
use Rattle.st_base.specs.declared.thread.ActivationKind.{ActivationKind}
use Rattle.st_base.specs.declared.thread.ActivationKind.TheVariants.{Called, Forked, Root}
use Rattle.st_base.specs.declared.thread.TrapKind.TheVariants.{LoadRange, Misaligned, Abort}
use Rattle.st_base.specs.Slots.{store_bytes}
use Rattle.st_base.specs.Registers.{read_register, write_register, picked}
use Rattle.st_rv.specs.declared.ins.Op.{Op}
use Rattle.st_rv.specs.declared.ins.Op.TheVariants.{Addi}
use Rattle.st_rv.specs.declared.ins.OpKind.{OpKind}
use Rattle.st_rv.specs.declared.ins.OpKind.TheVariants.{Register, Immediate, Upper, Load, Store, Branch as Branch', Jump as Jump', Break}
use Rattle.st_rv.specs.declared.ins.Ins.{Ins}
use Rattle.st_rv.specs.Op.{kind_of}
use Rattle.st_model.specs.declared.program.ItemKind.{ItemKind}
use Rattle.st_model.specs.declared.program.ItemKind.TheVariants.{Prologue, Epilogue, Plain, Li, Branch, Jump, Call, Entry, Fork}
use Rattle.st_model.specs.declared.program.RuntimeCall.{RuntimeCall}
use Rattle.st_model.specs.declared.program.RuntimeCall.TheVariants.{Touch, Counter as CounterCall, Done, Join, Poll, Putc}
use Rattle.st_model.specs.declared.program.Program.{Program}
use Rattle.st_model.specs.declared.program.ProgramFunction.{ProgramFunction}
use Rattle.st_model.specs.declared.effect.Effect.{Effect}
use Rattle.st_model.specs.declared.effect.Effect.TheVariants.{Undefined, Goes, Calls, Returns, Ends, Traps, Prints, Forks, Touches, Counts, Adds, Joins}
use Rattle.st_rv.specs.Results.{word_of, alu, is_taken, access_size, extended}
use Rattle.st_model.specs.Memory.{Data, load_from, slot_byte, data_byte, slot_place}

-- whether the instruction is mv, which alone moves a name
abbrev pub is_move : Op → ℤ → Bool
is_move Addi offset = word_of offset == 0
is_move _ offset = false

-- the runtime call whose entry has this address
abbrev pub runtime_call : ℕ → Option RuntimeCall
runtime_call at =
    cond (at == 0x40) (Some Touch)
    (cond (at == 0x50) (Some CounterCall) (cond (at == 0x60) (Some Done) (cond (at == 0x70) (Some Join) (cond (at == 0x80) (Some Poll) (cond (at == 0x90) (Some Putc) None)))))

-- a register file: what each register holds, where it is defined
abbrev pub File : Type 0
File = List (Option Held)

abbrev pub number_of : Option Held → Option ℕ
number_of (Some (Number n)) = Some n
number_of (Some (Future p)) = None
number_of (Some (Counter p n)) = None
number_of None = None

-- goes on with a number, if one is defined there
abbrev pub with_number : Option ℕ → (ℕ → Effect) → Effect
with_number None go = Undefined
with_number (Some n) go = go n

abbrev pub name_of : Option Held → Option Held
name_of (Some (Number n)) = None
name_of (Some (Future p)) = Some (Future p)
name_of (Some (Counter p n)) = Some (Counter p n)
name_of None = None

abbrev pub with_name : Option Held → (Held → Effect) → Effect
with_name None go = Undefined
with_name (Some name) go = go name

abbrev pub int : File → Reg → Option ℕ
int file r = number_of (read_register file r)

-- at the next item
abbrev pub advanced : Activation → Activation
advanced top = record top { next = top.next + 1 }

abbrev pub at_item : ℕ → Activation → Activation
at_item to top = record top { next = to }

abbrev pub goes : Activation → File → Effect
goes top file = Goes (advanced top) file

abbrev pub li_effect : Reg → ℤ → Activation → File → Effect
li_effect rd value top file = goes top (write_register file rd (Number (word_of value)))

abbrev pub compute_effect : Ins → Activation → File → Effect
compute_effect i top file =
    with_number (int file i.rs1) (λ a. with_number (int file i.rs2) (λ b. goes top (write_register file i.rd (Number (alu i.op a b)))))

-- a name is moved by mv alone
abbrev pub name_moved : Bool → Ins → Held → Activation → File → Effect
name_moved true i name top file = goes top (write_register file i.rd name)
name_moved false i name top file = Undefined

abbrev pub moved : Ins → Activation → File → Option Held → Effect
moved i top file None = Undefined
moved i top file (Some (Number a)) = goes top (write_register file i.rd (Number (alu i.op a (word_of i.imm))))
moved i top file (Some (Future p)) = name_moved (is_move i.op i.imm) i (Future p) top file
moved i top file (Some (Counter p n)) = name_moved (is_move i.op i.imm) i (Counter p n) top file

abbrev pub immediate_effect : Ins → Activation → File → Effect
immediate_effect i top file = moved i top file (read_register file i.rs1)

abbrev pub branch_effect : Op → Reg → Reg → ℕ → Activation → File → Effect
branch_effect op rs1 rs2 to top file =
    with_number (int file rs1) (λ a. with_number (int file rs2) (λ b. Goes (cond (is_taken op a b) (at_item to top) (advanced top)) file))

-- the first call of a thread
abbrev pub IsFirst : ActivationKind → Type 0
IsFirst Called = ⊥
IsFirst Forked = Unit {0}
IsFirst Root = Unit {0}

-- a new activation of a function, of which nothing is written yet
abbrev pub entered : ℕ → ProgramFunction → File → ActivationKind → Activation
entered f function kept kind =
    record { function = f; next = 0; bytes = replicate function.frame_bytes None; handles = replicate function.slots None; kept = kept; kind = kind }

abbrev pub call_into : ℕ → Option ProgramFunction → Activation → File → Effect
call_into f None top file = Undefined
call_into f (Some function) top file =
    Calls (advanced top) (entered f function (picked Saved file) Called) (picked (Arguments function.ints function.handles) file)

abbrev pub call_effect : Program → ℕ → Activation → File → Effect
call_effect p f top file = call_into f (slice_get p.functions f) top file

abbrev pub fork_into : ℕ → Reg → Option ProgramFunction → Activation → File → Effect
fork_into f handle None top file = Undefined
fork_into f handle (Some function) top file =
    Forks (advanced top) (entered f function (picked Saved file) Forked) handle (picked (Arguments function.ints function.handles) file) (picked Saved file)

abbrev pub fork_effect : Program → ℕ → Reg → Activation → File → Effect
fork_effect p f handle top file = fork_into f handle (slice_get p.functions f) top file

abbrev pub left_by : ActivationKind → File → ℕ → Effect
left_by Called kept v = Returns (write_register kept A0 (Number v))
left_by Forked kept v = Ends v kept
left_by Root kept v = Ends v kept

abbrev pub epilogue_effect : Activation → File → Effect
epilogue_effect top file = with_number (int file A0) (left_by top.kind top.kept)

abbrev pub putc_effect : Activation → File → Effect
putc_effect top file = with_number (int file A0) (λ n. Prints (n % 256) (advanced top) (picked Saved file))

abbrev pub entry_effect : RuntimeCall → Activation → File → Effect
entry_effect Touch top file = with_name (name_of (read_register file A6)) (λ name. Touches name (advanced top) (picked Saved file))
entry_effect CounterCall top file = Counts (advanced top) (picked Saved file)
entry_effect Done top file = with_name (name_of (read_register file A6)) (λ name. Adds name (advanced top) (picked Saved file))
entry_effect Join top file =
    with_name (name_of (read_register file A6)) (λ name. with_number (int file A0) (λ n. Joins name n (advanced top) (picked Saved file)))
entry_effect Poll top file = Goes (advanced top) (picked Saved file)
entry_effect Putc top file = putc_effect top file

abbrev pub is_handle : Reg → Bool
is_handle A6 = true
is_handle A7 = true
is_handle S8 = true
is_handle S9 = true
is_handle S10 = true
is_handle S11 = true
is_handle _ = false

-- whether an access with this base is one of the activation's slots
abbrev pub is_frame : Reg → Bool
is_frame S0 = true
is_frame _ = false

abbrev pub loaded : Ins → Activation → File → ℕ → Effect
loaded i top file v = goes top (write_register file i.rd (Number (extended i.op v)))

-- a slot access lies in the slots
abbrev pub within : Bool → Effect → Effect
within true effect = effect
within false effect = Undefined

abbrev pub slot_load : Bool → Ins → ℕ → Activation → File → Effect
slot_load true i at top file =
    with_name (name_of (slice_index_or top.handles (at / 8) None)) (λ name. goes top (write_register file i.rd name))
slot_load false i at top file =
    within (nat_le (at + access_size i.op) (length top.bytes)) (with_number (load_from (slot_byte top.bytes) at (access_size i.op)) (loaded i top file))

abbrev pub data_when : Bool → Option ℕ → Ins → Activation → File → Effect
data_when false o i top file = Traps Misaligned
data_when true None i top file = Traps LoadRange
data_when true (Some v) i top file = loaded i top file v

abbrev pub data_load : Data → Ins → ℕ → Activation → File → Effect
data_load d i address top file =
    data_when (address % access_size i.op == 0) (load_from (data_byte d) address (access_size i.op)) i top file

abbrev pub load_by : Bool → Data → Ins → Activation → File → Effect
load_by true d i top file = slot_load (is_handle i.rd) i (slot_place (length top.bytes) i.imm) top file
load_by false d i top file = with_number (int file i.rs1) (λ base. data_load d i ((base + word_of i.imm) % 2 ^ 64) top file)

abbrev pub load_effect : Data → Ins → Activation → File → Effect
load_effect d i top file = load_by (is_frame i.rs1) d i top file

abbrev pub slot_store : Bool → Ins → ℕ → Activation → File → Effect
slot_store true i at top file =
    with_name (name_of (read_register file i.rs2))
    (λ name. within (nat_lt (at / 8) (length top.handles)) (goes (record top { handles = slice_set top.handles (at / 8) (Some name) }) file))
slot_store false i at top file =
    with_number (int file i.rs2)
    (λ v. within (nat_le (at + access_size i.op) (length top.bytes)) (goes (record top { bytes = store_bytes top.bytes at (access_size i.op) v }) file))

abbrev pub store_effect : Ins → Activation → File → Effect
store_effect i top file = within (is_frame i.rs1) (slot_store (is_handle i.rs2) i (slot_place (length top.bytes) i.imm) top file)

abbrev pub plain_as : OpKind → Data → Ins → Activation → File → Effect
plain_as Register d i top file = compute_effect i top file
plain_as Immediate d i top file = immediate_effect i top file
plain_as Upper d i top file = goes top (write_register file i.rd (Number (alu i.op 0 (word_of i.imm))))
plain_as Load d i top file = load_effect d i top file
plain_as Store d i top file = store_effect i top file
plain_as Branch' d i top file = Undefined
plain_as Jump' d i top file = Undefined
plain_as Break d i top file = Traps Abort

abbrev pub plain_effect : Data → Ins → Activation → File → Effect
plain_effect d i top file = plain_as (kind_of i.op) d i top file

abbrev pub runtime_effect : Option RuntimeCall → Activation → File → Effect
runtime_effect None top file = Undefined
runtime_effect (Some call) top file = entry_effect call top file

-- what an item does
abbrev pub item_effect : Program → Data → ItemKind → Activation → File → Effect
item_effect p d Prologue top file = goes top file
item_effect p d Epilogue top file = epilogue_effect top file
item_effect p d (Plain i) top file = plain_effect d i top file
item_effect p d (Li rd value) top file = li_effect rd value top file
item_effect p d (Branch op rs1 rs2 to) top file = branch_effect op rs1 rs2 to top file
item_effect p d (Jump to) top file = Goes (at_item to top) file
item_effect p d (Call f) top file = call_effect p f top file
item_effect p d (Entry at) top file = runtime_effect (runtime_call at) top file
item_effect p d (Fork f handle) top file = fork_effect p f handle top file
