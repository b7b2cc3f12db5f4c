-- What an instruction does on the machine (move_of), by the manual's results: it goes on by itself, or makes one step of the board, or stops.
-- From the RISC-V Instruction Set Manual, volume I, chapters "RV32I" and "RV64I" (sections "Integer Computational Instructions", "Control
-- Transfer Instructions", "Load and Store Instructions"); the results themselves are those of the instruction table's crate.
-- Read move_of, Fetches (the instruction at the pc), MayStep (what a step asks) and Stepped (what it does).
use Rattle.std.specs.Prelude.{replicate, ◌≡◌, ◌⊎◌, ℕ, ◌+◌, ◌*◌, ◌/◌, ◌%◌, ◌^◌, ℤ, pos, neg_ℤ, int_lt, Bool, true, false, ◌&&◌, ◌==◌, nat_lt, nat_le, Option, Some, None, slice_get, slice_set, slice_index, if◌then◌else◌}
use Rattle.st_base.specs.declared.reg.Reg.{Reg}
use Rattle.st_base.specs.declared.reg.Reg.TheVariants as registers
use Rattle.st_base.specs.Reg.{reg_number}
use Rattle.st_base.specs.declared.thread.TrapKind.TheVariants as traps
use Rattle.st_base.specs.declared.image.Image.{Image}
use Rattle.st_rv.specs.declared.ins.Op.TheVariants as ops
use Rattle.st_rv.specs.declared.ins.OpKind.{OpKind}
use Rattle.st_rv.specs.declared.ins.OpKind.TheVariants as kinds
use Rattle.st_rv.specs.declared.ins.Ins.{Ins}
use Rattle.st_rv.specs.Op.{kind_of, op_number}
use Rattle.st_rv.specs.Rows.{IsRow}
use Rattle.st_rv.specs.Results.{word_of, alu, is_taken, access_size, extended}
use Rattle.st_model.specs.Memory.{Data, data_byte, load_from}
use Rattle.st_words.specs.Steps.{Step, StackLoad, StackStore, Mark, Answer, Done, Number, place_of}
use Rattle.st_step.specs.declared.state.State.{State}
use Rattle.st_step.specs.declared.machine.StepEnd.{StepEnd}
use Rattle.st_step.specs.declared.machine.StepEnd.TheVariants.{Ran, Entry, Trap, StackFull}

-- ---- the machine

abbrev pub first_state : ℕ → ℕ → State
first_state lo hi = record { registers = replicate 32 0; pc = 0; lo = lo; hi = hi; half = None }

abbrev pub register : State → Reg → ℕ
register m r = slice_index m.registers (reg_number r)

-- a write to zero changes nothing
abbrev pub written : State → Reg → ℕ → State
written m r n = if reg_number r == 0 then m else record m { registers = slice_set m.registers (reg_number r) n }

-- at another address; a store that is half done is forgotten
abbrev pub at_place : ℕ → State → State
at_place pc m = record m { pc = pc; half = None }

-- an address so far from another, in the 32 bits of the pc
abbrev pub from_pc : ℕ → ℤ → ℕ
from_pc pc offset = (pc + word_of offset) % 2 ^ 32

abbrev pub next_pc : ℕ → ℕ
next_pc pc = (pc + 4) % 2 ^ 32

abbrev pub goes_on : State → State
goes_on m = at_place (next_pc m.pc) m

-- with a result in a register
abbrev pub results : State → Reg → ℕ → State
results m r n = goes_on (written m r n)

-- ---- what an instruction does

pub data Move : Type 0 where
  -- it changes the machine alone
  Goes : State → Move
  -- it loads a stack word, and the machine goes on by what that has
  Reads : ℕ → (ℕ → State) → Move
  -- it stores a number to a stack word
  Writes : ℕ → ℕ → State → Move
  -- it marks a frame by its return word
  Marks : ℕ → State → Move
  -- it stops, and leaves the machine as it is
  Stops : StepEnd → Move
  -- it isn't an instruction of a posted program here: no step may be asked
  Outside : Move

-- ---- results

abbrev pub register_move : State → Ins → Move
register_move m i = Goes (results m i.rd (alu i.op (register m i.rs1) (register m i.rs2)))

-- `addi sp,sp,-F` with F above 0
abbrev pub makes_frame : Ins → Bool
makes_frame i = (op_number i.op == op_number ops.Addi) && (reg_number i.rd == reg_number registers.Sp) && (reg_number i.rs1 == reg_number registers.Sp) && int_lt i.imm (pos 0)

abbrev pub positive_part : ℤ → ℕ
positive_part (pos n) = n
positive_part _ = 0

abbrev pub frame_of : Ins → ℕ
frame_of i = positive_part (neg_ℤ i.imm)

-- sp would come below the stack's low end
abbrev pub lacks_room : State → Ins → Bool
lacks_room m i = makes_frame i && nat_lt (register m registers.Sp) (m.lo + frame_of i)

abbrev pub immediate_move : State → Ins → Move
immediate_move m i = if lacks_room m i then Stops (StackFull (frame_of i)) else Goes (results m i.rd (alu i.op (register m i.rs1) (word_of i.imm)))

abbrev pub upper_move : State → Ins → Move
upper_move m i = Goes (results m i.rd (alu i.op 0 (word_of i.imm)))

-- ---- loads and stores

-- accesses through s0, sp and tp are to the stack
abbrev pub is_stack : Reg → Bool
is_stack registers.S0 = true
is_stack registers.Sp = true
is_stack registers.Tp = true
is_stack _ = false

abbrev pub address_of : State → Ins → ℕ
address_of m i = (register m i.rs1 + word_of i.imm) % 2 ^ 64

-- an access of so many bytes lies in one word of the stacks
abbrev pub in_one_word : ℕ → ℕ → Bool
in_one_word address size = nat_le 0x8000_0000 address && nat_lt address (0x8000_0000 + 2 ^ 32) && nat_le (address % 8 + size) 8

-- so many bytes of a word, from its byte `at` on, little-endian
abbrev pub bytes_of : ℕ → ℕ → ℕ → ℕ
bytes_of word at size = word / 2 ^ (8 * at) % 2 ^ (8 * size)

-- the word with so many bytes of a number in place of its own, from its byte `at` on
abbrev pub with_bytes : ℕ → ℕ → ℕ → ℕ → ℕ
with_bytes word at size n = word % 2 ^ (8 * at) + n % 2 ^ (8 * size) * 2 ^ (8 * at) + word / 2 ^ (8 * (at + size)) * 2 ^ (8 * (at + size))

abbrev pub stack_load : State → Ins → ℕ → Move
stack_load m i address =
    if in_one_word address (access_size i.op) then Reads (place_of address) (λ n. results m i.rd (extended i.op (bytes_of n (address % 8) (access_size i.op)))) else Outside

abbrev pub data_when : State → Ins → Bool → Option ℕ → Move
data_when m i false value = Stops (Trap traps.Misaligned)
data_when m i true None = Stops (Trap traps.LoadRange)
data_when m i true (Some n) = Goes (results m i.rd (extended i.op n))

-- other loads see the read-only data and the input
abbrev pub data_load : Data → State → Ins → ℕ → Move
data_load d m i address = data_when m i (address % access_size i.op == 0) (load_from (data_byte d) address (access_size i.op))

abbrev pub load_move : Data → State → Ins → Move
load_move d m i = if is_stack i.rs1 then stack_load m i (address_of m i) else data_load d m i (address_of m i)

-- `sd zero,-8(tp)`
abbrev pub is_mark : Ins → Bool
is_mark i = (reg_number i.rs1 == reg_number registers.Tp) && (reg_number i.rs2 == 0) && (word_of i.imm == word_of (neg_ℤ (pos 8)))

abbrev pub word_store : State → Ins → ℕ → Move
word_store m i place = if is_mark i then Marks place (goes_on m) else Writes place (register m i.rs2) (goes_on m)

-- a store of less than eight bytes takes two steps: the word is loaded, and the pc stays; then the word is stored
abbrev pub short_store : State → Ins → ℕ → Option ℕ → Move
short_store m i address None = Reads (place_of address) (λ n. record m { half = Some n })
short_store m i address (Some word) = Writes (place_of address) (with_bytes word (address % 8) (access_size i.op) (register m i.rs2)) (goes_on m)

abbrev pub stack_store : State → Ins → ℕ → Move
stack_store m i address =
    if in_one_word address (access_size i.op) then (if access_size i.op == 8 then word_store m i (place_of address) else short_store m i address m.half) else Outside

abbrev pub store_move : State → Ins → Move
store_move m i = if is_stack i.rs1 then stack_store m i (address_of m i) else Outside

-- ---- jumps

abbrev pub branch_move : State → Ins → Move
branch_move m i = Goes (at_place (if is_taken i.op (register m i.rs1) (register m i.rs2) then from_pc m.pc i.imm else next_pc m.pc) m)

-- the target of `jalr` has an even address, of 32 bits here
abbrev pub indirect_move : State → Ins → ℕ → Move
indirect_move m i target = if nat_lt target (2 ^ 32) then Goes (at_place (target / 2 * 2) (written m i.rd (m.pc + 4))) else Outside

abbrev pub jump_move : Bool → State → Ins → Move
jump_move true m i = indirect_move m i (address_of m i)
jump_move false m i = Goes (at_place (from_pc m.pc i.imm) (written m i.rd (m.pc + 4)))

-- ---- all of them

abbrev pub move_as : OpKind → Data → State → Ins → Move
move_as kinds.Register d m i = register_move m i
move_as kinds.Immediate d m i = immediate_move m i
move_as kinds.Upper d m i = upper_move m i
move_as kinds.Load d m i = load_move d m i
move_as kinds.Store d m i = store_move m i
move_as kinds.Branch d m i = branch_move m i
move_as kinds.Jump d m i = jump_move (op_number i.op == op_number ops.Jalr) m i
move_as kinds.Break d m i = Stops (Trap traps.Abort)

unfoldable pub move_of : Data → State → Ins → Move
move_of d m i = move_as (kind_of i.op) d m i

-- ---- a step

-- the addresses of the runtime's entries: 0x10 to 0x90
abbrev pub is_entry : ℕ → Bool
is_entry pc = (pc % 16 == 0) && nat_le 0x10 pc && nat_le pc 0x90

-- the instruction of the image's word at an address
pub record Fetches (image : Image) (pc : ℕ) (i : Ins) : Type 0 where
  pub place : ℕ
  pub at : pc ≡ 0x10000 + 4 * place
  pub word : ℕ
  pub there : slice_get image.words place ≡ Some word
  pub row : IsRow i word

-- the step of the board that a move makes may be asked
abbrev pub MayMove : (Step → Type 0) → Move → Type 0
MayMove asks (Goes m) = Prim.Unit
MayMove asks (Reads p go) = asks (StackLoad p)
MayMove asks (Writes p n m) = asks (StackStore p n)
MayMove asks (Marks p m) = asks (Mark p)
MayMove asks (Stops end) = Prim.Unit
MayMove asks Outside = ⊥

-- the pc is an entry's, or the address of an instruction whose step of the board may be asked
abbrev pub MayStep : (Step → Type 0) → Image → Data → State → Type 0
MayStep asks image d m = (is_entry m.pc ≡ true) ⊎ ((i : Ins) × Fetches image m.pc i × MayMove asks (move_of d m i))

-- what a step does: the machine before and after, the board before and after, and which step of the board was made with which answer (`made`, of which
-- StepMade is the one that contracts speak of); where none was made the board is as it was
module _ {Board : Type 0} (made : Step → Answer → Board → Type 0) (old : Board) (m : State) where
  abbrev pub Moves : Move → StepEnd → State → Board → Type 0
  Moves (Goes m') end new board = (end ≡ Ran) × (new ≡ m') × (board ≡ old)
  Moves (Reads p go) end new board = (end ≡ Ran) × ((n : ℕ) × made (StackLoad p) (Number n) board × (new ≡ go n))
  Moves (Writes p n m') end new board = (end ≡ Ran) × (new ≡ m') × made (StackStore p n) Done board
  Moves (Marks p m') end new board = (end ≡ Ran) × (new ≡ m') × made (Mark p) Done board
  Moves (Stops e) end new board = (end ≡ e) × (new ≡ m) × (board ≡ old)
  Moves Outside end new board = ⊥

  -- at an entry's address nothing is done; else the instruction's move is made
  pub record Stepped (image : Image) (d : Data) (end : StepEnd) (new : State) (board : Board) : Type 0 where
    pub entry : is_entry m.pc ≡ true → (end ≡ Entry m.pc) × (new ≡ m) × (board ≡ old)
    pub moved : is_entry m.pc ≡ false → (i : Ins) → Fetches image m.pc i → Moves (move_of d m i) end new board
