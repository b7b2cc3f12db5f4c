-- Accepted programs: none of the faults of form holds that can be read over a program. Read IsAccepted; its parts say which fault each
-- rules out. A program of an accepted unit is accepted.
use Rattle.std.specs.Prelude.{◌≡◌, ◌⊎◌, ℕ, ◌<◌, ◌≤◌, ◌+◌, ◌-◌, ◌*◌, ◌%◌, Bool, true, false, ◌==◌, ◌||◌, length, Some, slice_get, count_ones}
use Rattle.std.specs.Int.{bit_at}
use Rattle.st_base.specs.declared.reg.Reg.{Reg}
use Rattle.st_base.specs.Reg.{reg_number}
use Rattle.st_rv.specs.declared.ins.Ins.{Ins}
use Rattle.st_rv.specs.declared.ins.OpKind.{OpKind}
use Rattle.st_rv.specs.declared.ins.OpKind.TheVariants.{Register, Immediate, Upper, Load, Store, Branch as Branch', Jump as Jump', Break}
use Rattle.st_rv.specs.Op.{kind_of}
use Rattle.st_rv.specs.Rows.{FitsTable}
use Rattle.st_model.specs.declared.program.Item.{Item}
use Rattle.st_model.specs.declared.program.ItemKind.{ItemKind}
use Rattle.st_model.specs.declared.program.ItemKind.TheVariants.{Prologue, Epilogue, Plain, Li, Branch, Jump, Call, Entry, Fork}
use Rattle.st_model.specs.declared.program.RuntimeCall.{RuntimeCall}
use Rattle.st_model.specs.declared.program.Program.{Program}
use Rattle.st_model.specs.declared.program.ProgramFunction.{ProgramFunction}
use Rattle.st_rv.specs.Results.{access_size}
use Rattle.st_model.specs.Memory.{slot_place}
use Rattle.st_model.specs.Effect.{is_handle, is_frame, is_move, runtime_call}
use Rattle.st_model.specs.Flow.{between, IsNext, UndefinedRead}

-- an integer register or zero: zero, a0 to a5, t0 to t5, s1 to s7
abbrev pub is_int : ℕ → Bool
is_int x = x == 0 || x == 9 || between 5 8 x || between 10 16 x || between 18 24 x || between 28 31 x

abbrev pub IsInt : Reg → Type 0
IsInt r = is_int (reg_number r) ≡ true

-- a handle register: a6, a7, s8 to s11
abbrev pub IsHandle : Reg → Type 0
IsHandle r = is_handle r ≡ true

-- the function may write the register: where it is one of s1 to s11, the prologue saves it; s1 is x9, and s2 to s11 are x18 to x27
abbrev pub MayWrite : ProgramFunction → Reg → Type 0
MayWrite function r =
    (reg_number r ≡ 9 → bit_at function.saved 0 ≡ 1) × (between 18 28 (reg_number r) ≡ true → bit_at function.saved (reg_number r - 17) ≡ 1)

-- where the integer slots end: below the return word, the caller's s0 and the saved registers
abbrev pub slots_end : ProgramFunction → ℕ
slots_end function = function.frame_bytes - (16 + 8 * count_ones function.saved)

-- an access through s0 with this data register: aligned, and wholly in the slots of the register's class, the handle slots at the
-- frame's low end, the integer slots above them
abbrev pub IsSlot : ProgramFunction → Ins → Reg → Type 0
IsSlot function i r =
    (slot_place function.frame_bytes i.imm % access_size i.op ≡ 0) × ((IsInt r × (8 * function.slots ≤ slot_place function.frame_bytes i.imm) × (slot_place function.frame_bytes i.imm + access_size i.op ≤ slots_end function)) ⊎ (IsHandle r × (access_size i.op ≡ 8) × (slot_place function.frame_bytes i.imm + 8 ≤ 8 * function.slots)))

-- a load is from a slot, or through an integer register
abbrev pub LoadFits : Bool → ProgramFunction → Ins → Type 0
LoadFits true function i = IsSlot function i i.rd
LoadFits false function i = IsInt i.rd × IsInt i.rs1

abbrev pub PlainFitsAs : OpKind → ProgramFunction → Ins → Type 0
PlainFitsAs Register function i = IsInt i.rd × IsInt i.rs1 × IsInt i.rs2 × MayWrite function i.rd
PlainFitsAs Immediate function i = ((IsInt i.rd × IsInt i.rs1) ⊎ (IsHandle i.rd × IsHandle i.rs1 × (is_move i.op i.imm ≡ true))) × MayWrite function i.rd
PlainFitsAs Upper function i = IsInt i.rd × MayWrite function i.rd
PlainFitsAs Load function i = LoadFits (is_frame i.rs1) function i × MayWrite function i.rd
PlainFitsAs Store function i = (is_frame i.rs1 ≡ true) × IsSlot function i i.rs2
PlainFitsAs Branch' function i = ⊥
PlainFitsAs Jump' function i = ⊥
PlainFitsAs Break function i = Unit {0}

abbrev pub HasFunction : Program → ℕ → Type 0
HasFunction p f = (function : ProgramFunction) × (slice_get p.functions f ≡ Some function)

-- an item is an instruction that there is, keeps to the classes of registers and slots, writes saved registers alone of s1 to s11, and
-- names what is there
abbrev pub Fits : Program → ProgramFunction → ItemKind → Type 0
Fits p function Prologue = Unit {0}
Fits p function Epilogue = Unit {0}
Fits p function (Plain i) = FitsTable i × PlainFitsAs (kind_of i.op) function i
Fits p function (Li rd value) = IsInt rd × MayWrite function rd
Fits p function (Branch op rs1 rs2 to) = (kind_of op ≡ Branch') × IsInt rs1 × IsInt rs2
Fits p function (Jump to) = Unit {0}
Fits p function (Call f) = HasFunction p f
Fits p function (Entry at) = (call : RuntimeCall) × (runtime_call at ≡ Some call)
Fits p function (Fork f handle) = HasFunction p f × (between 24 28 (reg_number handle) ≡ true) × MayWrite function handle

-- F is a multiple of 16 from 16 to 2032, and has room for the return word, the caller's s0, the saved registers and the handle slots
pub record HasFrame (function : ProgramFunction) : Type 0 where
  pub multiple : function.frame_bytes % 16 ≡ 0
  pub least : 16 ≤ function.frame_bytes
  pub most : function.frame_bytes ≤ 2032
  pub saved : function.saved < 2048
  pub room : 16 + 8 * count_ones function.saved + 8 * function.slots ≤ function.frame_bytes

-- the item is the prologue
abbrev pub IsPrologue : ItemKind → Type 0
IsPrologue Prologue = Unit {0}
IsPrologue _ = ⊥

-- the forms of a function: all that acceptance asks but the paths to undefined reads
pub record IsFormed (p : Program) (function : ProgramFunction) : Type 0 where
  pub ints : function.ints ≤ 6
  pub handles : function.handles ≤ 2
  pub frame : HasFrame function
  -- the items begin with the one prologue
  pub begins : (item : Item) × (slice_get function.items 0 ≡ Some item) × IsPrologue item.kind
  pub once : (i : ℕ) (item : Item) → slice_get function.items i ≡ Some item → IsPrologue item.kind → i ≡ 0
  -- registers and slots
  pub fits : (i : ℕ) (item : Item) → slice_get function.items i ≡ Some item → Fits p function item.kind
  -- no branch out of the function or to its prologue, and no way past its end
  pub stays : (i j : ℕ) (item : Item) → slice_get function.items i ≡ Some item → IsNext item.kind i j → (0 < j) × (j < length function.items)

pub record IsAcceptedFunction (p : Program) (function : ProgramFunction) : Type 0 where
  pub formed : IsFormed p function
  -- no path to a read of something undefined
  pub defined : UndefinedRead p function → ⊥

pub record IsAccepted (p : Program) : Type 0 where
  -- main takes nothing, or the length of the input
  pub main : ProgramFunction
  pub has_main : slice_get p.functions p.main ≡ Some main
  pub main_ints : main.ints ≤ 1
  pub main_handles : main.handles ≡ 0
  pub functions : (f : ℕ) (function : ProgramFunction) → slice_get p.functions f ≡ Some function → IsAcceptedFunction p function
