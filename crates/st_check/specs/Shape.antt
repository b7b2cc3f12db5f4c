-- The shape of a function (shape_of): its prologue, its body and its epilogues. A function whose prologue, frame or an epilogue has a fault
-- has just the first one, and no shape. Lines are the function's instruction lines and its lines `.st_fork`.
--   prologue: addi sp,sp,-F; sd ra,F-8(sp); sd s0,F-16(sp); sd of each saved register of s1 to s11, ascending, from F-24(sp) down by 8; addi s0,sp,F
--   epilogue: ld ra,F-8(sp); ld s0,F-16(sp); ld of the same saved registers from the same places; addi sp,sp,F; ret
use Rattle.std.specs.Prelude.{ℕ, zero, suc, ◌+◌, ◌*◌, ◌-◌, ◌%◌, ℤ, pos, neg_ℤ, ◌-ℤ◌, int_lt, Bool, true, false, not, ◌&&◌, ◌==◌, nat_le, List, [], ◌∷◌, ◌++◌, length, Option, Some, None, if◌then◌else◌}
use Rattle.st_base.specs.declared.reg.Reg.{Reg}
use Rattle.st_base.specs.declared.reg.Reg.TheVariants as registers
use Rattle.st_base.specs.Reg.{reg_number}
use Rattle.st_base.specs.declared.line.Line.{Line}
use Rattle.st_base.specs.declared.form.FormKind.{FormKind}
use Rattle.st_base.specs.declared.form.FormKind.TheVariants.{Prologue, Epilogue, FrameSize}
use Rattle.st_rv.specs.declared.ins.Op.TheVariants as ops
use Rattle.st_rv.specs.Op.{op_number}
use Rattle.st_line.specs.declared.source.SourceIns.{SourceIns}
use Rattle.st_line.specs.declared.source.SourceIns.TheVariants as source
use Rattle.st_asm.specs.declared.unit.SourceLine.{SourceLine}
use Rattle.st_asm.specs.declared.unit.Function.{Function}

-- a line and the kind of its fault
abbrev pub Fault : Type 0
Fault = Line × FormKind

-- ---- single instructions

abbrev pub is_equal : ℤ → ℤ → Bool
is_equal m n = not (int_lt m n) && not (int_lt n m)

-- the line is `addi rd,rs1,imm`
abbrev pub is_addi : Reg → Reg → ℤ → SourceIns → Bool
is_addi rd rs1 imm (source.Plain i) = (op_number i.op == op_number ops.Addi) && (reg_number i.rd == reg_number rd) && (reg_number i.rs1 == reg_number rs1) && is_equal i.imm imm
is_addi rd rs1 imm _ = false

-- the line is `sd r,imm(sp)`
abbrev pub is_push : Reg → ℤ → SourceIns → Bool
is_push r imm (source.Plain i) = (op_number i.op == op_number ops.Sd) && (reg_number i.rs2 == reg_number r) && (reg_number i.rs1 == reg_number registers.Sp) && is_equal i.imm imm
is_push r imm _ = false

-- the line is `ld r,imm(sp)`
abbrev pub is_pop : Reg → ℤ → SourceIns → Bool
is_pop r imm (source.Plain i) = (op_number i.op == op_number ops.Ld) && (reg_number i.rd == reg_number r) && (reg_number i.rs1 == reg_number registers.Sp) && is_equal i.imm imm
is_pop r imm _ = false

abbrev pub is_return : SourceIns → Bool
is_return source.Ret = true
is_return _ = false

-- the line is `ld ra` from sp, which opens an epilogue
abbrev pub opens_epilogue : SourceIns → Bool
opens_epilogue (source.Plain i) = (op_number i.op == op_number ops.Ld) && (reg_number i.rd == reg_number registers.Ra) && (reg_number i.rs1 == reg_number registers.Sp)
opens_epilogue _ = false

-- ---- prologues

-- the saved registers s1 to s11, by their places from 1
abbrev pub saved_registers : List Reg
saved_registers = registers.S1 ∷ registers.S2 ∷ registers.S3 ∷ registers.S4 ∷ registers.S5 ∷ registers.S6 ∷ registers.S7 ∷ registers.S8 ∷ registers.S9 ∷ registers.S10 ∷ registers.S11 ∷ []

-- the place from F, of a frame of F bytes, of the register that is saved as the k-th, counted from 0
abbrev pub saved_place : ℤ → ℕ → ℤ
saved_place frame k = frame -ℤ pos (24 + 8 * k)

-- among these registers, the one that the line saves as the k-th, and those behind it
abbrev pub saved_by : ℤ → ℕ → List Reg → SourceIns → Option (Reg × List Reg)
saved_by frame k [] ins = None
saved_by frame k (r ∷ rs) ins = if is_push r (saved_place frame k) ins then Some (r, rs) else saved_by frame k rs ins

-- a prologue that departs from its form, at a line; or whole, with the frame's bytes, the saved registers in order, and the lines behind it
pub data Opening : Type 0 where
  departs : Line → Opening
  opened : ℤ → List Reg → List SourceLine → Opening

abbrev pub with_saved : Reg → Opening → Opening
with_saved r (departs line) = departs line
with_saved r (opened frame saved rest) = opened frame (r ∷ saved) rest

-- the prologue ends, departs at the line, or goes on behind a register that is saved
abbrev pub open_by : Line → List SourceLine → ℤ → (List Reg → Opening) → Bool → Option (Reg × List Reg) → Opening
open_by line ls frame go true saves = opened frame [] ls
open_by line ls frame go false None = departs line
open_by line ls frame go false (Some saves) = with_saved saves.0 (go saves.1)

-- the lines that save registers, and the one that sets s0; `left` are the registers that may still be saved
abbrev pub open_saved : Line → ℤ → ℕ → List Reg → List SourceLine → Opening
open_saved label frame k left [] = departs label
open_saved label frame k left (l ∷ ls) =
    open_by l.line ls frame (λ rest. open_saved label frame (k + 1) rest ls) (is_addi registers.S0 registers.Sp frame l.ins) (saved_by frame k left l.ins)

abbrev pub open_lines : Line → (List SourceLine → Opening) → (SourceIns → Bool) → List SourceLine → Opening
open_lines label rest is_right [] = departs label
open_lines label rest is_right (l ∷ ls) = if is_right l.ins then rest ls else departs l.line

-- the first instruction's amount, with its sign turned, where it is `addi sp,sp,-F`
abbrev pub frame_of : SourceIns → Option ℤ
frame_of (source.Plain i) = if (op_number i.op == op_number ops.Addi) && (reg_number i.rd == reg_number registers.Sp) && (reg_number i.rs1 == reg_number registers.Sp) then Some (neg_ℤ i.imm) else None
frame_of _ = None

abbrev pub open_frame : Line → Line → List SourceLine → Option ℤ → Opening
open_frame label first ls None = departs first
open_frame label first ls (Some frame) =
    open_lines label (open_lines label (open_saved label frame 0 saved_registers) (is_push registers.S0 (frame -ℤ pos 16))) (is_push registers.Ra (frame -ℤ pos 8)) ls

-- the prologue of lines behind a label
abbrev pub opening_of : Line → List SourceLine → Opening
opening_of label [] = departs label
opening_of label (l ∷ ls) = open_frame label l.line ls (frame_of l.ins)

-- ---- frames

-- F is a multiple of 16 from 16 to 2032, and has room for the return word, the caller's s0, n saved registers and h handle slots
abbrev pub is_frame_size : ℕ → ℕ → ℤ → Bool
is_frame_size n h (pos frame) = (frame % 16 == 0) && nat_le 16 frame && nat_le frame 2032 && nat_le (16 + 8 * n + 8 * h) frame
is_frame_size n h _ = false

-- ---- epilogues and bodies

-- the instructions of an epilogue
abbrev pub restores : ℤ → ℕ → List Reg → List (SourceIns → Bool)
restores frame k [] = []
restores frame k (r ∷ rs) = is_pop r (saved_place frame k) ∷ restores frame (k + 1) rs

abbrev pub epilogue_form : ℤ → List Reg → List (SourceIns → Bool)
epilogue_form frame saved =
    is_pop registers.Ra (frame -ℤ pos 8) ∷ is_pop registers.S0 (frame -ℤ pos 16) ∷ restores frame 0 saved ++ is_addi registers.Sp registers.Sp frame ∷ is_return ∷ []

-- the line at which lines depart from a form, which is their last where they end before; none where they have it
abbrev pub departing : Line → List (SourceIns → Bool) → List SourceLine → Option Line
departing last [] ls = None
departing last (is_right ∷ form) [] = Some last
departing last (is_right ∷ form) (l ∷ ls) = if is_right l.ins then departing l.line form ls else Some l.line

-- a part of a body: an epilogue with its first line, or one line by itself
pub data Group : Type 0 where
  epilogue : Line → Group
  single : SourceLine → Group

-- groups, each with the place of its first line in the function; or the line of the first fault of an epilogue
pub data Body : Type 0 where
  broken : Line → Body
  whole : List (ℕ × Group) → Body

abbrev pub with_group : ℕ → Group → Body → Body
with_group at g (broken line) = broken line
with_group at g (whole gs) = whole ((at, g) ∷ gs)

-- a line in an epilogue; one that opens an epilogue, which departs from its form at a line or is whole; a return; another line
abbrev pub body_by : ℕ → SourceLine → ℕ → (ℕ → Body) → ℕ → Bool → Option Line → Bool → Body
body_by at l count go (suc skip) opens departing_line returns = go skip
body_by at l count go zero true (Some line) returns = broken line
body_by at l count go zero true None returns = with_group at (epilogue l.line) (go (count - 1))
body_by at l count go zero false departing_line true = broken l.line
body_by at l count go zero false departing_line false = with_group at (single l) (go 0)

-- the body of lines from a place on; `skip` lines more belong to an epilogue that is whole
abbrev pub body_of : ℤ → List Reg → ℕ → ℕ → List SourceLine → Body
body_of frame saved at skip [] = whole []
body_of frame saved at skip (l ∷ ls) =
    body_by at l (length (epilogue_form frame saved)) (λ more. body_of frame saved (at + 1) more ls) skip (opens_epilogue l.ins) (departing l.line (epilogue_form frame saved) (l ∷ ls)) (is_return l.ins)

-- ---- shapes

pub record Formed : Type 0 where
  -- the bytes of the frame, and the saved registers in order
  pub frame : ℕ
  pub saved : List Reg
  -- the groups of the body, each with the place of its first line
  pub groups : List (ℕ × Group)

pub data Shape : Type 0 where
  faulty : Fault → Shape
  formed : Formed → Shape

-- the bytes of a frame whose size is right
abbrev pub magnitude : ℤ → ℕ
magnitude (pos n) = n
magnitude _ = 0

abbrev pub shape_by : ℤ → List Reg → Body → Shape
shape_by frame saved (broken line) = faulty (line, Epilogue)
shape_by frame saved (whole groups) = formed (record { frame = magnitude frame; saved = saved; groups = groups })

-- where the prologue is whole, the frame's size is tried at the first line, then the body
abbrev pub shape_when : Bool → Line → ℤ → List Reg → Body → Shape
shape_when false first frame saved body = faulty (first, FrameSize)
shape_when true first frame saved body = shape_by frame saved body

abbrev pub first_line : Line → List SourceLine → Line
first_line label [] = label
first_line label (l ∷ ls) = l.line

-- how many lines a prologue has
abbrev pub prologue_lines : List Reg → ℕ
prologue_lines saved = 4 + length saved

abbrev pub shape_behind : Function → Opening → Shape
shape_behind function (departs line) = faulty (line, Prologue)
shape_behind function (opened frame saved rest) =
    shape_when (is_frame_size (length saved) function.slots frame) (first_line function.line function.items) frame saved (body_of frame saved (prologue_lines saved) 0 rest)

unfoldable pub shape_of : Function → Shape
shape_of function = shape_behind function (opening_of function.line function.items)
