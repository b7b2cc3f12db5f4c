-- The code of a program in memory, in two layouts: postprocessed, where each epilogue is augmented and a pure copy of it stands at the end
-- of each function, and unchanged, where epilogues are as written. Functions stand in order from 0x10000. Read function_words (the words of
-- a function), rows_of and forks_of (what the runtime knows of them), far_branch (the first branch that doesn't reach, which is decided on
-- the postprocessed layout), HasSize (what bounds the code) and IsImageOf (an image of a program). IsCodeOf says that an image is
-- the code of an accepted program in a layout: what a run asks of its image.
--   augmented epilogue: addi tp,s0,0; ld ra,-8(tp); ld of each saved register, ascending, from -24(tp) down by 8; ld s0,-16(tp);
--     bgeu sp,tp,keep; bltu gp,tp,keep; addi sp,tp,0; jalr zero,0(ra); keep: sd zero,-8(tp); jalr zero,0(ra)
--   pure copy: its first addi, the same loads, jalr zero,0(ra)
use Rattle.std.specs.Prelude.{◌≡◌, ℕ, ◌+◌, ◌*◌, ◌/◌, ◌%◌, ◌^◌, ◌≤◌, ℤ, pos, neg_ℤ, ◌-ℤ◌, ◌≤ℤ◌, ◌<ℤ◌, int_lt, Bool, true, false, not, ◌&&◌, ◌==◌, List, [], ◌∷◌, ◌++◌, map, length, take, Option, Some, None, slice_get, if◌then◌else◌}
use Rattle.std.specs.Int.{bit_at}
use Rattle.st_base.specs.declared.line.Line.{Line}
use Rattle.st_base.specs.declared.reg.Reg.{Reg}
use Rattle.st_base.specs.declared.reg.Reg.TheVariants as registers
use Rattle.st_base.specs.declared.image.FrameRow.{FrameRow}
use Rattle.st_base.specs.declared.image.ForkRow.{ForkRow}
use Rattle.st_base.specs.declared.image.Image.{Image}
use Rattle.st_rv.specs.declared.ins.Op.{Op}
use Rattle.st_rv.specs.declared.ins.Op.TheVariants as ops
use Rattle.st_rv.specs.declared.ins.Ins.{Ins}
use Rattle.st_rv.specs.Fields.{sign_extended}
use Rattle.st_rv.specs.Results.{word_of}
use Rattle.st_rv.specs.Rows.{IsRow}
use Rattle.st_model.specs.declared.program.Item.{Item}
use Rattle.st_model.specs.declared.program.ItemKind.{ItemKind}
use Rattle.st_model.specs.declared.program.ItemKind.TheVariants as items
use Rattle.st_model.specs.declared.program.Program.{Program}
use Rattle.st_model.specs.declared.program.ProgramFunction.{ProgramFunction}
use Rattle.st_model.specs.declared.code.Layout.{Layout}
use Rattle.st_model.specs.declared.code.Layout.TheVariants.{Postprocessed, Unchanged}
use Rattle.st_model.specs.declared.code.PostedIns.{PostedIns}
use Rattle.st_model.specs.declared.code.PostedIns.TheVariants as posted
use Rattle.st_model.specs.declared.code.PostedWord.{PostedWord}
use Rattle.st_model.specs.Accepted.{IsAccepted}

-- ---- instructions

-- an instruction of a register, a register and an immediate; loads too
abbrev pub immediate_ins : Op → Reg → Reg → ℤ → Ins
immediate_ins op rd rs1 imm = record { op = op; rd = rd; rs1 = rs1; rs2 = registers.Zero; imm = imm }

-- a store of rs2 at imm(rs1)
abbrev pub store_ins : Op → Reg → Reg → ℤ → Ins
store_ins op rs1 rs2 imm = record { op = op; rd = registers.Zero; rs1 = rs1; rs2 = rs2; imm = imm }

abbrev pub branch_ins : Op → Reg → Reg → ℤ → Ins
branch_ins op rs1 rs2 imm = record { op = op; rd = registers.Zero; rs1 = rs1; rs2 = rs2; imm = imm }

abbrev pub upper_ins : Op → Reg → ℤ → Ins
upper_ins op rd imm = record { op = op; rd = rd; rs1 = registers.Zero; rs2 = registers.Zero; imm = imm }

abbrev pub addi : Reg → Reg → ℤ → PostedIns
addi rd rs1 imm = posted.Plain (immediate_ins ops.Addi rd rs1 imm)

abbrev pub ld : Reg → ℤ → Reg → PostedIns
ld rd imm rs1 = posted.Plain (immediate_ins ops.Ld rd rs1 imm)

abbrev pub sd : Reg → ℤ → Reg → PostedIns
sd rs2 imm rs1 = posted.Plain (store_ins ops.Sd rs1 rs2 imm)

abbrev pub return : PostedIns
return = posted.Plain (immediate_ins ops.Jalr registers.Zero registers.Ra (pos 0))

abbrev pub below : ℕ → ℤ
below n = neg_ℤ (pos n)

-- ---- `li`

-- from -2048 to 2047
abbrev pub is_short : ℤ → Bool
is_short value = not (int_lt value (below 2048)) && int_lt value (pos 2048)

-- the low 12 bits of a value, as a signed number
abbrev pub low_part : ℤ → ℤ
low_part value = sign_extended (2 ^ 11) (word_of value % 2 ^ 12)

-- the 20 bits that make the value together with its low part
abbrev pub high_part : ℤ → ℕ
high_part value = (word_of value + 0x800) % 2 ^ 32 / 2 ^ 12

-- a value's low part, where it isn't 0, is added to the high one
abbrev pub with_low_part : Reg → ℤ → List PostedIns
with_low_part rd low = if not (int_lt low (pos 0)) && not (int_lt (pos 0) low) then [] else posted.Plain (immediate_ins ops.Addiw rd rd low) ∷ []

abbrev pub li_ins : Reg → ℤ → List PostedIns
li_ins rd value = if is_short value then addi rd registers.Zero value ∷ [] else posted.Plain (upper_ins ops.Lui rd (pos (high_part value))) ∷ with_low_part rd (low_part value)

-- ---- prologues and epilogues

-- s1 to s11
abbrev pub saveable : List Reg
saveable = registers.S1 ∷ registers.S2 ∷ registers.S3 ∷ registers.S4 ∷ registers.S5 ∷ registers.S6 ∷ registers.S7 ∷ registers.S8 ∷ registers.S9 ∷ registers.S10 ∷ registers.S11 ∷ []

-- of these registers, whose bits stand from the k-th on, those whose bit is set
abbrev pub saved_among : ℕ → ℕ → List Reg → List Reg
saved_among bits k [] = []
saved_among bits k (r ∷ rs) = if bit_at bits k == 1 then r ∷ saved_among bits (k + 1) rs else saved_among bits (k + 1) rs

-- the saved registers of a function, ascending
abbrev pub saved_of : ProgramFunction → List Reg
saved_of function = saved_among function.saved 0 saveable

-- stores of the registers below base, the k-th saved one at base less 24 + 8k
abbrev pub stores : Reg → ℤ → ℕ → List Reg → List PostedIns
stores base top k [] = []
stores base top k (r ∷ rs) = sd r (top -ℤ pos (24 + 8 * k)) base ∷ stores base top (k + 1) rs

-- loads from the same places
abbrev pub loads : Reg → ℤ → ℕ → List Reg → List PostedIns
loads base top k [] = []
loads base top k (r ∷ rs) = ld r (top -ℤ pos (24 + 8 * k)) base ∷ loads base top (k + 1) rs

abbrev pub prologue_ins : ℕ → List Reg → List PostedIns
prologue_ins frame saved =
    addi registers.Sp registers.Sp (below frame) ∷ sd registers.Ra (pos frame -ℤ pos 8) registers.Sp ∷ sd registers.S0 (pos frame -ℤ pos 16) registers.Sp ∷ stores registers.Sp (pos frame) 0 saved ++ addi registers.S0 registers.Sp (pos frame) ∷ []

abbrev pub epilogue_ins : ℕ → List Reg → List PostedIns
epilogue_ins frame saved =
    ld registers.Ra (pos frame -ℤ pos 8) registers.Sp ∷ ld registers.S0 (pos frame -ℤ pos 16) registers.Sp ∷ loads registers.Sp (pos frame) 0 saved ++ addi registers.Sp registers.Sp (pos frame) ∷ return ∷ []

-- the caller's registers are loaded from the frame whose base is s0, which stays in tp
abbrev pub restoring_ins : List Reg → List PostedIns
restoring_ins saved =
    addi registers.Tp registers.S0 (pos 0) ∷ ld registers.Ra (below 8) registers.Tp ∷ loads registers.Tp (pos 0) 0 saved ++ ld registers.S0 (below 16) registers.Tp ∷ []

-- `keep` is the word at which the frame is marked and not freed
abbrev pub freeing_ins : ℕ → List PostedIns
freeing_ins keep =
    posted.Branch ops.Bgeu registers.Sp registers.Tp keep ∷ posted.Branch ops.Bltu registers.Gp registers.Tp keep ∷ addi registers.Sp registers.Tp (pos 0) ∷ return ∷ sd registers.Zero (below 8) registers.Tp ∷ return ∷ []

-- at the word `at` of its function
abbrev pub augmented_ins : ℕ → List Reg → List PostedIns
augmented_ins at saved = restoring_ins saved ++ freeing_ins (at + length saved + 7)

abbrev pub pure_copy_ins : List Reg → List PostedIns
pure_copy_ins saved = restoring_ins saved ++ return ∷ []

abbrev pub epilogue_by : Layout → ℕ → ProgramFunction → List PostedIns
epilogue_by Postprocessed at function = augmented_ins at (saved_of function)
epilogue_by Unchanged at function = epilogue_ins function.frame_bytes (saved_of function)

abbrev pub copy_by : Layout → ProgramFunction → List PostedIns
copy_by Postprocessed function = pure_copy_ins (saved_of function)
copy_by Unchanged function = []

-- ---- items

abbrev pub epilogue_size : Layout → ProgramFunction → ℕ
epilogue_size Postprocessed function = 9 + length (saved_of function)
epilogue_size Unchanged function = 4 + length (saved_of function)

-- how many words an item has
abbrev pub item_size : Layout → ProgramFunction → ItemKind → ℕ
item_size layout function items.Prologue = 4 + length (saved_of function)
item_size layout function items.Epilogue = epilogue_size layout function
item_size layout function (items.Plain i) = 1
item_size layout function (items.Li rd value) = length (li_ins rd value)
item_size layout function (items.Branch op rs1 rs2 to) = 1
item_size layout function (items.Jump to) = 1
item_size layout function (items.Call f) = 1
item_size layout function (items.Entry at) = 1
item_size layout function (items.Fork f handle) = 3

abbrev pub items_size : Layout → ProgramFunction → List Item → ℕ
items_size layout function [] = 0
items_size layout function (x ∷ xs) = item_size layout function x.kind + items_size layout function xs

-- the place of an item's first word in its function
abbrev pub item_place : Layout → ProgramFunction → ℕ → ℕ
item_place layout function i = items_size layout function (take i function.items)

-- a fork is three jumps: to st_fork_in, to the function, to st_fork_out
abbrev pub fork_in : ℕ
fork_in = 0x10

abbrev pub fork_out : ℕ
fork_out = 0x20

-- the instructions of an item that begins at the word `at` of its function
abbrev pub item_ins : Layout → ProgramFunction → ℕ → ItemKind → List PostedIns
item_ins layout function at items.Prologue = prologue_ins function.frame_bytes (saved_of function)
item_ins layout function at items.Epilogue = epilogue_by layout at function
item_ins layout function at (items.Plain i) = posted.Plain i ∷ []
item_ins layout function at (items.Li rd value) = li_ins rd value
item_ins layout function at (items.Branch op rs1 rs2 to) = posted.Branch op rs1 rs2 (item_place layout function to) ∷ []
item_ins layout function at (items.Jump to) = posted.Jump (item_place layout function to) ∷ []
item_ins layout function at (items.Call f) = posted.Call f ∷ []
item_ins layout function at (items.Entry address) = posted.Entry address ∷ []
item_ins layout function at (items.Fork f handle) = posted.Entry fork_in ∷ posted.Call f ∷ posted.Entry fork_out ∷ []

-- ---- functions

-- the words of instructions of one line, of which the first begins an item or not
abbrev pub words_at : Line → Bool → List PostedIns → List PostedWord
words_at line begins [] = []
words_at line begins (i ∷ is) = record { line = line; begins = begins; ins = i } ∷ words_at line false is

abbrev pub items_words : Layout → ProgramFunction → ℕ → List Item → List PostedWord
items_words layout function at [] = []
items_words layout function at (x ∷ xs) = words_at x.line true (item_ins layout function at x.kind) ++ items_words layout function (at + item_size layout function x.kind) xs

abbrev pub first_line : List Item → Line
first_line [] = record { file = 0; line = 0 }
first_line (x ∷ xs) = x.line

-- a function's line is that of its prologue
abbrev pub function_line : ProgramFunction → Line
function_line function = first_line function.items

-- the words of a function
unfoldable pub function_words : Layout → ProgramFunction → List PostedWord
function_words layout function = items_words layout function 0 function.items ++ words_at (function_line function) false (copy_by layout function)

-- how many they are
abbrev pub function_size : Layout → ProgramFunction → ℕ
function_size layout function = items_size layout function function.items + length (copy_by layout function)

-- ---- programs

abbrev pub code_start : ℕ
code_start = 0x10000

abbrev pub functions_size : Layout → List ProgramFunction → ℕ
functions_size layout [] = 0
functions_size layout (f ∷ fs) = function_size layout f + functions_size layout fs

-- the address of a function
abbrev pub function_address : Layout → Program → ℕ → ℕ
function_address layout p f = code_start + 4 * functions_size layout (take f p.functions)

-- where a function's pure copy stands; 0 where there is none
abbrev pub pure_place : Layout → ℕ → ProgramFunction → ℕ
pure_place Postprocessed from function = from + 4 * items_size Postprocessed function function.items
pure_place Unchanged from function = 0

-- what the runtime knows of a function whose first word is at an address
abbrev pub row_at : Layout → ℕ → ProgramFunction → FrameRow
row_at layout from function = record {
  code_from = from;
  code_to = from + 4 * function_size layout function;
  frame_bytes = function.frame_bytes;
  saved = function.saved;
  pure_at = pure_place layout from function;
  line = function_line function;
}

abbrev pub rows_from : Layout → ℕ → List ProgramFunction → List FrameRow
rows_from layout from [] = []
rows_from layout from (f ∷ fs) = row_at layout from f ∷ rows_from layout (from + 4 * function_size layout f) fs

abbrev pub fork_row : ℕ → ItemKind → List ForkRow
fork_row address (items.Fork f handle) = record { at = address; handle = handle } ∷ []
fork_row address _ = []

-- the forks among items of which the first is at an address
abbrev pub item_forks : Layout → ProgramFunction → ℕ → List Item → List ForkRow
item_forks layout function address [] = []
item_forks layout function address (x ∷ xs) = fork_row address x.kind ++ item_forks layout function (address + 4 * item_size layout function x.kind) xs

abbrev pub forks_from : Layout → ℕ → List ProgramFunction → List ForkRow
forks_from layout from [] = []
forks_from layout from (f ∷ fs) = item_forks layout f from f.items ++ forks_from layout (from + 4 * function_size layout f) fs

unfoldable pub rows_of : Layout → Program → List FrameRow
rows_of layout p = rows_from layout code_start p.functions

unfoldable pub forks_of : Layout → Program → List ForkRow
forks_of layout p = forks_from layout code_start p.functions

abbrev pub words_of_all : Layout → List ProgramFunction → List PostedWord
words_of_all layout [] = []
words_of_all layout (f ∷ fs) = function_words layout f ++ words_of_all layout fs

-- all words of a program
unfoldable pub program_words : Layout → Program → List PostedWord
program_words layout p = words_of_all layout p.functions

-- ---- distances

-- from one word of a function to another, in bytes
abbrev pub distance : ℕ → ℕ → ℤ
distance at to = pos (4 * to) -ℤ pos (4 * at)

-- a branch reaches from -4096 to 4094
abbrev pub reaches : ℤ → Bool
reaches d = not (int_lt d (below 4096)) && not (int_lt (pos 4094) d)

-- the line and the distance of a branch that doesn't reach
abbrev pub far_at : ℕ → Line → PostedIns → Option (Line × ℤ)
far_at at line (posted.Branch op rs1 rs2 to) = if reaches (distance at to) then None else Some (line, distance at to)
far_at at line _ = None

abbrev pub first_of : Option (Line × ℤ) → Option (Line × ℤ) → Option (Line × ℤ)
first_of None later = later
first_of (Some far) later = Some far

-- the first among words of which the first is the word `at` of its function
abbrev pub far_among : ℕ → List PostedWord → Option (Line × ℤ)
far_among at [] = None
far_among at (w ∷ ws) = first_of (far_at at w.line w.ins) (far_among (at + 1) ws)

abbrev pub far_in : List ProgramFunction → Option (Line × ℤ)
far_in [] = None
far_in (f ∷ fs) = first_of (far_among 0 (function_words Postprocessed f)) (far_in fs)

-- the first branch of a program that doesn't reach in the postprocessed layout
unfoldable pub far_branch : Program → Option (Line × ℤ)
far_branch p = far_in p.functions

-- ---- images

-- the instruction of a word at an address, the word `at` of its function
abbrev pub resolved : Layout → Program → ℕ → ℕ → PostedIns → Ins
resolved layout p address at (posted.Plain i) = i
resolved layout p address at (posted.Branch op rs1 rs2 to) = branch_ins op rs1 rs2 (distance at to)
resolved layout p address at (posted.Jump to) = upper_ins ops.Jal registers.Zero (distance at to)
resolved layout p address at (posted.Call f) = upper_ins ops.Jal registers.Ra (pos (function_address layout p f) -ℤ pos address)
resolved layout p address at (posted.Entry entry) = upper_ins ops.Jal registers.Ra (pos entry -ℤ pos address)

abbrev pub resolved_words : Layout → Program → ℕ → ℕ → List PostedWord → List Ins
resolved_words layout p address at [] = []
resolved_words layout p address at (w ∷ ws) = resolved layout p address at w.ins ∷ resolved_words layout p (address + 4) (at + 1) ws

abbrev pub resolved_from : Layout → Program → ℕ → List ProgramFunction → List Ins
resolved_from layout p address [] = []
resolved_from layout p address (f ∷ fs) = resolved_words layout p address 0 (function_words layout f) ++ resolved_from layout p (address + 4 * function_size layout f) fs

-- the instructions of a program's code, word by word
unfoldable pub code_of : Layout → Program → List Ins
code_of layout p = resolved_from layout p code_start p.functions

-- each is a word of its instruction
abbrev pub AreWords : List Ins → List ℕ → Type 0
AreWords [] [] = Unit {0}
AreWords [] (w ∷ ws) = ⊥
AreWords (i ∷ is) [] = ⊥
AreWords (i ∷ is) (w ∷ ws) = IsRow i w × AreWords is ws

-- the image is the program's, in a layout, with this read-only data; no branch is too far
pub record IsImageOf (layout : Layout) (p : Program) (rodata : List ℕ) (image : Image) : Type 0 where
  pub reaches : far_branch p ≡ None
  pub words : AreWords (code_of layout p) image.words
  pub rows : image.rows ≡ rows_of layout p
  pub forks : image.forks ≡ forks_of layout p
  pub bytes : image.rodata ≡ rodata
  pub lines : image.lines ≡ map (λ w. w.line) (program_words layout p)
  pub begins : image.begins ≡ map (λ w. w.begins) (program_words layout p)
  pub main : image.main_at ≡ function_address layout p p.main

-- ---- what bounds the code

-- the instruction lines of an item
abbrev pub item_lines : ProgramFunction → ItemKind → ℕ
item_lines function items.Prologue = 4 + length (saved_of function)
item_lines function items.Epilogue = 4 + length (saved_of function)
item_lines function _ = 1

abbrev pub items_lines : ProgramFunction → List Item → ℕ
items_lines function [] = 0
items_lines function (x ∷ xs) = item_lines function x.kind + items_lines function xs

abbrev pub functions_lines : List ProgramFunction → ℕ
functions_lines [] = 0
functions_lines (f ∷ fs) = items_lines f f.items + functions_lines fs

-- from -2 ^ 31 to 2 ^ 31 - 1
abbrev pub IsWordValue : ℤ → Type 0
IsWordValue value = (below (2 ^ 31) ≤ℤ value) × (value <ℤ pos (2 ^ 31))

abbrev pub HasWordValue : ItemKind → Type 0
HasWordValue (items.Li rd value) = IsWordValue value
HasWordValue _ = Unit {0}

-- a program has at most 65,536 instruction lines, and each `li` a value of 32 bits
pub record HasSize (p : Program) : Type 0 where
  pub lines : functions_lines p.functions ≤ 65536
  pub values : (f i : ℕ) (function : ProgramFunction) (item : Item) → slice_get p.functions f ≡ Some function → slice_get function.items i ≡ Some item → HasWordValue item.kind

-- ---- images that are run

-- the image is the code of an accepted program in a layout, with the read-only data that it holds
pub record IsCodeOf (layout : Layout) (p : Program) (image : Image) : Type 0 where
  pub accepted : IsAccepted p
  pub size : HasSize p
  pub is_image : IsImageOf layout p image.rodata image
