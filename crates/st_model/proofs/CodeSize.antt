-- How much code a program has: at most three words a line, in both layouts (code_size). So what is accepted and has its size has at most
-- 196,608 words (code_within, and code_fits, which takes both facts as they are kept, truncated).
use Rattle.std.proofs.Common.{◌≡◌, ℕ, zero, suc, ◌+◌, ◌*◌, ◌≤◌, ◌<◌, Bool, true, false, List, [], ◌∷◌, length, Some, slice_get, get_or, refl, ap, subst, arith, cond, length-append}
use Rattle.std.specs.Prelude.{ℤ, pos, int_lt, not, ◌&&◌}
use Rattle.std.specs.Coded.{le_prop}
use Rattle.std.proofs.Math.Logic.{∥∥₁_elim}
use Rattle.st_base.specs.declared.reg.Reg.{Reg}
use Rattle.st_base.specs.declared.reg.Reg.TheVariants as registers
use Rattle.st_model.specs.declared.code.Layout.{Layout}
use Rattle.st_model.specs.declared.code.Layout.TheVariants.{Postprocessed, Unchanged}
use Rattle.st_rv.specs.declared.ins.Op.TheVariants as ops
use Rattle.st_model.specs.declared.code.PostedIns.TheVariants as posted
use Rattle.st_model.specs.declared.program.Item.{Item}
use Rattle.st_model.specs.declared.program.ItemKind.{ItemKind}
use Rattle.st_model.specs.declared.program.ItemKind.TheVariants as items
use Rattle.st_model.specs.declared.program.Program.{Program}
use Rattle.st_model.specs.declared.program.ProgramFunction.{ProgramFunction}
use Rattle.st_model.specs.Accepted.{IsAccepted, IsPrologue}
use Rattle.st_model.specs.Layout.{addi, immediate_ins, upper_ins, is_short, low_part, high_part, with_low_part, li_ins, loads, saved_of, copy_by, item_size, items_size, function_size, functions_size, item_lines, items_lines, functions_lines, HasSize}

-- the first of the items is a prologue
abbrev pub Begins : List Item → Type 0
Begins xs = (item : Item) × (slice_get xs 0 ≡ Some item) × IsPrologue item.kind

-- ---- items

either-few : {A : Type 0} (n : ℕ) (b : Bool) (xs ys : List A) → length xs ≤ n → length ys ≤ n → length (cond b xs ys) ≤ n
either-few n true xs ys h k = h
either-few n false xs ys h k = k

low_part-few : (rd : Reg) (low : ℤ) → length (with_low_part rd low) ≤ 1
low_part-few rd low = either-few 1 (not (int_lt low (pos 0)) && not (int_lt (pos 0) low)) [] (posted.Plain (immediate_ins ops.Addiw rd rd low) ∷ []) (omega arith) (omega arith)

pub li-few : (rd : Reg) (value : ℤ) → length (li_ins rd value) ≤ 2
li-few rd value =
    let few : length (with_low_part rd (low_part value)) ≤ 1 = low_part-few rd (low_part value) in
    either-few 2 (is_short value) (addi rd registers.Zero value ∷ []) (posted.Plain (upper_ins ops.Lui rd (pos (high_part value))) ∷ with_low_part rd (low_part value)) (omega arith) (omega (arith, few))

pub length-loads : (base : Reg) (top : ℤ) (k : ℕ) (saved : List Reg) → length (loads base top k saved) ≡ length saved
length-loads base top k [] = refl
length-loads base top k (r ∷ rs) = let e : length (loads base top (k + 1) rs) ≡ length rs = length-loads base top (k + 1) rs in omega (arith, e)

pub copy_length : (function : ProgramFunction) → length (copy_by Postprocessed function) ≡ 4 + length (saved_of function)
copy_length function =
    let e : length (loads registers.Tp (pos 0) 0 (saved_of function)) ≡ length (saved_of function) = length-loads registers.Tp (pos 0) 0 (saved_of function) in
    simp length-append (omega (arith, e))

-- a pure copy has at most as many words as a prologue
pub copy-few : (layout : Layout) (function : ProgramFunction) → length (copy_by layout function) ≤ 4 + length (saved_of function)
copy-few Postprocessed function = omega (arith, copy_length function)
copy-few Unchanged function = omega arith

pub item-size : (layout : Layout) (function : ProgramFunction) (kind : ItemKind) → item_size layout function kind ≤ 3 * item_lines function kind
item-size layout function items.Prologue = omega arith
item-size Postprocessed function items.Epilogue = omega arith
item-size Unchanged function items.Epilogue = omega arith
item-size layout function (items.Plain i) = omega arith
item-size layout function (items.Li rd value) = let few : length (li_ins rd value) ≤ 2 = li-few rd value in omega (arith, few)
item-size layout function (items.Branch op rs1 rs2 to) = omega arith
item-size layout function (items.Jump to) = omega arith
item-size layout function (items.Call f) = omega arith
item-size layout function (items.Entry at) = omega arith
item-size layout function (items.Fork f handle) = omega arith

pub items-size : (layout : Layout) (function : ProgramFunction) (xs : List Item) → items_size layout function xs ≤ 3 * items_lines function xs
items-size layout function [] = omega arith
items-size layout function (x ∷ xs) = omega (arith, item-size layout function x.kind, items-size layout function xs)

-- ---- functions

-- the prologue pays for the pure copy
prologue-pays : (layout : Layout) (function : ProgramFunction) (kind : ItemKind) → IsPrologue kind → item_size layout function kind + length (copy_by layout function) ≤ 3 * item_lines function kind
prologue-pays layout function items.Prologue is = omega (arith, copy-few layout function)
prologue-pays layout function items.Epilogue is = absurd is
prologue-pays layout function (items.Plain i) is = absurd is
prologue-pays layout function (items.Li rd value) is = absurd is
prologue-pays layout function (items.Branch op rs1 rs2 to) is = absurd is
prologue-pays layout function (items.Jump to) is = absurd is
prologue-pays layout function (items.Call f) is = absurd is
prologue-pays layout function (items.Entry at) is = absurd is
prologue-pays layout function (items.Fork f handle) is = absurd is

begun-size : (layout : Layout) (function : ProgramFunction) (xs : List Item) → Begins xs → items_size layout function xs + length (copy_by layout function) ≤ 3 * items_lines function xs
begun-size layout function [] begins = let e = begins.1 in cc
begun-size layout function (x ∷ xs) begins =
    let e = begins.1 in
    let same : begins.0 ≡ x = cc in
    let is : IsPrologue x.kind = subst (λ (i : Item). IsPrologue i.kind) same begins.2 in
    omega (arith, prologue-pays layout function x.kind is, items-size layout function xs)

functions-size : (layout : Layout) (functions : List ProgramFunction) → ((f : ℕ) (function : ProgramFunction) → slice_get functions f ≡ Some function → Begins function.items) → functions_size layout functions ≤ 3 * functions_lines functions
functions-size layout [] begin = omega arith
functions-size layout (f ∷ fs) begin =
    let first : items_size layout f f.items + length (copy_by layout f) ≤ 3 * items_lines f f.items = begun-size layout f f.items (begin 0 f refl) in
    let rest : functions_size layout fs ≤ 3 * functions_lines fs = functions-size layout fs (λ i. begin (suc i)) in
    omega (arith, first, rest)

-- ---- programs

pub code_size : (layout : Layout) (p : Program) → IsAccepted p → functions_size layout p.functions ≤ 3 * functions_lines p.functions
code_size layout p accepted = functions-size layout p.functions (λ f function there. (accepted.functions f function there).formed.begins)

pub code_within : (layout : Layout) (p : Program) → IsAccepted p → HasSize p → functions_size layout p.functions ≤ 196608
code_within layout p accepted size = omega (arith, code_size layout p accepted, size.lines)

pub code_fits : (layout : Layout) (p : Program) → ∥ IsAccepted p ∥₁ → ∥ HasSize p ∥₁ → functions_size layout p.functions ≤ 196608
code_fits layout p accepted size =
    ∥∥₁_elim accepted le_prop (λ a. ∥∥₁_elim size le_prop (λ s. code_within layout p a s))

-- a function is no larger than all functions
pub function_size-within : (layout : Layout) (functions : List ProgramFunction) (i : ℕ) (function : ProgramFunction) → i < length functions → function ≡ get_or functions i function → function_size layout function ≤ functions_size layout functions
function_size-within layout [] i function inside here = absurd (omega arith)
function_size-within layout (f ∷ fs) zero function inside here =
    let same : function_size layout function ≡ function_size layout f = ap (function_size layout) here in
    omega (arith, same)
function_size-within layout (f ∷ fs) (suc i) function inside here = omega (arith, function_size-within layout fs i function (omega arith) here)
