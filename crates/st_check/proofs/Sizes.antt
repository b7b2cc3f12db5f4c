-- What bounds the code of a unit's program (unit-size): a program without a fault of form has at most the instruction lines of its unit
-- (program-lines_weigh), and the value of each `li` has 32 bits (program-values).
use Rattle.std.proofs.Common.{◌≡◌, ◌∙◌, ℕ, ◌+◌, ◌<◌, ◌≤◌, ◌^◌, Bool, true, false, not, List, [], ◌∷◌, refl, ap, sym, subst, length, map, slice_get, Option, Some, None, arith}
use Rattle.std.specs.Prelude.{pos, ◌≤ℤ◌, ◌<ℤ◌, sum_by}
use Rattle.std.proofs.Math.Logic.{∥∥₁_map}
use Rattle.std.proofs.Math.Dec.{lt→ltb}
use Rattle.std.proofs.lemmas.List.Sums.{sum_by-cons}
use Rattle.st_line.specs.declared.source.Target.{Target}
use Rattle.st_line.specs.declared.source.Target.TheVariants as targets
use Rattle.st_line.specs.declared.source.SourceIns.{SourceIns}
use Rattle.st_line.specs.declared.source.SourceIns.TheVariants as source
use Rattle.st_asm.specs.declared.unit.SourceLine.{SourceLine}
use Rattle.st_asm.specs.declared.unit.Function.{Function}
use Rattle.st_asm.specs.Assembly.{weight}
use Rattle.st_asm.specs.Unit.{IsTarget, IsInstruction, IsUnit, instructions_in}
use Rattle.st_model.specs.declared.program.Item.{Item}
use Rattle.st_model.specs.declared.program.Program.{Program}
use Rattle.st_model.specs.declared.program.ProgramFunction.{ProgramFunction}
use Rattle.st_model.specs.Layout.{saved_of, item_lines, items_lines, functions_lines, below, IsWordValue, HasWordValue, HasSize}
use Rattle.st_check.specs.Shape.{Group, epilogue, single, Formed, Shape, faulty, formed, shape_of, is_return}
use Rattle.st_check.specs.Faults.{is_fork, is_fork_register, calls_function, forks_before, forks_right, line_faults, group_faults, empty_faults, line_before, shape_faults, function_faults, functions_faults, main_faults, unit_faults}
use Rattle.st_check.specs.Programs.{data_address, function_place, call_kind, line_kind, items_of, function_by, program_function, program_of}
use Rattle.st_check.proofs.SavedBits.{saved_of_bits}
use Rattle.st_check.proofs.ShapeFacts.{HasShape, shape_of-has}
use Rattle.st_check.proofs.Frames.{and-both}
use Rattle.st_check.proofs.LineRight.{append-none, line-right}
use Rattle.st_check.proofs.BodyLines.{lines-from_all}
use Rattle.st_check.proofs.Weights.{lines_weight, groups_weight, HaveNoReturn, ShapeWeighs, shape_of-weighs}
use Rattle.st_check.proofs.ProgramItems.{Makes, program-each}
use Rattle.st_check.proofs.Sound.{function-is}

-- ---- the items of a function

-- behind a `.st_fork` stands the line of its call, which is no item
abbrev pub owed : Bool → ℕ
owed true = 1
owed false = 0

abbrev pub StandsBehind : List Function → Bool → List (ℕ × Group) → Type 0
StandsBehind functions true hs = forks_before functions hs ≡ true
StandsBehind functions false hs = Unit {0}

call-lines : (function : ProgramFunction) (functions : List Function) (name : List ℕ) (o : Option ℕ) → item_lines function (call_kind functions name o) ≡ 1
call-lines function functions name None = refl
call-lines function functions name (Some f) = refl

line-lines : (function : ProgramFunction) (functions : List Function) (gs behind : List (ℕ × Group)) (ins : SourceIns) → is_return ins ≡ false → item_lines function (line_kind functions gs ins behind) ≡ weight ins + owed (is_fork ins)
line-lines function functions gs behind (source.Plain i) other = refl
line-lines function functions gs behind (source.Li rd value) other = refl
line-lines function functions gs behind (source.La rd to) other = refl
line-lines function functions gs behind (source.Branch op rs1 rs2 to) other = refl
line-lines function functions gs behind (source.Jump to) other = refl
line-lines function functions gs behind (source.Call name) other = call-lines function functions name (function_place functions name)
line-lines function functions gs behind source.Ret other = cc
line-lines function functions gs behind (source.Fork handle) other = refl

line-behind : (functions : List Function) (ins : SourceIns) (behind : List (ℕ × Group)) → forks_right functions ins behind ≡ true → StandsBehind functions (is_fork ins) behind
line-behind functions (source.Fork handle) behind right = (and-both (is_fork_register handle) (forks_before functions behind) right).1
line-behind functions (source.Plain i) behind right = tt
line-behind functions (source.Li rd value) behind right = tt
line-behind functions (source.La rd to) behind right = tt
line-behind functions (source.Branch op rs1 rs2 to) behind right = tt
line-behind functions (source.Jump to) behind right = tt
line-behind functions (source.Call name) behind right = tt
line-behind functions source.Ret behind right = tt

calls-count : (functions : List Function) (ins : SourceIns) → calls_function functions ins ≡ true → weight ins ≡ 1
calls-count functions (source.Fork handle) calls = cc
calls-count functions _ calls = refl

items_lines-weigh : (functions : List Function) (f h : ℕ) (shape : Formed) (function : ProgramFunction) (gs : List (ℕ × Group)) (forked : Bool) (hs : List (ℕ × Group)) → length (saved_of function) ≡ length shape.saved → StandsBehind functions forked hs → HaveNoReturn hs → group_faults functions f h shape hs ≡ [] → items_lines function (items_of functions gs forked hs) + owed forked ≤ groups_weight (length shape.saved) hs
items_lines-weigh functions f h shape function gs true [] same behind others none = cc
items_lines-weigh functions f h shape function gs false [] same behind others none = omega arith
items_lines-weigh functions f h shape function gs true ((at, epilogue line) ∷ hs) same behind others none = cc
items_lines-weigh functions f h shape function gs true ((at, single l) ∷ hs) same behind others none =
    let one : weight l.ins ≡ 1 = calls-count functions l.ins (and-both (calls_function functions l.ins) (not l.labelled) behind).0 in
    let rest : items_lines function (items_of functions gs false hs) + 0 ≤ groups_weight (length shape.saved) hs = items_lines-weigh functions f h shape function gs false hs same tt others.1 (append-none (line_faults functions f h shape l hs) _ none).1 in
    omega (arith, one, rest)
items_lines-weigh functions f h shape function gs false ((at, epilogue line) ∷ hs) same behind others none =
    let rest : items_lines function (items_of functions gs false hs) + 0 ≤ groups_weight (length shape.saved) hs = items_lines-weigh functions f h shape function gs false hs same tt others none in
    omega (arith, same, rest)
items_lines-weigh functions f h shape function gs false ((at, single l) ∷ hs) same behind others none =
    let parts = append-none (line_faults functions f h shape l hs) (group_faults functions f h shape hs) none in
    let right = line-right functions f h shape l hs parts.0 in
    let own : item_lines function (line_kind functions gs l.ins hs) ≡ weight l.ins + owed (is_fork l.ins) = line-lines function functions gs hs l.ins others.0 in
    let rest : items_lines function (items_of functions gs (is_fork l.ins) hs) + owed (is_fork l.ins) ≤ groups_weight (length shape.saved) hs = items_lines-weigh functions f h shape function gs (is_fork l.ins) hs same (line-behind functions l.ins hs right.forks) others.1 parts.1 in
    omega (arith, own, rest)

-- ---- functions

shape-lines : (functions : List Function) (f total : ℕ) (function : Function) (s : Shape) → HasShape function.slots s → ShapeWeighs total s → shape_faults functions f function s ≡ [] → items_lines (function_by functions function s) (function_by functions function s).items ≤ total
shape-lines functions f total function (faulty fault) has weighs none = cc
shape-lines functions f total function (formed shape) has weighs none =
    let made : ProgramFunction = function_by functions function (formed shape) in
    let same : length (saved_of made) ≡ length shape.saved = ap length (saved_of_bits made shape.saved has.among refl) in
    let free = append-none (empty_faults (line_before function.line (4 + length shape.saved) function.items) shape.groups) (group_faults functions f function.slots shape shape.groups) none in
    let body : items_lines made (items_of functions shape.groups false shape.groups) + 0 ≤ groups_weight (length shape.saved) shape.groups = items_lines-weigh functions f function.slots shape made shape.groups false shape.groups same tt weighs.1 free.1 in
    let fits : 4 + length shape.saved + groups_weight (length shape.saved) shape.groups ≤ total = weighs.0 in
    let all : 4 + length (saved_of made) + items_lines made (items_of functions shape.groups false shape.groups) ≤ total = omega (arith, same, body, fits) in
    all

lines_weight-sum : (ls : List SourceLine) → sum_by (λ l. weight l.ins) ls ≡ lines_weight ls
lines_weight-sum [] = refl
lines_weight-sum (l ∷ ls) = sum_by-cons (λ (m : SourceLine). weight m.ins) l ls ∙ ap (λ n. weight l.ins + n) (lines_weight-sum ls)

function-lines : (functions : List Function) (f : ℕ) (function : Function) → function_faults functions f function ≡ [] → items_lines (program_function functions function) (program_function functions function).items ≤ instructions_in function
function-lines functions f function none =
    subst (λ n. items_lines (program_function functions function) (program_function functions function).items ≤ n) (sym (lines_weight-sum function.items))
    (shape-lines functions f (lines_weight function.items) function (shape_of function) (shape_of-has function) (shape_of-weighs function) none)

functions_lines-weigh : (functions : List Function) (k : ℕ) (gs : List Function) → functions_faults functions k gs ≡ [] → functions_lines (map (program_function functions) gs) ≤ sum_by instructions_in gs
functions_lines-weigh functions k [] none = omega arith
functions_lines-weigh functions k (g ∷ gs) none =
    let parts = append-none (function_faults functions k g) (functions_faults functions (k + 1) gs) none in
    let own : items_lines (program_function functions g) (program_function functions g).items ≤ instructions_in g = function-lines functions k g parts.0 in
    let rest : functions_lines (map (program_function functions) gs) ≤ sum_by instructions_in gs = functions_lines-weigh functions (k + 1) gs parts.1 in
    let all : sum_by instructions_in (g ∷ gs) ≡ instructions_in g + sum_by instructions_in gs = sum_by-cons instructions_in g gs in
    omega (arith, own, rest, all)

pub program-lines_weigh : (functions : List Function) → unit_faults functions ≡ [] → functions_lines (program_of functions).functions ≤ sum_by instructions_in functions
unfolding unit_faults program_of
program-lines_weigh functions none = functions_lines-weigh functions 0 functions (append-none (main_faults functions) (functions_faults functions 0 functions) none).1

-- ---- values

data-value : (offset : ℕ) → offset ≤ 1048576 → IsWordValue (pos (0x2000_0000 + offset))
data-value offset few =
    let small : 0x2000_0000 + offset < 2 ^ 31 = omega (arith, few) in
    let high : pos (0x2000_0000 + offset) <ℤ pos (2 ^ 31) = record { lt = lt→ltb (0x2000_0000 + offset) (2 ^ 31) small } in
    let low : below (2 ^ 31) ≤ℤ pos (0x2000_0000 + offset) = omega arith in
    (low, high)

address-value : (functions : List Function) (rodata : List ℕ) (to : Target) → length rodata ≤ 1048576 → IsTarget functions rodata to → IsWordValue (data_address to)
address-value functions rodata (targets.Data offset) few is =
    let inside : offset ≤ length rodata = is in
    data-value offset (omega (arith, few, inside))
address-value functions rodata (targets.Place f i) few is = (omega arith, omega arith)
address-value functions rodata (targets.Name name) few is = (omega arith, omega arith)

call-value : (functions : List Function) (name : List ℕ) (o : Option ℕ) → HasWordValue (call_kind functions name o)
call-value functions name None = tt
call-value functions name (Some f) = tt

line-value : (functions : List Function) (rodata : List ℕ) (gs behind : List (ℕ × Group)) (ins : SourceIns) → length rodata ≤ 1048576 → IsInstruction functions rodata ins → HasWordValue (line_kind functions gs ins behind)
line-value functions rodata gs behind (source.Plain i) few is = tt
line-value functions rodata gs behind (source.Li rd value) few is = is
line-value functions rodata gs behind (source.La rd to) few is = address-value functions rodata to few is
line-value functions rodata gs behind (source.Branch op rs1 rs2 to) few is = tt
line-value functions rodata gs behind (source.Jump to) few is = tt
line-value functions rodata gs behind (source.Call name) few is = call-value functions name (function_place functions name)
line-value functions rodata gs behind source.Ret few is = tt
line-value functions rodata gs behind (source.Fork handle) few is = tt

values-make : (functions : List Function) (rodata : List ℕ) → length rodata ≤ 1048576 → Makes functions (λ l. IsInstruction functions rodata l.ins) (λ line. Unit {0}) (λ item. HasWordValue item.kind)
values-make functions rodata few = record {
  tells = λ l is. tt;
  first = λ line is. tt;
  one = λ groups l behind is. line-value functions rodata groups behind l.ins few is;
  last = λ line is. tt;
}

pub program-values : (functions : List Function) (rodata : List ℕ) → IsUnit functions rodata → (f i : ℕ) (function : ProgramFunction) (item : Item) → slice_get (program_of functions).functions f ≡ Some function → slice_get function.items i ≡ Some item → HasWordValue item.kind
program-values functions rodata is =
    program-each functions (λ l. IsInstruction functions rodata l.ins) (λ line. Unit {0}) (λ item. HasWordValue item.kind) (values-make functions rodata is.bytes)
    (λ f function there. (tt, lines-from_all (λ l. IsInstruction functions rodata l.ins) function.items (function-is functions rodata f function there is).items))

-- ---- programs

size-of : (functions : List Function) (rodata : List ℕ) → unit_faults functions ≡ [] → IsUnit functions rodata → HasSize (program_of functions)
size-of functions rodata none is =
    let fewer : functions_lines (program_of functions).functions ≤ sum_by instructions_in functions = program-lines_weigh functions none in
    let few : sum_by instructions_in functions ≤ 65536 = is.instructions in
    record { lines = omega (arith, fewer, few); values = program-values functions rodata is }

pub unit-size : (functions : List Function) (rodata : List ℕ) (program : Program) → ∥ IsUnit functions rodata ∥₁ → unit_faults functions ≡ [] → program ≡ program_of functions → ∥ HasSize program ∥₁
unit-size functions rodata program is none same = ∥∥₁_map is (λ h. subst HasSize (sym same) (size-of functions rodata none h))
