-- The items of a program stand in the order of files and lines: each function's items have lines of the function in their order
-- (function-in_order), so where the lines of a unit's items ascend, those of its program's items do (program-order, unit-order). Reach for
-- order-earlier (items of two functions) and items-earlier with order-inside (two items of one).
use Rattle.std.proofs.Common.{◌≡◌, inl, ℕ, zero, suc, ◌+◌, ◌-◌, ◌<◌, Bool, true, false, List, [], ◌∷◌, refl, ap, sym, subst, cond, map, length, slice_get, Option, Some, None, arith}
use Rattle.std.specs.Prelude.{ℤ, pos, ◌-ℤ◌, All, AllPairs}
use Rattle.std.proofs.Math.Logic.{∥∥₁_map}
use Rattle.std.proofs.lemmas.List.Elements.{All-head, All-tail}
use Rattle.st_base.specs.declared.line.Line.{Line}
use Rattle.st_base.specs.declared.reg.Reg.{Reg}
use Rattle.st_base.specs.declared.reg.Reg.TheVariants.{S0, Sp, Ra}
use Rattle.st_base.specs.declared.form.FormKind.{FormKind}
use Rattle.st_base.specs.declared.form.FormKind.TheVariants.{Prologue}
use Rattle.st_line.specs.declared.source.SourceIns.{SourceIns}
use Rattle.st_asm.specs.declared.unit.SourceLine.{SourceLine}
use Rattle.st_asm.specs.declared.unit.Function.{Function}
use Rattle.st_asm.specs.Unit.{IsEarlier, IsUnit, item_lines as unit_lines}
use Rattle.st_asm.proofs.InOrder.{HasInOrder, in_order-none, in_order-skip, in_order-keep, in_order-refl, in_order-append, in_order-trans, pairs-head, pairs-tail, pairs-in_order, pairs-front, pairs-back, pairs-across, all-front, all-back}
use Rattle.st_model.specs.declared.program.Item.{Item}
use Rattle.st_model.specs.declared.program.Program.{Program}
use Rattle.st_model.specs.declared.program.ProgramFunction.{ProgramFunction}
use Rattle.st_check.specs.Shape.{Group, epilogue, single, Body, broken, whole, with_group, body_by, body_of, epilogue_form, departing, opens_epilogue, is_return, Opening, departs, opened, with_saved, open_by, open_saved, open_lines, open_frame, frame_of, opening_of, is_addi, is_push, saved_by, saved_registers, Shape, faulty, formed, shape_by, shape_when, shape_behind, shape_of, is_frame_size, first_line, prologue_lines}
use Rattle.st_check.specs.Faults.{is_fork}
use Rattle.st_check.specs.Programs.{items_of, function_by, program_function, program_of}
use Rattle.st_check.specs.Acceptance.{program_lines, HasOrder}

abbrev pub source_lines : List SourceLine → List Line
source_lines ls = map (λ l. l.line) ls

abbrev pub item_lines : List Item → List Line
item_lines items = map (λ item. item.line) items

-- ---- bodies

abbrev group_line : Group → Line
group_line (single l) = l.line
group_line (epilogue line) = line

-- the first lines of groups
abbrev groups_lines : List (ℕ × Group) → List Line
groups_lines [] = []
groups_lines (g ∷ gs) = group_line g.1 ∷ groups_lines gs

abbrev BodyIn : List Line → Body → Type 0
BodyIn lines (broken line) = Unit {0}
BodyIn lines (whole gs) = HasInOrder lines (groups_lines gs)

body-skip : (line : Line) (lines : List Line) (b : Body) → BodyIn lines b → BodyIn (line ∷ lines) b
body-skip line lines (broken m) h = tt
body-skip line lines (whole gs) h = in_order-skip line lines (groups_lines gs) h

body-group : (at : ℕ) (g : Group) (lines : List Line) (b : Body) → BodyIn lines b → BodyIn (group_line g ∷ lines) (with_group at g b)
body-group at g lines (broken m) h = tt
body-group at g lines (whole gs) h = in_order-keep (group_line g) lines (groups_lines gs) h

body-step : (at : ℕ) (l : SourceLine) (count : ℕ) (go : ℕ → Body) (skip : ℕ) (opens : Bool) (departure : Option Line) (returns : Bool) (lines : List Line) → ((more : ℕ) → BodyIn lines (go more)) → BodyIn (l.line ∷ lines) (body_by at l count go skip opens departure returns)
body-step at l count go (suc skip) opens departure returns lines each = body-skip l.line lines (go skip) (each skip)
body-step at l count go zero true (Some line) returns lines each = tt
body-step at l count go zero true None returns lines each = body-group at (epilogue l.line) lines (go (count - 1)) (each (count - 1))
body-step at l count go zero false departure true lines each = tt
body-step at l count go zero false departure false lines each = body-group at (single l) lines (go 0) (each 0)

body_of-in_order : (frame : ℤ) (saved : List Reg) (at skip : ℕ) (ls : List SourceLine) → BodyIn (source_lines ls) (body_of frame saved at skip ls)
body_of-in_order frame saved at skip [] = tt
body_of-in_order frame saved at skip (l ∷ ls) =
    body-step at l (length (epilogue_form frame saved)) (λ more. body_of frame saved (at + 1) more ls) skip (opens_epilogue l.ins) (departing l.line (epilogue_form frame saved) (l ∷ ls)) (is_return l.ins) (source_lines ls) (λ more. body_of-in_order frame saved (at + 1) more ls)

-- ---- prologues

abbrev OpeningIn : List Line → Opening → Type 0
OpeningIn lines (departs line) = Unit {0}
OpeningIn lines (opened frame saved rest) = HasInOrder lines (source_lines rest)

opening-skip : (line : Line) (lines : List Line) (o : Opening) → OpeningIn lines o → OpeningIn (line ∷ lines) o
opening-skip line lines (departs m) h = tt
opening-skip line lines (opened frame saved rest) h = in_order-skip line lines (source_lines rest) h

opening-saved : (lines : List Line) (r : Reg) (o : Opening) → OpeningIn lines o → OpeningIn lines (with_saved r o)
opening-saved lines r (departs m) h = tt
opening-saved lines r (opened frame saved rest) h = h

open_by-in_order : (line : Line) (ls : List SourceLine) (frame : ℤ) (go : List Reg → Opening) (b : Bool) (o : Option (Reg × List Reg)) → ((rest : List Reg) → OpeningIn (source_lines ls) (go rest)) → OpeningIn (source_lines ls) (open_by line ls frame go b o)
open_by-in_order line ls frame go true o each = in_order-refl (source_lines ls)
open_by-in_order line ls frame go false None each = tt
open_by-in_order line ls frame go false (Some p) each = opening-saved (source_lines ls) p.0 (go p.1) (each p.1)

open_saved-in_order : (label : Line) (frame : ℤ) (k : ℕ) (left : List Reg) (ls : List SourceLine) → OpeningIn (source_lines ls) (open_saved label frame k left ls)
open_saved-in_order label frame k left [] = tt
open_saved-in_order label frame k left (l ∷ ls) =
    opening-skip l.line (source_lines ls) (open_saved label frame k left (l ∷ ls))
    (open_by-in_order l.line ls frame (λ rest. open_saved label frame (k + 1) rest ls) (is_addi S0 Sp frame l.ins) (saved_by frame k left l.ins) (λ rest. open_saved-in_order label frame (k + 1) rest ls))

line-in_order : (lines : List Line) (b : Bool) (line : Line) (o : Opening) → OpeningIn lines o → OpeningIn lines (cond b o (departs line))
line-in_order lines true line o h = h
line-in_order lines false line o h = tt

open_lines-in_order : (label : Line) (rest : List SourceLine → Opening) (is_right : SourceIns → Bool) (ls : List SourceLine) → ((ms : List SourceLine) → OpeningIn (source_lines ms) (rest ms)) → OpeningIn (source_lines ls) (open_lines label rest is_right ls)
open_lines-in_order label rest is_right [] each = tt
open_lines-in_order label rest is_right (l ∷ ls) each =
    opening-skip l.line (source_lines ls) (open_lines label rest is_right (l ∷ ls)) (line-in_order (source_lines ls) (is_right l.ins) l.line (rest ls) (each ls))

open_frame-in_order : (label first : Line) (ls : List SourceLine) (frame : Option ℤ) → OpeningIn (source_lines ls) (open_frame label first ls frame)
open_frame-in_order label first ls None = tt
open_frame-in_order label first ls (Some frame) =
    open_lines-in_order label (open_lines label (open_saved label frame 0 saved_registers) (is_push S0 (frame -ℤ pos 16))) (is_push Ra (frame -ℤ pos 8)) ls
    (λ ms. open_lines-in_order label (open_saved label frame 0 saved_registers) (is_push S0 (frame -ℤ pos 16)) ms (λ ns. open_saved-in_order label frame 0 saved_registers ns))

-- the lines behind a prologue that is whole are behind a first one
abbrev OpeningBehind : List SourceLine → Opening → Type 0
OpeningBehind [] (departs line) = Unit {0}
OpeningBehind [] (opened frame saved rest) = ⊥
OpeningBehind (l ∷ ls) o = OpeningIn (source_lines ls) o

opening_of-in_order : (label : Line) (ls : List SourceLine) → OpeningBehind ls (opening_of label ls)
opening_of-in_order label [] = tt
opening_of-in_order label (l ∷ ls) = open_frame-in_order label l.line ls (frame_of l.ins)

-- ---- shapes

abbrev ShapeIn : List SourceLine → Shape → Type 0
ShapeIn [] (faulty fault) = Unit {0}
ShapeIn [] (formed shape) = ⊥
ShapeIn (l ∷ ls) (faulty fault) = Unit {0}
ShapeIn (l ∷ ls) (formed shape) = HasInOrder (source_lines ls) (groups_lines shape.groups)

shape-faulty : (ls : List SourceLine) (line : Line) (kind : FormKind) → ShapeIn ls (faulty (line, kind))
shape-faulty [] line kind = tt
shape-faulty (l ∷ ls) line kind = tt

shape_by-in_order : (l : SourceLine) (ls : List SourceLine) (frame : ℤ) (saved : List Reg) (b : Body) → BodyIn (source_lines ls) b → ShapeIn (l ∷ ls) (shape_by frame saved b)
shape_by-in_order l ls frame saved (broken line) h = tt
shape_by-in_order l ls frame saved (whole gs) h = h

shape_when-in_order : (l : SourceLine) (ls : List SourceLine) (t : Bool) (first : Line) (frame : ℤ) (saved : List Reg) (b : Body) → BodyIn (source_lines ls) b → ShapeIn (l ∷ ls) (shape_when t first frame saved b)
shape_when-in_order l ls false first frame saved b h = tt
shape_when-in_order l ls true first frame saved b h = shape_by-in_order l ls frame saved b h

body-among : (lines others : List Line) (b : Body) → HasInOrder lines others → BodyIn others b → BodyIn lines b
body-among lines others (broken line) among h = tt
body-among lines others (whole gs) among h = in_order-trans lines others (groups_lines gs) among h

shape_behind-in_order : (function : Function) (ls : List SourceLine) (o : Opening) → OpeningBehind ls o → ShapeIn ls (shape_behind function o)
shape_behind-in_order function ls (departs line) h = shape-faulty ls line Prologue
shape_behind-in_order function [] (opened frame saved rest) h = absurd h
shape_behind-in_order function (l ∷ ls) (opened frame saved rest) h =
    shape_when-in_order l ls (is_frame_size (length saved) function.slots frame) (first_line function.line function.items) frame saved (body_of frame saved (prologue_lines saved) 0 rest)
    (body-among (source_lines ls) (source_lines rest) (body_of frame saved (prologue_lines saved) 0 rest) h (body_of-in_order frame saved (prologue_lines saved) 0 rest))

shape_of-in_order : (function : Function) → ShapeIn function.items (shape_of function)
unfolding shape_of
shape_of-in_order function = shape_behind-in_order function function.items (opening_of function.line function.items) (opening_of-in_order function.line function.items)

-- ---- items

items_of-in_order : (functions : List Function) (gs : List (ℕ × Group)) (forked : Bool) (hs : List (ℕ × Group)) → HasInOrder (groups_lines hs) (item_lines (items_of functions gs forked hs))
items_of-in_order functions gs forked [] = tt
items_of-in_order functions gs true ((at, epilogue line) ∷ hs) = in_order-skip line (groups_lines hs) (item_lines (items_of functions gs false hs)) (items_of-in_order functions gs false hs)
items_of-in_order functions gs true ((at, single l) ∷ hs) = in_order-skip l.line (groups_lines hs) (item_lines (items_of functions gs false hs)) (items_of-in_order functions gs false hs)
items_of-in_order functions gs false ((at, epilogue line) ∷ hs) = in_order-keep line (groups_lines hs) (item_lines (items_of functions gs false hs)) (items_of-in_order functions gs false hs)
items_of-in_order functions gs false ((at, single l) ∷ hs) = in_order-keep l.line (groups_lines hs) (item_lines (items_of functions gs (is_fork l.ins) hs)) (items_of-in_order functions gs (is_fork l.ins) hs)

function_by-in_order : (functions : List Function) (function : Function) (ls : List SourceLine) (s : Shape) → function.items ≡ ls → ShapeIn ls s → HasInOrder (source_lines ls) (item_lines (function_by functions function s).items)
function_by-in_order functions function ls (faulty fault) e h = in_order-none (source_lines ls)
function_by-in_order functions function [] (formed shape) e h = absurd h
function_by-in_order functions function (l ∷ ls) (formed shape) e h =
    inl (ap (first_line function.line) (sym e), in_order-trans (source_lines ls) (groups_lines shape.groups) (item_lines (items_of functions shape.groups false shape.groups)) h (items_of-in_order functions shape.groups false shape.groups))

pub function-in_order : (functions : List Function) (function : Function) → HasInOrder (source_lines function.items) (item_lines (program_function functions function).items)
function-in_order functions function = function_by-in_order functions function function.items (shape_of function) refl (shape_of-in_order function)

-- ---- programs

functions-in_order : (all fs : List Function) → HasInOrder (unit_lines fs) (program_lines (map (program_function all) fs))
functions-in_order all [] = tt
functions-in_order all (f ∷ fs) =
    in_order-append (source_lines f.items) (item_lines (program_function all f).items) (unit_lines fs) (program_lines (map (program_function all) fs)) (function-in_order all f) (functions-in_order all fs)

pub program-order : (functions : List Function) → AllPairs IsEarlier (unit_lines functions) → HasOrder (program_of functions)
unfolding program_of
program-order functions ordered = pairs-in_order IsEarlier (unit_lines functions) (program_lines (map (program_function functions) functions)) (functions-in_order functions functions) ordered

pub unit-order : (functions : List Function) (rodata : List ℕ) (program : Program) → ∥ IsUnit functions rodata ∥₁ → program ≡ program_of functions → ∥ HasOrder program ∥₁
unit-order functions rodata program is same = ∥∥₁_map is (λ u. subst HasOrder (sym same) (program-order functions u.ordered))

-- ---- items of a program in order

pub items-all : (P : Line → Type 0) (items : List Item) (i : ℕ) (item : Item) → All P (item_lines items) → slice_get items i ≡ Some item → P item.line
items-all P [] i item all here = cc
items-all P (x ∷ xs) zero item all here =
    let same : x ≡ item = cc in
    subst (λ (it : Item). P it.line) same (All-head P x.line (item_lines xs) all)
items-all P (x ∷ xs) (suc i) item all here = items-all P xs i item (All-tail P x.line (item_lines xs) all) here

pub items-earlier : (items : List Item) (i j : ℕ) (x y : Item) → AllPairs IsEarlier (item_lines items) → slice_get items i ≡ Some x → slice_get items j ≡ Some y → i < j → IsEarlier x.line y.line
items-earlier [] i j x y order here there before = cc
items-earlier (z ∷ zs) i zero x y order here there before = absurd (omega arith)
items-earlier (z ∷ zs) zero (suc j) x y order here there before =
    let same : z ≡ x = cc in
    subst (λ (it : Item). IsEarlier it.line y.line) same (items-all (IsEarlier z.line) zs j y (pairs-head IsEarlier z.line (item_lines zs) order) there)
items-earlier (z ∷ zs) (suc i) (suc j) x y order here there before = items-earlier zs i j x y (pairs-tail IsEarlier z.line (item_lines zs) order) here there (omega arith)

pub order-inside : (fs : List ProgramFunction) (f : ℕ) (function : ProgramFunction) → AllPairs IsEarlier (program_lines fs) → slice_get fs f ≡ Some function → AllPairs IsEarlier (item_lines function.items)
order-inside [] f function order there = cc
order-inside (g ∷ gs) zero function order there =
    let same : g ≡ function = cc in
    subst (λ (it : ProgramFunction). AllPairs IsEarlier (item_lines it.items)) same (pairs-front IsEarlier (item_lines g.items) (program_lines gs) order)
order-inside (g ∷ gs) (suc f) function order there = order-inside gs f function (pairs-back IsEarlier (item_lines g.items) (program_lines gs) order) there

pub order-all : (P : Line → Type 0) (fs : List ProgramFunction) (f i : ℕ) (function : ProgramFunction) (item : Item) → All P (program_lines fs) → slice_get fs f ≡ Some function → slice_get function.items i ≡ Some item → P item.line
order-all P [] f i function item all there here = cc
order-all P (g ∷ gs) zero i function item all there here =
    let same : function ≡ g = cc in
    items-all P g.items i item (all-front P (item_lines g.items) (program_lines gs) all) (subst (λ (it : ProgramFunction). slice_get it.items i ≡ Some item) same here)
order-all P (g ∷ gs) (suc f) i function item all there here = order-all P gs f i function item (all-back P (item_lines g.items) (program_lines gs) all) there here

pub order-earlier : (fs : List ProgramFunction) (f g i j : ℕ) (a b : ProgramFunction) (x y : Item) → AllPairs IsEarlier (program_lines fs) → slice_get fs f ≡ Some a → slice_get a.items i ≡ Some x → slice_get fs g ≡ Some b → slice_get b.items j ≡ Some y → f < g → IsEarlier x.line y.line
order-earlier [] f g i j a b x y order at first there later before = cc
order-earlier (h ∷ hs) f zero i j a b x y order at first there later before = absurd (omega arith)
order-earlier (h ∷ hs) zero (suc g) i j a b x y order at first there later before =
    let same : a ≡ h = cc in
    let across = items-all (λ line. All (IsEarlier line) (program_lines hs)) h.items i x (pairs-across IsEarlier (item_lines h.items) (program_lines hs) order) (subst (λ (it : ProgramFunction). slice_get it.items i ≡ Some x) same first) in
    order-all (IsEarlier x.line) hs g j b y across there later
order-earlier (h ∷ hs) (suc f) (suc g) i j a b x y order at first there later before =
    order-earlier hs f g i j a b x y (pairs-back IsEarlier (item_lines h.items) (program_lines hs) order) at first there later (omega arith)
