-- The lines of a shape's groups stand at their places in the function (shape_of-at).
use Rattle.std.proofs.Common.{◌≡◌, ◌∙◌, ℕ, zero, suc, ◌+◌, ◌-◌, Bool, true, false, List, [], ◌∷◌, cond, length, slice_get, ap, refl, subst, arith, Option, Some, None}
use Rattle.std.specs.Prelude.{ℤ, pos, ◌-ℤ◌}
use Rattle.st_base.specs.declared.line.Line.{Line}
use Rattle.st_base.specs.declared.reg.Reg.{Reg}
use Rattle.st_base.specs.declared.reg.Reg.TheVariants.{S0, Sp, Ra}
use Rattle.st_line.specs.declared.source.SourceIns.{SourceIns}
use Rattle.st_asm.specs.declared.unit.SourceLine.{SourceLine}
use Rattle.st_asm.specs.declared.unit.Function.{Function}
use Rattle.st_check.specs.Shape.{Group, epilogue, single, Body, broken, whole, with_group, body_by, body_of, epilogue_form, departing, opens_epilogue, is_return, Opening, departs, opened, with_saved, open_by, open_saved, open_lines, open_frame, frame_of, opening_of, is_addi, is_push, saved_by, saved_registers, Shape, faulty, formed, shape_by, shape_when, shape_behind, shape_of, is_frame_size, first_line, prologue_lines}

-- the lines are the function's from a place on
abbrev pub LinesAt : List SourceLine → ℕ → List SourceLine → Type 0
LinesAt items at ls = (i : ℕ) (l : SourceLine) → slice_get ls i ≡ Some l → slice_get items (at + i) ≡ Some l

-- the lines by themselves stand at the places of their groups
abbrev pub AreAt : List SourceLine → List (ℕ × Group) → Type 0
AreAt items [] = Unit {0}
AreAt items ((at, single l) ∷ gs) = (slice_get items at ≡ Some l) × AreAt items gs
AreAt items ((at, epilogue line) ∷ gs) = AreAt items gs

abbrev pub BodyAt : List SourceLine → Body → Type 0
BodyAt items (broken line) = Unit {0}
BodyAt items (whole gs) = AreAt items gs

abbrev pub OpeningAt : List SourceLine → ℕ → Opening → Type 0
OpeningAt items at (departs line) = Unit {0}
OpeningAt items at (opened frame saved rest) = LinesAt items (at + length saved) rest

abbrev pub ShapeAt : List SourceLine → Shape → Type 0
ShapeAt items (faulty fault) = Unit {0}
ShapeAt items (formed shape) = AreAt items shape.groups

lines-first : (items : List SourceLine) (at : ℕ) (l : SourceLine) (ls : List SourceLine) → LinesAt items at (l ∷ ls) → slice_get items at ≡ Some l
lines-first items at l ls all =
    let e : at ≡ at + 0 = omega arith in
    ap (slice_get items) e ∙ all 0 l refl

lines-rest : (items : List SourceLine) (at : ℕ) (l : SourceLine) (ls : List SourceLine) → LinesAt items at (l ∷ ls) → LinesAt items (at + 1) ls
lines-rest items at l ls all = λ i m here.
    let e : at + 1 + i ≡ at + suc i = omega arith in
    ap (slice_get items) e ∙ all (suc i) m here

lines-all : (items : List SourceLine) → LinesAt items 0 items
lines-all items = λ i l here.
    let e : 0 + i ≡ i = omega arith in
    ap (slice_get items) e ∙ here

with-epilogue : (items : List SourceLine) (at : ℕ) (line : Line) (b : Body) → BodyAt items b → BodyAt items (with_group at (epilogue line) b)
with-epilogue items at line (broken m) h = tt
with-epilogue items at line (whole gs) h = h

with-single : (items : List SourceLine) (at : ℕ) (l : SourceLine) (b : Body) → slice_get items at ≡ Some l → BodyAt items b → BodyAt items (with_group at (single l) b)
with-single items at l (broken m) here h = tt
with-single items at l (whole gs) here h = (here, h)

body-step : (items : List SourceLine) (at : ℕ) (l : SourceLine) (count : ℕ) (go : ℕ → Body) (skip : ℕ) (opens : Bool) (departure : Option Line) (returns : Bool) → slice_get items at ≡ Some l → ((more : ℕ) → BodyAt items (go more)) → BodyAt items (body_by at l count go skip opens departure returns)
body-step items at l count go (suc skip) opens departure returns here each = each skip
body-step items at l count go zero true (Some line) returns here each = tt
body-step items at l count go zero true None returns here each = with-epilogue items at l.line (go (count - 1)) (each (count - 1))
body-step items at l count go zero false departure true here each = tt
body-step items at l count go zero false departure false here each = with-single items at l (go 0) here (each 0)

body_of-at : (items : List SourceLine) (frame : ℤ) (saved : List Reg) (at skip : ℕ) (ls : List SourceLine) → LinesAt items at ls → BodyAt items (body_of frame saved at skip ls)
body_of-at items frame saved at skip [] all = tt
body_of-at items frame saved at skip (l ∷ ls) all =
    body-step items at l (length (epilogue_form frame saved)) (λ more. body_of frame saved (at + 1) more ls) skip (opens_epilogue l.ins) (departing l.line (epilogue_form frame saved) (l ∷ ls)) (is_return l.ins) (lines-first items at l ls all) (λ more. body_of-at items frame saved (at + 1) more ls (lines-rest items at l ls all))

saved-at : (items : List SourceLine) (at : ℕ) (r : Reg) (o : Opening) → OpeningAt items (at + 1) o → OpeningAt items at (with_saved r o)
saved-at items at r (departs line) h = tt
saved-at items at r (opened frame saved rest) h =
    let e : at + 1 + length saved ≡ at + suc (length saved) = omega arith in
    subst (λ n. LinesAt items n rest) e h

opens-at : (items : List SourceLine) (at : ℕ) (line : Line) (ls : List SourceLine) (frame : ℤ) (go : List Reg → Opening) (b : Bool) (o : Option (Reg × List Reg)) → LinesAt items at ls → ((rest : List Reg) → OpeningAt items (at + 1) (go rest)) → OpeningAt items at (open_by line ls frame go b o)
opens-at items at line ls frame go true o all each =
    let e : at ≡ at + 0 = omega arith in
    subst (λ n. LinesAt items n ls) e all
opens-at items at line ls frame go false None all each = tt
opens-at items at line ls frame go false (Some p) all each = saved-at items at p.0 (go p.1) (each p.1)

open_saved-at : (items : List SourceLine) (at : ℕ) (label : Line) (frame : ℤ) (k : ℕ) (left : List Reg) (ls : List SourceLine) → LinesAt items at ls → OpeningAt items (at + 1) (open_saved label frame k left ls)
open_saved-at items at label frame k left [] all = tt
open_saved-at items at label frame k left (l ∷ ls) all =
    let behind = lines-rest items at l ls all in
    opens-at items (at + 1) l.line ls frame (λ rest. open_saved label frame (k + 1) rest ls) (is_addi S0 Sp frame l.ins) (saved_by frame k left l.ins) behind (λ rest. open_saved-at items (at + 1) label frame (k + 1) rest ls behind)

line-at : (items : List SourceLine) (at : ℕ) (b : Bool) (line : Line) (o : Opening) → OpeningAt items at o → OpeningAt items at (cond b o (departs line))
line-at items at true line o h = h
line-at items at false line o h = tt

lines-at : (items : List SourceLine) (at end : ℕ) (label : Line) (rest : List SourceLine → Opening) (is_right : SourceIns → Bool) (ls : List SourceLine) → LinesAt items at ls → ((ms : List SourceLine) → LinesAt items (at + 1) ms → OpeningAt items end (rest ms)) → OpeningAt items end (open_lines label rest is_right ls)
lines-at items at end label rest is_right [] all each = tt
lines-at items at end label rest is_right (l ∷ ls) all each = line-at items end (is_right l.ins) l.line (rest ls) (each ls (lines-rest items at l ls all))

frame-at : (items : List SourceLine) (label first : Line) (ls : List SourceLine) (frame : Option ℤ) → LinesAt items 1 ls → OpeningAt items 4 (open_frame label first ls frame)
frame-at items label first ls None all = tt
frame-at items label first ls (Some frame) all =
    lines-at items 1 4 label (open_lines label (open_saved label frame 0 saved_registers) (is_push S0 (frame -ℤ pos 16))) (is_push Ra (frame -ℤ pos 8)) ls all (λ ms some. lines-at items 2 4 label (open_saved label frame 0 saved_registers) (is_push S0 (frame -ℤ pos 16)) ms some (λ ns more. open_saved-at items 3 label frame 0 saved_registers ns more))

opening_of-at : (items : List SourceLine) (label : Line) (ls : List SourceLine) → LinesAt items 0 ls → OpeningAt items 4 (opening_of label ls)
opening_of-at items label [] all = tt
opening_of-at items label (l ∷ ls) all = frame-at items label l.line ls (frame_of l.ins) (lines-rest items 0 l ls all)

shape_by-at : (items : List SourceLine) (frame : ℤ) (saved : List Reg) (b : Body) → BodyAt items b → ShapeAt items (shape_by frame saved b)
shape_by-at items frame saved (broken line) h = tt
shape_by-at items frame saved (whole gs) h = h

shape_when-at : (items : List SourceLine) (t : Bool) (first : Line) (frame : ℤ) (saved : List Reg) (b : Body) → BodyAt items b → ShapeAt items (shape_when t first frame saved b)
shape_when-at items false first frame saved b h = tt
shape_when-at items true first frame saved b h = shape_by-at items frame saved b h

behind-at : (function : Function) (o : Opening) → OpeningAt function.items 4 o → ShapeAt function.items (shape_behind function o)
behind-at function (departs line) h = tt
behind-at function (opened frame saved rest) h =
    shape_when-at function.items (is_frame_size (length saved) function.slots frame) (first_line function.line function.items) frame saved (body_of frame saved (prologue_lines saved) 0 rest) (body_of-at function.items frame saved (prologue_lines saved) 0 rest h)

pub shape_of-at : (function : Function) → ShapeAt function.items (shape_of function)
unfolding shape_of
shape_of-at function = behind-at function (opening_of function.line function.items) (opening_of-at function.items function.line function.items (lines-all function.items))
