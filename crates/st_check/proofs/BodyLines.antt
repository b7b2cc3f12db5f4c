-- What holds of each line of a function holds of each line of its shape (shape_of-are): of the lines of its groups, and of those at which a
-- fault is told. Q is said of lines with their instructions, and R, which follows, of lines alone.
use Rattle.std.proofs.Common.{ℕ, zero, suc, ◌+◌, ◌-◌, Bool, true, false, List, [], ◌∷◌, cond, length, arith, Option, Some, None}
use Rattle.std.specs.Prelude.{ℤ, pos, ◌-ℤ◌, All}
use Rattle.st_base.specs.declared.line.Line.{Line}
use Rattle.st_base.specs.declared.reg.Reg.{Reg}
use Rattle.st_base.specs.declared.reg.Reg.TheVariants.{S0, Sp, Ra}
use Rattle.st_line.specs.declared.source.SourceIns.{SourceIns}
use Rattle.st_asm.specs.declared.unit.SourceLine.{SourceLine}
use Rattle.st_asm.specs.declared.unit.Function.{Function}
use Rattle.st_check.specs.Shape.{Group, epilogue, single, Body, broken, whole, with_group, body_by, body_of, epilogue_form, departing, opens_epilogue, is_return, Opening, departs, opened, with_saved, open_by, open_saved, open_lines, open_frame, frame_of, opening_of, is_addi, is_push, saved_by, saved_registers, Shape, faulty, formed, shape_by, shape_when, shape_behind, shape_of, is_frame_size, first_line, prologue_lines}

abbrev pub AreLines : (SourceLine → Type 0) → List SourceLine → Type 0
AreLines Q [] = Unit {0}
AreLines Q (l ∷ ls) = Q l × AreLines Q ls

pub lines-from_all : (Q : SourceLine → Type 0) (ls : List SourceLine) → All Q ls → AreLines Q ls
lines-from_all Q [] all = tt
lines-from_all Q (l ∷ ls) all = (all 0 l (omega arith), lines-from_all Q ls (λ k d inside. all (suc k) d (omega arith)))

-- the lines by themselves, and the first lines of epilogues
abbrev pub GroupsAre : (SourceLine → Type 0) → (Line → Type 0) → List (ℕ × Group) → Type 0
GroupsAre Q R [] = Unit {0}
GroupsAre Q R ((at, single l) ∷ gs) = Q l × GroupsAre Q R gs
GroupsAre Q R ((at, epilogue line) ∷ gs) = R line × GroupsAre Q R gs

abbrev pub BodyAre : (SourceLine → Type 0) → (Line → Type 0) → Body → Type 0
BodyAre Q R (broken line) = R line
BodyAre Q R (whole gs) = GroupsAre Q R gs

abbrev pub OpeningAre : (SourceLine → Type 0) → (Line → Type 0) → Opening → Type 0
OpeningAre Q R (departs line) = R line
OpeningAre Q R (opened frame saved rest) = AreLines Q rest

abbrev pub ShapeAre : (SourceLine → Type 0) → (Line → Type 0) → Shape → Type 0
ShapeAre Q R (faulty fault) = R fault.0
ShapeAre Q R (formed shape) = GroupsAre Q R shape.groups

-- ---- bodies

with-epilogue : (Q : SourceLine → Type 0) (R : Line → Type 0) (at : ℕ) (line : Line) (b : Body) → R line → BodyAre Q R b → BodyAre Q R (with_group at (epilogue line) b)
with-epilogue Q R at line (broken m) is h = h
with-epilogue Q R at line (whole gs) is h = (is, h)

with-single : (Q : SourceLine → Type 0) (R : Line → Type 0) (at : ℕ) (l : SourceLine) (b : Body) → Q l → BodyAre Q R b → BodyAre Q R (with_group at (single l) b)
with-single Q R at l (broken m) is h = h
with-single Q R at l (whole gs) is h = (is, h)

abbrev pub DepartureIs : (Line → Type 0) → Option Line → Type 0
DepartureIs R None = Unit {0}
DepartureIs R (Some line) = R line

departing-by : (R : Line → Type 0) (b : Bool) (line : Line) (o : Option Line) → R line → DepartureIs R o → DepartureIs R (cond b o (Some line))
departing-by R true line o is h = h
departing-by R false line o is h = is

departing-is : (Q : SourceLine → Type 0) (R : Line → Type 0) → ((l : SourceLine) → Q l → R l.line) → (last : Line) (form : List (SourceIns → Bool)) (ls : List SourceLine) → R last → AreLines Q ls → DepartureIs R (departing last form ls)
departing-is Q R tells last [] ls is all = tt
departing-is Q R tells last (p ∷ form) [] is all = is
departing-is Q R tells last (p ∷ form) (l ∷ ls) is all =
    departing-by R (p l.ins) l.line (departing l.line form ls) (tells l all.0) (departing-is Q R tells l.line form ls (tells l all.0) all.1)

body-step : (Q : SourceLine → Type 0) (R : Line → Type 0) (at : ℕ) (l : SourceLine) (count : ℕ) (go : ℕ → Body) (skip : ℕ) (opens : Bool) (departure : Option Line) (returns : Bool) → Q l → R l.line → DepartureIs R departure → ((more : ℕ) → BodyAre Q R (go more)) → BodyAre Q R (body_by at l count go skip opens departure returns)
body-step Q R at l count go (suc skip) opens departure returns is here told each = each skip
body-step Q R at l count go zero true (Some line) returns is here told each = told
body-step Q R at l count go zero true None returns is here told each = with-epilogue Q R at l.line (go (count - 1)) here (each (count - 1))
body-step Q R at l count go zero false departure true is here told each = here
body-step Q R at l count go zero false departure false is here told each = with-single Q R at l (go 0) is (each 0)

body_of-are : (Q : SourceLine → Type 0) (R : Line → Type 0) → ((l : SourceLine) → Q l → R l.line) → (frame : ℤ) (saved : List Reg) (at skip : ℕ) (ls : List SourceLine) → AreLines Q ls → BodyAre Q R (body_of frame saved at skip ls)
body_of-are Q R tells frame saved at skip [] all = tt
body_of-are Q R tells frame saved at skip (l ∷ ls) all =
    body-step Q R at l (length (epilogue_form frame saved)) (λ more. body_of frame saved (at + 1) more ls) skip (opens_epilogue l.ins) (departing l.line (epilogue_form frame saved) (l ∷ ls)) (is_return l.ins) all.0 (tells l all.0) (departing-is Q R tells l.line (epilogue_form frame saved) (l ∷ ls) (tells l all.0) all) (λ more. body_of-are Q R tells frame saved (at + 1) more ls all.1)

-- ---- prologues

saved-are : (Q : SourceLine → Type 0) (R : Line → Type 0) (r : Reg) (o : Opening) → OpeningAre Q R o → OpeningAre Q R (with_saved r o)
saved-are Q R r (departs line) h = h
saved-are Q R r (opened frame saved rest) h = h

opens-are : (Q : SourceLine → Type 0) (R : Line → Type 0) (line : Line) (ls : List SourceLine) (frame : ℤ) (go : List Reg → Opening) (b : Bool) (o : Option (Reg × List Reg)) → R line → AreLines Q ls → ((rest : List Reg) → OpeningAre Q R (go rest)) → OpeningAre Q R (open_by line ls frame go b o)
opens-are Q R line ls frame go true o here all each = all
opens-are Q R line ls frame go false None here all each = here
opens-are Q R line ls frame go false (Some p) here all each = saved-are Q R p.0 (go p.1) (each p.1)

open_saved-are : (Q : SourceLine → Type 0) (R : Line → Type 0) → ((l : SourceLine) → Q l → R l.line) → (label : Line) (frame : ℤ) (k : ℕ) (left : List Reg) (ls : List SourceLine) → R label → AreLines Q ls → OpeningAre Q R (open_saved label frame k left ls)
open_saved-are Q R tells label frame k left [] is all = is
open_saved-are Q R tells label frame k left (l ∷ ls) is all =
    opens-are Q R l.line ls frame (λ rest. open_saved label frame (k + 1) rest ls) (is_addi S0 Sp frame l.ins) (saved_by frame k left l.ins) (tells l all.0) all.1 (λ rest. open_saved-are Q R tells label frame (k + 1) rest ls is all.1)

line-are : (Q : SourceLine → Type 0) (R : Line → Type 0) (b : Bool) (line : Line) (o : Opening) → R line → OpeningAre Q R o → OpeningAre Q R (cond b o (departs line))
line-are Q R true line o here h = h
line-are Q R false line o here h = here

lines-are : (Q : SourceLine → Type 0) (R : Line → Type 0) → ((l : SourceLine) → Q l → R l.line) → (label : Line) (rest : List SourceLine → Opening) (is_right : SourceIns → Bool) (ls : List SourceLine) → R label → AreLines Q ls → ((ms : List SourceLine) → AreLines Q ms → OpeningAre Q R (rest ms)) → OpeningAre Q R (open_lines label rest is_right ls)
lines-are Q R tells label rest is_right [] is all each = is
lines-are Q R tells label rest is_right (l ∷ ls) is all each = line-are Q R (is_right l.ins) l.line (rest ls) (tells l all.0) (each ls all.1)

frame-are : (Q : SourceLine → Type 0) (R : Line → Type 0) → ((l : SourceLine) → Q l → R l.line) → (label first : Line) (ls : List SourceLine) (frame : Option ℤ) → R label → R first → AreLines Q ls → OpeningAre Q R (open_frame label first ls frame)
frame-are Q R tells label first ls None is here all = here
frame-are Q R tells label first ls (Some frame) is here all =
    lines-are Q R tells label (open_lines label (open_saved label frame 0 saved_registers) (is_push S0 (frame -ℤ pos 16))) (is_push Ra (frame -ℤ pos 8)) ls is all (λ ms some. lines-are Q R tells label (open_saved label frame 0 saved_registers) (is_push S0 (frame -ℤ pos 16)) ms is some (λ ns more. open_saved-are Q R tells label frame 0 saved_registers ns is more))

opening_of-are : (Q : SourceLine → Type 0) (R : Line → Type 0) → ((l : SourceLine) → Q l → R l.line) → (label : Line) (ls : List SourceLine) → R label → AreLines Q ls → OpeningAre Q R (opening_of label ls)
opening_of-are Q R tells label [] is all = is
opening_of-are Q R tells label (l ∷ ls) is all = frame-are Q R tells label l.line ls (frame_of l.ins) is (tells l all.0) all.1

-- ---- shapes

pub first_line-is : (Q : SourceLine → Type 0) (R : Line → Type 0) → ((l : SourceLine) → Q l → R l.line) → (label : Line) (ls : List SourceLine) → R label → AreLines Q ls → R (first_line label ls)
first_line-is Q R tells label [] is all = is
first_line-is Q R tells label (l ∷ ls) is all = tells l all.0

shape_by-are : (Q : SourceLine → Type 0) (R : Line → Type 0) (frame : ℤ) (saved : List Reg) (b : Body) → BodyAre Q R b → ShapeAre Q R (shape_by frame saved b)
shape_by-are Q R frame saved (broken line) h = h
shape_by-are Q R frame saved (whole gs) h = h

shape_when-are : (Q : SourceLine → Type 0) (R : Line → Type 0) (t : Bool) (first : Line) (frame : ℤ) (saved : List Reg) (b : Body) → R first → BodyAre Q R b → ShapeAre Q R (shape_when t first frame saved b)
shape_when-are Q R false first frame saved b here h = here
shape_when-are Q R true first frame saved b here h = shape_by-are Q R frame saved b h

behind-are : (Q : SourceLine → Type 0) (R : Line → Type 0) → ((l : SourceLine) → Q l → R l.line) → (function : Function) (o : Opening) → R (first_line function.line function.items) → OpeningAre Q R o → ShapeAre Q R (shape_behind function o)
behind-are Q R tells function (departs line) here h = h
behind-are Q R tells function (opened frame saved rest) here h =
    shape_when-are Q R (is_frame_size (length saved) function.slots frame) (first_line function.line function.items) frame saved (body_of frame saved (prologue_lines saved) 0 rest) here (body_of-are Q R tells frame saved (prologue_lines saved) 0 rest h)

pub shape_of-are : (Q : SourceLine → Type 0) (R : Line → Type 0) → ((l : SourceLine) → Q l → R l.line) → (function : Function) → R function.line → AreLines Q function.items → ShapeAre Q R (shape_of function)
unfolding shape_of
shape_of-are Q R tells function is all =
    behind-are Q R tells function (opening_of function.line function.items) (first_line-is Q R tells function.line function.items is all) (opening_of-are Q R tells function.line function.items is all)
