-- How many instruction lines the shape of a function stands for (shape_of-weighs): no more than the function has. No line of its groups by
-- itself is a return.
use Rattle.std.proofs.Common.{◌≡◌, ℕ, zero, suc, ◌+◌, ◌-◌, ◌≤◌, Bool, true, false, List, [], ◌∷◌, ◌++◌, refl, sym, subst, cond, length, Option, Some, None, arith}
use Rattle.std.specs.Prelude.{ℤ, pos, ◌-ℤ◌}
use Rattle.st_base.specs.declared.line.Line.{Line}
use Rattle.st_base.specs.declared.reg.Reg.{Reg}
use Rattle.st_base.specs.declared.reg.Reg.TheVariants.{S0, Sp, Ra}
use Rattle.st_line.specs.declared.source.SourceIns.{SourceIns}
use Rattle.st_line.specs.declared.source.SourceIns.TheVariants as source
use Rattle.st_asm.specs.declared.unit.SourceLine.{SourceLine}
use Rattle.st_asm.specs.declared.unit.Function.{Function}
use Rattle.st_asm.specs.Assembly.{weight}
use Rattle.st_check.specs.Shape.{Group, epilogue, single, Body, broken, whole, with_group, body_by, body_of, restores, epilogue_form, departing, opens_epilogue, is_return, Opening, departs, opened, with_saved, open_by, open_saved, open_lines, open_frame, frame_of, opening_of, is_addi, is_push, is_pop, saved_place, saved_by, saved_registers, Shape, faulty, formed, shape_by, shape_when, shape_behind, shape_of, is_frame_size, first_line, prologue_lines}

abbrev pub lines_weight : List SourceLine → ℕ
lines_weight [] = 0
lines_weight (l ∷ ls) = weight l.ins + lines_weight ls

-- the instruction lines of groups, where n registers are saved
abbrev pub groups_weight : ℕ → List (ℕ × Group) → ℕ
groups_weight n [] = 0
groups_weight n ((at, single l) ∷ gs) = weight l.ins + groups_weight n gs
groups_weight n ((at, epilogue line) ∷ gs) = 4 + n + groups_weight n gs

abbrev pub HaveNoReturn : List (ℕ × Group) → Type 0
HaveNoReturn [] = Unit {0}
HaveNoReturn ((at, single l) ∷ gs) = (is_return l.ins ≡ false) × HaveNoReturn gs
HaveNoReturn ((at, epilogue line) ∷ gs) = HaveNoReturn gs

-- ---- tests of single lines pass instructions alone

abbrev pub Counts : (SourceIns → Bool) → Type 0
Counts is_right = (ins : SourceIns) → is_right ins ≡ true → weight ins ≡ 1

counts-by : (is_right : SourceIns → Bool) → ((handle : Reg) → is_right (source.Fork handle) ≡ false) → Counts is_right
counts-by is_right no_fork (source.Fork handle) right =
    let wrong : is_right (source.Fork handle) ≡ false = no_fork handle in
    cc
counts-by is_right no_fork _ right = refl

abbrev pub AllCount : List (SourceIns → Bool) → Type 0
AllCount [] = Unit {0}
AllCount (p ∷ ps) = Counts p × AllCount ps

restores-count : (frame : ℤ) (k : ℕ) (saved : List Reg) (ps : List (SourceIns → Bool)) → AllCount ps → AllCount (restores frame k saved ++ ps)
restores-count frame k [] ps all = all
restores-count frame k (r ∷ rs) ps all = (counts-by (is_pop r (saved_place frame k)) (λ handle. refl), restores-count frame (k + 1) rs ps all)

epilogue_form-count : (frame : ℤ) (saved : List Reg) → AllCount (epilogue_form frame saved)
epilogue_form-count frame saved =
    (counts-by (is_pop Ra (frame -ℤ pos 8)) (λ handle. refl), (counts-by (is_pop S0 (frame -ℤ pos 16)) (λ handle. refl), restores-count frame 0 saved _ (counts-by (is_addi Sp Sp frame) (λ handle. refl), (counts-by is_return (λ handle. refl), tt))))

restores-length : (frame : ℤ) (k : ℕ) (saved : List Reg) (ps : List (SourceIns → Bool)) → length (restores frame k saved ++ ps) ≡ length saved + length ps
restores-length frame k [] ps = omega arith
restores-length frame k (r ∷ rs) ps =
    let rest : length (restores frame (k + 1) rs ++ ps) ≡ length rs + length ps = restores-length frame (k + 1) rs ps in
    omega (arith, rest)

epilogue_form-length : (frame : ℤ) (saved : List Reg) → length (epilogue_form frame saved) ≡ 4 + length saved
epilogue_form-length frame saved =
    let ends : List (SourceIns → Bool) = is_addi Sp Sp frame ∷ is_return ∷ [] in
    let rest : length (restores frame 0 saved ++ ends) ≡ length saved + 2 = restores-length frame 0 saved ends in
    omega (arith, rest)

-- ---- bodies

-- the first lines, so many, are instructions
abbrev pub HaveFirst : ℕ → List SourceLine → Type 0
HaveFirst zero ls = Unit {0}
HaveFirst (suc k) [] = ⊥
HaveFirst (suc k) (l ∷ ls) = (weight l.ins ≡ 1) × HaveFirst k ls

whole-by : (b : Bool) (is_right : SourceIns → Bool) (form : List (SourceIns → Bool)) (l : SourceLine) (ls : List SourceLine) → is_right l.ins ≡ b → Counts is_right → cond b (departing l.line form ls) (Some l.line) ≡ None → (departing l.line form ls ≡ None → HaveFirst (length form) ls) → HaveFirst (suc (length form)) (l ∷ ls)
whole-by true is_right form l ls right counts none rest = (counts l.ins right, rest none)
whole-by false is_right form l ls right counts none rest = cc

whole-first : (last : Line) (form : List (SourceIns → Bool)) (ls : List SourceLine) → AllCount form → departing last form ls ≡ None → HaveFirst (length form) ls
whole-first last [] ls all none = tt
whole-first last (p ∷ form) [] all none = cc
whole-first last (p ∷ form) (l ∷ ls) all none = whole-by (p l.ins) p form l ls refl all.0 none (whole-first l.line form ls all.1)

-- behind lines of an epilogue that are passed over
abbrev pub BodyWeighs : ℕ → ℕ → ℕ → Body → Type 0
BodyWeighs n skip total (broken line) = Unit {0}
BodyWeighs n skip total (whole gs) = (groups_weight n gs + skip ≤ total) × HaveNoReturn gs

passed-weighs : (n skip w total : ℕ) (b : Body) → w ≡ 1 → BodyWeighs n skip total b → BodyWeighs n (suc skip) (w + total) b
passed-weighs n skip w total (broken line) one h = tt
passed-weighs n skip w total (whole gs) one h =
    let fits : groups_weight n gs + skip ≤ total = h.0 in
    let more : groups_weight n gs + suc skip ≤ w + total = omega (arith, one, fits) in
    (more, h.1)

epilogue-weighs : (n w total at : ℕ) (line : Line) (b : Body) → w ≡ 1 → BodyWeighs n (3 + n) total b → BodyWeighs n 0 (w + total) (with_group at (epilogue line) b)
epilogue-weighs n w total at line (broken m) one h = tt
epilogue-weighs n w total at line (whole gs) one h =
    let fits : groups_weight n gs + (3 + n) ≤ total = h.0 in
    let more : 4 + n + groups_weight n gs + 0 ≤ w + total = omega (arith, one, fits) in
    (more, h.1)

single-weighs : (n total at : ℕ) (l : SourceLine) (b : Body) → is_return l.ins ≡ false → BodyWeighs n 0 total b → BodyWeighs n 0 (weight l.ins + total) (with_group at (single l) b)
single-weighs n total at l (broken m) other h = tt
single-weighs n total at l (whole gs) other h =
    let fits : groups_weight n gs + 0 ≤ total = h.0 in
    let more : weight l.ins + groups_weight n gs + 0 ≤ weight l.ins + total = omega (arith, fits) in
    (more, (other, h.1))

body-step : (n at : ℕ) (l : SourceLine) (ls : List SourceLine) (count : ℕ) (go : ℕ → Body) (skip : ℕ) (opens : Bool) (departure : Option Line) (returns : Bool) → count ≡ 4 + n → HaveFirst skip (l ∷ ls) → is_return l.ins ≡ returns → (departure ≡ None → HaveFirst count (l ∷ ls)) → ((more : ℕ) → HaveFirst more ls → BodyWeighs n more (lines_weight ls) (go more)) → BodyWeighs n skip (weight l.ins + lines_weight ls) (body_by at l count go skip opens departure returns)
body-step n at l ls count go (suc skip) opens departure returns long first is wholly each =
    passed-weighs n skip (weight l.ins) (lines_weight ls) (go skip) first.0 (each skip first.1)
body-step n at l ls count go zero true (Some line) returns long first is wholly each = tt
body-step n at l ls count go zero true None returns long first is wholly each =
    let e : count ≡ suc (3 + n) = omega (arith, long) in
    let less : count - 1 ≡ 3 + n = omega (arith, long) in
    let begins : HaveFirst (suc (3 + n)) (l ∷ ls) = subst (λ k. HaveFirst k (l ∷ ls)) e (wholly refl) in
    epilogue-weighs n (weight l.ins) (lines_weight ls) at l.line (go (count - 1)) begins.0
    (subst (λ k. BodyWeighs n k (lines_weight ls) (go (count - 1))) less (each (count - 1) (subst (λ k. HaveFirst k ls) (sym less) begins.1)))
body-step n at l ls count go zero false departure true long first is wholly each = tt
body-step n at l ls count go zero false departure false long first is wholly each = single-weighs n (lines_weight ls) at l (go 0) is (each 0 tt)

body-end : (frame : ℤ) (saved : List Reg) (at skip : ℕ) → HaveFirst skip [] → BodyWeighs (length saved) skip 0 (body_of frame saved at skip [])
body-end frame saved at zero first = (let none : 0 + 0 ≤ 0 = omega arith in none, tt)
body-end frame saved at (suc skip) first = absurd first

body_of-weighs : (frame : ℤ) (saved : List Reg) (at skip : ℕ) (ls : List SourceLine) → HaveFirst skip ls → BodyWeighs (length saved) skip (lines_weight ls) (body_of frame saved at skip ls)
body_of-weighs frame saved at skip [] first = body-end frame saved at skip first
body_of-weighs frame saved at skip (l ∷ ls) first =
    body-step (length saved) at l ls (length (epilogue_form frame saved)) (λ more. body_of frame saved (at + 1) more ls) skip (opens_epilogue l.ins) (departing l.line (epilogue_form frame saved) (l ∷ ls)) (is_return l.ins) (epilogue_form-length frame saved) first refl (whole-first l.line (epilogue_form frame saved) (l ∷ ls) (epilogue_form-count frame saved)) (λ more behind. body_of-weighs frame saved (at + 1) more ls behind)

-- ---- prologues

-- behind n lines of a prologue
abbrev pub OpeningWeighs : ℕ → ℕ → Opening → Type 0
OpeningWeighs n total (departs line) = Unit {0}
OpeningWeighs n total (opened frame saved rest) = n + length saved + lines_weight rest ≤ total

saved_by-fork : (frame : ℤ) (k : ℕ) (left : List Reg) (handle : Reg) → saved_by frame k left (source.Fork handle) ≡ None
saved_by-fork frame k [] handle = refl
saved_by-fork frame k (r ∷ rs) handle = saved_by-fork frame k rs handle

saved_by-counts : (frame : ℤ) (k : ℕ) (left : List Reg) (ins : SourceIns) (p : Reg × List Reg) → saved_by frame k left ins ≡ Some p → weight ins ≡ 1
saved_by-counts frame k left (source.Fork handle) p saves =
    let wrong : saved_by frame k left (source.Fork handle) ≡ None = saved_by-fork frame k left handle in
    cc
saved_by-counts frame k left _ p saves = refl

saved-weighs : (w total : ℕ) (r : Reg) (o : Opening) → w ≡ 1 → OpeningWeighs 1 total o → OpeningWeighs 1 (w + total) (with_saved r o)
saved-weighs w total r (departs line) one h = tt
saved-weighs w total r (opened frame saved rest) one h =
    let more : 1 + suc (length saved) + lines_weight rest ≤ w + total = omega (arith, one, h) in
    more

opens-weighs : (w : ℕ) (line : Line) (ls : List SourceLine) (frame : ℤ) (go : List Reg → Opening) (b : Bool) (o : Option (Reg × List Reg)) → (b ≡ true → w ≡ 1) → ((p : Reg × List Reg) → o ≡ Some p → w ≡ 1) → ((rest : List Reg) → OpeningWeighs 1 (lines_weight ls) (go rest)) → OpeningWeighs 1 (w + lines_weight ls) (open_by line ls frame go b o)
opens-weighs w line ls frame go true o sets saves each =
    let one : w ≡ 1 = sets refl in
    let more : 1 + 0 + lines_weight ls ≤ w + lines_weight ls = omega (arith, one) in
    more
opens-weighs w line ls frame go false None sets saves each = tt
opens-weighs w line ls frame go false (Some p) sets saves each = saved-weighs w (lines_weight ls) p.0 (go p.1) (saves p refl) (each p.1)

open_saved-weighs : (label : Line) (frame : ℤ) (k : ℕ) (left : List Reg) (ls : List SourceLine) → OpeningWeighs 1 (lines_weight ls) (open_saved label frame k left ls)
open_saved-weighs label frame k left [] = tt
open_saved-weighs label frame k left (l ∷ ls) =
    opens-weighs (weight l.ins) l.line ls frame (λ rest. open_saved label frame (k + 1) rest ls) (is_addi S0 Sp frame l.ins) (saved_by frame k left l.ins) (counts-by (is_addi S0 Sp frame) (λ handle. refl) l.ins) (saved_by-counts frame k left l.ins) (λ rest. open_saved-weighs label frame (k + 1) rest ls)

line-weighs : (n w total : ℕ) (b : Bool) (line : Line) (o : Opening) → (b ≡ true → w ≡ 1) → OpeningWeighs n total o → OpeningWeighs (n + 1) (w + total) (cond b o (departs line))
line-weighs n w total true line (departs m) counts h = tt
line-weighs n w total true line (opened frame saved rest) counts h =
    let one : w ≡ 1 = counts refl in
    let more : n + 1 + length saved + lines_weight rest ≤ w + total = omega (arith, one, h) in
    more
line-weighs n w total false line o counts h = tt

lines-weigh : (n : ℕ) (label : Line) (rest : List SourceLine → Opening) (is_right : SourceIns → Bool) (ls : List SourceLine) → Counts is_right → ((ms : List SourceLine) → OpeningWeighs n (lines_weight ms) (rest ms)) → OpeningWeighs (n + 1) (lines_weight ls) (open_lines label rest is_right ls)
lines-weigh n label rest is_right [] counts each = tt
lines-weigh n label rest is_right (l ∷ ls) counts each = line-weighs n (weight l.ins) (lines_weight ls) (is_right l.ins) l.line (rest ls) (counts l.ins) (each ls)

frame_of-counts : (ins : SourceIns) (frame : ℤ) → frame_of ins ≡ Some frame → weight ins ≡ 1
frame_of-counts (source.Fork handle) frame is = cc
frame_of-counts _ frame is = refl

first-weighs : (w total : ℕ) (o : Opening) → w ≡ 1 → OpeningWeighs 3 total o → OpeningWeighs 4 (w + total) o
first-weighs w total (departs line) one h = tt
first-weighs w total (opened frame saved rest) one h =
    let more : 4 + length saved + lines_weight rest ≤ w + total = omega (arith, one, h) in
    more

frame-weighs : (w : ℕ) (label first : Line) (ls : List SourceLine) (o : Option ℤ) → ((frame : ℤ) → o ≡ Some frame → w ≡ 1) → OpeningWeighs 4 (w + lines_weight ls) (open_frame label first ls o)
frame-weighs w label first ls None counts = tt
frame-weighs w label first ls (Some frame) counts =
    first-weighs w (lines_weight ls) _ (counts frame refl)
    (lines-weigh 2 label (open_lines label (open_saved label frame 0 saved_registers) (is_push S0 (frame -ℤ pos 16))) (is_push Ra (frame -ℤ pos 8)) ls (counts-by (is_push Ra (frame -ℤ pos 8)) (λ handle. refl))
    (λ ms. lines-weigh 1 label (open_saved label frame 0 saved_registers) (is_push S0 (frame -ℤ pos 16)) ms (counts-by (is_push S0 (frame -ℤ pos 16)) (λ handle. refl)) (λ ns. open_saved-weighs label frame 0 saved_registers ns)))

opening_of-weighs : (label : Line) (ls : List SourceLine) → OpeningWeighs 4 (lines_weight ls) (opening_of label ls)
opening_of-weighs label [] = tt
opening_of-weighs label (l ∷ ls) = frame-weighs (weight l.ins) label l.line ls (frame_of l.ins) (frame_of-counts l.ins)

-- ---- shapes

abbrev pub ShapeWeighs : ℕ → Shape → Type 0
ShapeWeighs total (faulty fault) = Unit {0}
ShapeWeighs total (formed shape) = (4 + length shape.saved + groups_weight (length shape.saved) shape.groups ≤ total) × HaveNoReturn shape.groups

shape_by-weighs : (total rest : ℕ) (frame : ℤ) (saved : List Reg) (b : Body) → 4 + length saved + rest ≤ total → BodyWeighs (length saved) 0 rest b → ShapeWeighs total (shape_by frame saved b)
shape_by-weighs total rest frame saved (broken line) opens h = tt
shape_by-weighs total rest frame saved (whole gs) opens h =
    let fits : groups_weight (length saved) gs + 0 ≤ rest = h.0 in
    let more : 4 + length saved + groups_weight (length saved) gs ≤ total = omega (arith, opens, fits) in
    (more, h.1)

shape_when-weighs : (total rest : ℕ) (t : Bool) (first : Line) (frame : ℤ) (saved : List Reg) (b : Body) → 4 + length saved + rest ≤ total → BodyWeighs (length saved) 0 rest b → ShapeWeighs total (shape_when t first frame saved b)
shape_when-weighs total rest false first frame saved b opens h = tt
shape_when-weighs total rest true first frame saved b opens h = shape_by-weighs total rest frame saved b opens h

behind-weighs : (function : Function) (o : Opening) → OpeningWeighs 4 (lines_weight function.items) o → ShapeWeighs (lines_weight function.items) (shape_behind function o)
behind-weighs function (departs line) h = tt
behind-weighs function (opened frame saved rest) h =
    shape_when-weighs (lines_weight function.items) (lines_weight rest) (is_frame_size (length saved) function.slots frame) (first_line function.line function.items) frame saved (body_of frame saved (prologue_lines saved) 0 rest) h (body_of-weighs frame saved (prologue_lines saved) 0 rest tt)

pub shape_of-weighs : (function : Function) → ShapeWeighs (lines_weight function.items) (shape_of function)
unfolding shape_of
shape_of-weighs function = behind-weighs function (opening_of function.line function.items) (opening_of-weighs function.line function.items)
