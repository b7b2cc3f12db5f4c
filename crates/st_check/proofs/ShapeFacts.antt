-- What a function whose prologue, frame and epilogues have no fault is (shape_of-has): its saved registers are some of s1 to s11 in order,
-- its frame's size is right, and the bits of its saved registers are few (saved_bits-few).
use Rattle.std.proofs.Common.{◌≡◌, ◌∙◌, ℕ, ◌*◌, ◌^◌, ◌<◌, Bool, true, false, List, [], ◌∷◌, refl, ap, sym, subst, cond, length, Option, Some, None, arith}
use Rattle.st_check.specs.declared.shape.Shape.{Shape as Shape'}
use Rattle.st_check.specs.declared.shape.Shape.TheVariants as shapes
use Rattle.st_check.specs.Views.{shape_view, ShapeHasBits}
use Rattle.std.specs.Prelude.{ℤ, pos, negsuc, count_ones}
use Rattle.std.specs.Simd.Lanes.{mask_l}
use Rattle.std.proofs.lemmas.Simd.{mask_l-lt}
use Rattle.st_base.specs.declared.line.Line.{Line}
use Rattle.st_base.specs.declared.reg.Reg.{Reg}
use Rattle.st_asm.specs.declared.unit.SourceLine.{SourceLine}
use Rattle.st_asm.specs.declared.unit.Function.{Function}
use Rattle.st_line.specs.declared.source.SourceIns.{SourceIns}
use Rattle.st_check.specs.Shape.{saved_registers, Opening, departs, opened, open_lines, open_frame, frame_of, opening_of, Body, broken, whole, Shape, faulty, formed, is_frame_size, magnitude, shape_when, shape_by, shape_behind, shape_of, first_line, body_of, prologue_lines}
use Rattle.st_check.specs.Programs.{saved_bits}
use Rattle.st_check.proofs.SavedBits.{AreAmong, saved-mask, saved_registers-bits}
use Rattle.st_check.proofs.SavedRegisters.{SavesAmong, open_saved-among}

line-among : (b : Bool) (line : Line) (o : Opening) → SavesAmong saved_registers o → SavesAmong saved_registers (cond b o (departs line))
line-among true line o h = h
line-among false line o h = tt

lines-among : (label : Line) (rest : List SourceLine → Opening) (is_right : SourceIns → Bool) (ls : List SourceLine) → ((ms : List SourceLine) → SavesAmong saved_registers (rest ms)) → SavesAmong saved_registers (open_lines label rest is_right ls)
lines-among label rest is_right [] each = tt
lines-among label rest is_right (l ∷ ls) each = line-among (is_right l.ins) l.line (rest ls) (each ls)

frame-among : (label first : Line) (ls : List SourceLine) (frame : Option ℤ) → SavesAmong saved_registers (open_frame label first ls frame)
frame-among label first ls None = tt
frame-among label first ls (Some frame) =
    lines-among label _ _ ls (λ ms. lines-among label _ _ ms (λ ns. open_saved-among label frame 0 saved_registers ns))

opening_of-among : (label : Line) (ls : List SourceLine) → SavesAmong saved_registers (opening_of label ls)
opening_of-among label [] = tt
opening_of-among label (l ∷ ls) = frame-among label l.line ls (frame_of l.ins)

pub record HasFrameOf (saved : List Reg) (h frame : ℕ) : Type 0 where
  pub among : AreAmong saved saved_registers
  pub size : is_frame_size (length saved) h (pos frame) ≡ true

abbrev pub HasShape : ℕ → Shape → Type 0
HasShape h (faulty fault) = Unit {0}
HasShape h (formed shape) = HasFrameOf shape.saved h shape.frame

frame-size : (n h : ℕ) (frame : ℤ) → is_frame_size n h frame ≡ true → is_frame_size n h (pos (magnitude frame)) ≡ true
frame-size n h (pos frame) e = e
frame-size n h (negsuc frame) e = cc

body-has : (h : ℕ) (frame : ℤ) (saved : List Reg) (body : Body) → AreAmong saved saved_registers → is_frame_size (length saved) h frame ≡ true → HasShape h (shape_by frame saved body)
body-has h frame saved (broken line) among size = tt
body-has h frame saved (whole groups) among size = record { among = among; size = frame-size (length saved) h frame size }

when-has : (h : ℕ) (b : Bool) (first : Line) (frame : ℤ) (saved : List Reg) (body : Body) → AreAmong saved saved_registers → is_frame_size (length saved) h frame ≡ b → HasShape h (shape_when b first frame saved body)
when-has h false first frame saved body among size = tt
when-has h true first frame saved body among size = body-has h frame saved body among size

behind-has : (function : Function) (o : Opening) → SavesAmong saved_registers o → HasShape function.slots (shape_behind function o)
behind-has function (departs line) among = tt
behind-has function (opened frame saved rest) among = when-has function.slots (is_frame_size (length saved) function.slots frame) (first_line function.line function.items) frame saved (body_of frame saved (prologue_lines saved) 0 rest) among refl

pub shape_of-has : (function : Function) → HasShape function.slots (shape_of function)
unfolding shape_of
shape_of-has function = behind-has function (opening_of function.line function.items) (opening_of-among function.line function.items)

pub saved_bits-few : (saved : List Reg) → AreAmong saved saved_registers → saved_bits saved < 2048
saved_bits-few saved among =
    let m = saved-mask 0 saved saved_registers among saved_registers-bits in
    let small : mask_l m.bits < 2 ^ length m.bits = mask_l-lt m.bits in
    let long : 2 ^ length m.bits ≡ 2048 = ap (λ k. 2 ^ k) m.long in
    let total : saved_bits saved ≡ 2 ^ 0 * mask_l m.bits = m.total in
    omega (arith, small, long, total)

pub saved_bits-ones : (saved : List Reg) → AreAmong saved saved_registers → count_ones (saved_bits saved) ≡ length saved
saved_bits-ones saved among =
    let m = saved-mask 0 saved saved_registers among saved_registers-bits in
    let total : saved_bits saved ≡ 2 ^ 0 * mask_l m.bits = m.total in
    let same : saved_bits saved ≡ mask_l m.bits = omega (arith, total) in
    ap count_ones same ∙ m.ones

pub view-bits : (h : ℕ) (s : Shape') (t : Shape) → shape_view s ≡ t → HasShape h t → ShapeHasBits s
view-bits h (shapes.Faulty line kind) t e has = tt
view-bits h (shapes.Formed f) t e has =
    let here : HasShape h (shape_view (shapes.Formed f)) = subst (HasShape h) (sym e) has in
    saved_bits-few f.saved.items here.among
