-- Steps of a prologue: a register that a line doesn't save is passed over (saved_by-skips), and one that it saves is found (saved_by-finds).
use Rattle.std.proofs.Common.{◌≡◌, ℕ, ◌+◌, true, false, List, [], ◌∷◌, ◌++◌, refl, ap, sym, append_assoc, append-nil, ◌<◌, arith, length, get_or, drop, Some, None}
use Rattle.std.specs.Prelude.{ℤ}
use Rattle.st_base.specs.declared.reg.Reg.{Reg}
use Rattle.st_line.specs.declared.source.SourceIns.{SourceIns}
use Rattle.st_base.specs.declared.line.Line.{Line}
use Rattle.st_base.specs.declared.reg.Reg.TheVariants.{S0, Sp}
use Rattle.st_asm.specs.declared.unit.SourceLine.{SourceLine}
use Rattle.st_check.specs.Shape.{is_addi, is_push, saved_place, saved_by, Opening, departs, opened, with_saved, open_saved, frame_of, open_frame, opening_of}

pub saved_by-skips : (frame : ℤ) (k : ℕ) (r : Reg) (rs : List Reg) (ins : SourceIns) (place : ℤ) → place ≡ saved_place frame k → is_push r place ins ≡ false → saved_by frame k (r ∷ rs) ins ≡ saved_by frame k rs ins
saved_by-skips frame k r rs ins place e h = rw (← e, h) refl

pub saved_by-finds : (frame : ℤ) (k : ℕ) (r : Reg) (rs : List Reg) (ins : SourceIns) (place : ℤ) → place ≡ saved_place frame k → is_push r place ins ≡ true → saved_by frame k (r ∷ rs) ins ≡ Some (r, rs)
saved_by-finds frame k r rs ins place e h = rw (← e, h) refl

-- registers that were saved before those of an opening
abbrev pub with_all_saved : List Reg → Opening → Opening
with_all_saved rs (departs line) = departs line
with_all_saved rs (opened frame saved rest) = opened frame (rs ++ saved) rest

with_all_saved-more : (rs : List Reg) (r : Reg) (o : Opening) → with_all_saved rs (with_saved r o) ≡ with_all_saved (rs ++ r ∷ []) o
with_all_saved-more rs r (departs line) = refl
with_all_saved-more rs r (opened frame saved rest) = ap (λ ss. opened frame ss rest) (sym (append_assoc rs (r ∷ []) saved))

with_all_saved-none : (o : Opening) → with_all_saved [] o ≡ o
with_all_saved-none (departs line) = refl
with_all_saved-none (opened frame saved rest) = refl

pub open_saved-saves : (label : Line) (frame : ℤ) (k : ℕ) (left : List Reg) (l : SourceLine) (ls : List SourceLine) (rs : List Reg) (r : Reg) (rest : List Reg) → is_addi S0 Sp frame l.ins ≡ false → saved_by frame k left l.ins ≡ Some (r, rest) → with_all_saved rs (open_saved label frame k left (l ∷ ls)) ≡ with_all_saved (rs ++ r ∷ []) (open_saved label frame (k + 1) rest ls)
open_saved-saves label frame k left l ls rs r rest e s = rw (e, s) (with_all_saved-more rs r (open_saved label frame (k + 1) rest ls))

pub open_saved-ends : (label : Line) (frame : ℤ) (k : ℕ) (left : List Reg) (l : SourceLine) (ls : List SourceLine) (rs : List Reg) → is_addi S0 Sp frame l.ins ≡ true → with_all_saved rs (open_saved label frame k left (l ∷ ls)) ≡ opened frame rs ls
open_saved-ends label frame k left l ls rs e = rw e (ap (λ ss. opened frame ss ls) (append-nil rs))

pub open_saved-departs : (label : Line) (frame : ℤ) (k : ℕ) (left : List Reg) (l : SourceLine) (ls : List SourceLine) (rs : List Reg) → is_addi S0 Sp frame l.ins ≡ false → saved_by frame k left l.ins ≡ None → with_all_saved rs (open_saved label frame k left (l ∷ ls)) ≡ departs l.line
open_saved-departs label frame k left l ls rs e s = rw (e, s) refl

pub opening_of-read : (label : Line) (items : List SourceLine) (l : SourceLine) (frame : ℤ) → 0 < length items → l ≡ get_or items 0 l → frame_of l.ins ≡ Some frame → opening_of label items ≡ open_frame label l.line (drop 1 items) (Some frame)
opening_of-read label [] l frame inside here e = absurd (omega arith)
opening_of-read label (x ∷ xs) l frame inside here e = rw (sym here) (rw e refl)
