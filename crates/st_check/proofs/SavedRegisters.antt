-- The registers that a prologue saves are some of s1 to s11, in their order (opening-among).
use Rattle.std.proofs.Common.{inl, inr, ℕ, ◌+◌, Bool, true, false, List, [], ◌∷◌, refl, cond, Option, Some, None}
use Rattle.std.specs.Prelude.{ℤ}
use Rattle.st_base.specs.declared.line.Line.{Line}
use Rattle.st_base.specs.declared.reg.Reg.{Reg}
use Rattle.st_base.specs.declared.reg.Reg.TheVariants.{S0, Sp}
use Rattle.st_line.specs.declared.source.SourceIns.{SourceIns}
use Rattle.st_asm.specs.declared.unit.SourceLine.{SourceLine}
use Rattle.st_check.specs.Shape.{is_addi, is_push, saved_place, saved_by, Opening, departs, opened, with_saved, open_by, open_saved}
use Rattle.st_check.proofs.SavedBits.{AreAmong}

-- registers of an opening
abbrev pub SavesAmong : List Reg → Opening → Type 0
SavesAmong left (departs line) = Unit {0}
SavesAmong left (opened frame saved rest) = AreAmong saved left

-- a register that a line saves, and those behind it, are among the registers left
abbrev pub FindsAmong : List Reg → Option (Reg × List Reg) → Type 0
FindsAmong left None = Unit {0}
FindsAmong left (Some p) = (rs : List Reg) → AreAmong rs p.1 → AreAmong (p.0 ∷ rs) left

later : (r : Reg) (left : List Reg) (o : Option (Reg × List Reg)) → FindsAmong left o → FindsAmong (r ∷ left) o
later r left None h = tt
later r left (Some p) h = λ rs among. inr (h rs among)

found : (b : Bool) (r : Reg) (rs : List Reg) (o : Option (Reg × List Reg)) → FindsAmong rs o → FindsAmong (r ∷ rs) (cond b (Some (r, rs)) o)
found true r rs o h = λ ss among. inl (refl, among)
found false r rs o h = later r rs o h

saved_by-among : (frame : ℤ) (k : ℕ) (left : List Reg) (ins : SourceIns) → FindsAmong left (saved_by frame k left ins)
saved_by-among frame k [] ins = tt
saved_by-among frame k (r ∷ rs) ins = found (is_push r (saved_place frame k) ins) r rs _ (saved_by-among frame k rs ins)

saves : (left : List Reg) (r : Reg) (rest : List Reg) (o : Opening) → ((rs : List Reg) → AreAmong rs rest → AreAmong (r ∷ rs) left) → SavesAmong rest o → SavesAmong left (with_saved r o)
saves left r rest (departs line) find h = tt
saves left r rest (opened frame saved behind) find h = find saved h

opens : (line : Line) (ls : List SourceLine) (frame : ℤ) (go : List Reg → Opening) (left : List Reg) (b : Bool) (o : Option (Reg × List Reg)) → FindsAmong left o → ((rest : List Reg) → SavesAmong rest (go rest)) → SavesAmong left (open_by line ls frame go b o)
opens line ls frame go left true o find each = tt
opens line ls frame go left false None find each = tt
opens line ls frame go left false (Some p) find each = saves left p.0 p.1 (go p.1) find (each p.1)

pub open_saved-among : (label : Line) (frame : ℤ) (k : ℕ) (left : List Reg) (ls : List SourceLine) → SavesAmong left (open_saved label frame k left ls)
open_saved-among label frame k left [] = tt
open_saved-among label frame k left (l ∷ ls) =
    opens l.line ls frame (λ rest. open_saved label frame (k + 1) rest ls) left (is_addi S0 Sp frame l.ins) (saved_by frame k left l.ins) (saved_by-among frame k left l.ins) (λ rest. open_saved-among label frame (k + 1) rest ls)
