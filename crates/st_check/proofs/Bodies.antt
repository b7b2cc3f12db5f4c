-- Bodies line by line.
use Rattle.std.proofs.Common.{◌≡◌, ◌∙◌, ℕ, zero, suc, ◌+◌, ◌-◌, List, [], ◌∷◌, ◌++◌, refl, ap, sym, append_assoc, length, drop, get_or, ◌<◌, arith, add-one, Result, Ok}
use Rattle.std.proofs.lemmas.List.{map-append, length-map}
use Rattle.std.proofs.Math.Seq.{drop-cons}
use Rattle.std.specs.Prelude.{ℤ}
use Rattle.st_base.specs.declared.line.Line.{Line}
use Rattle.st_base.specs.declared.reg.Reg.{Reg}
use Rattle.st_asm.specs.declared.unit.SourceLine.{SourceLine}
use Rattle.st_check.specs.Shape.{Body, broken, whole, Group, with_group, epilogue_form, departing, is_return, opens_epilogue, body_by, body_of}
use Rattle.st_check.specs.declared.instruction.Test.{Test}
use Rattle.st_check.specs.declared.body.Group.{Group as Group'}
use Rattle.st_check.specs.declared.body.Placed.{Placed}
use Rattle.st_check.specs.Views.{tests_of, group_view, placed_view, groups_view, lines_more, after_group}
use Rattle.st_check.proofs.Drops.{drop-read}

-- groups before those of a body
abbrev pub with_groups : List (ℕ × Group) → Body → Body
with_groups gs (broken line) = broken line
with_groups gs (whole hs) = whole (gs ++ hs)

pub with_groups-more : (gs : List (ℕ × Group)) (at : ℕ) (g : Group) (b : Body) → with_groups gs (with_group at g b) ≡ with_groups (gs ++ (at, g) ∷ []) b
with_groups-more gs at g (broken line) = refl
with_groups-more gs at g (whole hs) = ap whole (sym (append_assoc gs ((at, g) ∷ []) hs))

-- a line in an epilogue
pub body_of-skips : (frame : ℤ) (saved : List Reg) (at skip : ℕ) (items : List SourceLine) → at < length items → 0 < skip → body_of frame saved at skip (drop at items) ≡ body_of frame saved (at + 1) (skip - 1) (drop (at + 1) items)
body_of-skips frame saved at zero items inside some = absurd (omega arith)
body_of-skips frame saved at (suc skip) [] inside some = absurd (omega arith)
body_of-skips frame saved at (suc skip) (x ∷ xs) inside some =
    let e : skip ≡ suc skip - 1 = omega arith in
    ap (body_of frame saved at (suc skip)) (drop-cons (x ∷ xs) at x inside) ∙ (λ j. body_of frame saved (at + 1) (e j) (drop (sym (add-one at) j) (x ∷ xs)))

-- a line that begins a group, or has the fault of an epilogue
pub body_of-begins : (frame : ℤ) (saved : List Reg) (at : ℕ) (items : List SourceLine) (form : List Test) (l : SourceLine) (r : Result Group' Line) → at < length items → l ≡ get_or items at l → tests_of frame form ≡ epilogue_form frame saved → ((go : ℕ → Body) → body_by at l (length form) go 0 (opens_epilogue l.ins) (departing l.line (tests_of frame form) (drop at items)) (is_return l.ins) ≡ after_group at (length form) go r) → body_of frame saved at 0 (drop at items) ≡ after_group at (length form) (λ more. body_of frame saved (at + 1) more (drop (at + 1) items)) r
body_of-begins frame saved at items form l r inside here same groups =
    let read : drop at items ≡ l ∷ drop (at + 1) items = drop-read items at l inside here in
    let long : length (epilogue_form frame saved) ≡ length form = ap length (sym same) ∙ simp length-map in
    ap (body_of frame saved at 0) read
    ∙ (λ j. body_by at l (long j) (λ more. body_of frame saved (at + 1) more (drop (at + 1) items)) 0 (opens_epilogue l.ins) (departing l.line (sym same j) (sym read j)) (is_return l.ins))
    ∙ groups (λ more. body_of frame saved (at + 1) more (drop (at + 1) items))

-- a group more
pub groups-more : (gs : List Placed) (at : ℕ) (g : Group') (b : Body) → with_groups (groups_view gs) (with_group at (group_view g) b) ≡ with_groups (groups_view (gs ++ record { at = at; group = g } ∷ [])) b
groups-more gs at g b =
    with_groups-more (groups_view gs) at (group_view g) b ∙ ap (λ hs. with_groups hs b) (sym (map-append placed_view gs (record { at = at; group = g } ∷ [])))

-- the body goes on behind a group
pub body-goes_on : (frame : ℤ) (saved : List Reg) (at skip : ℕ) (items : List SourceLine) (form : List Test) (l : SourceLine) (g : Group') (gs hs : List Placed) → at < length items → l ≡ get_or items at l → tests_of frame form ≡ epilogue_form frame saved → ((go : ℕ → Body) → body_by at l (length form) go 0 (opens_epilogue l.ins) (departing l.line (tests_of frame form) (drop at items)) (is_return l.ins) ≡ after_group at (length form) go (Ok g)) → skip ≡ lines_more (length form) g → hs ≡ gs ++ record { at = at; group = g } ∷ [] → with_groups (groups_view gs) (body_of frame saved at 0 (drop at items)) ≡ with_groups (groups_view hs) (body_of frame saved (at + 1) skip (drop (at + 1) items))
body-goes_on frame saved at skip items form l g gs hs inside here same groups more grown =
    ap (with_groups (groups_view gs)) (body_of-begins frame saved at items form l (Ok g) inside here same groups)
    ∙ groups-more gs at g (body_of frame saved (at + 1) (lines_more (length form) g) (drop (at + 1) items))
    ∙ (λ j. with_groups (groups_view (sym grown j)) (body_of frame saved (at + 1) (sym more j) (drop (at + 1) items)))
