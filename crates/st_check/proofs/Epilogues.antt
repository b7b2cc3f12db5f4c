-- Epilogues line by line.
use Rattle.std.proofs.Common.{◌≡◌, ◌∙◌, ℕ, ◌+◌, ◌*◌, ◌<◌, ◌≤◌, Bool, List, [], ◌∷◌, ◌++◌, refl, ap, sym, append_assoc, add-one, length, drop, get_or, Some}
use Rattle.std.proofs.lemmas.List.{map-append}
use Rattle.std.proofs.Math.Seq.{drop-cons}
use Rattle.st_base.specs.declared.line.Line.{Line}
use Rattle.st_base.specs.declared.reg.Reg.{Reg}
use Rattle.st_asm.specs.declared.unit.SourceLine.{SourceLine}
use Rattle.st_check.specs.declared.instruction.Test.{Test}
use Rattle.st_check.specs.declared.instruction.Test.TheVariants.{Pop, Return}
use Rattle.st_check.specs.Views.{test_of, tests_of}
use Rattle.st_check.proofs.Drops.{drop-past}
use Rattle.std.specs.Prelude.{ℤ, pos, ◌-ℤ◌}
use Rattle.st_base.specs.declared.reg.Reg.TheVariants.{Ra, S0}
use Rattle.st_line.specs.declared.source.SourceIns.{SourceIns}
use Rattle.st_check.specs.Shape.{is_pop, restores, departing}

-- the return word and the caller's s0 come before
abbrev pub pops_before : ℤ → List (SourceIns → Bool) → List (SourceIns → Bool)
pops_before frame form = is_pop Ra (frame -ℤ pos 8) ∷ is_pop S0 (frame -ℤ pos 16) ∷ form

-- one more register is restored
pub restores-more : (frame : ℤ) (k : ℕ) (saved : List Reg) (form : List Test) (d : Reg) → k < length saved → tests_of frame (form ++ Pop (get_or saved k d) (24 + 8 * k) ∷ []) ++ restores frame (k + 1) (drop (k + 1) saved) ≡ tests_of frame form ++ restores frame k (drop k saved)
restores-more frame k saved form d inside =
    ap (λ t. t ++ restores frame (k + 1) (drop (k + 1) saved)) (map-append (test_of frame) form (Pop (get_or saved k d) (24 + 8 * k) ∷ []))
    ∙ append_assoc (tests_of frame form) (tests_of frame (Pop (get_or saved k d) (24 + 8 * k) ∷ [])) (restores frame (k + 1) (drop (k + 1) saved))
    ∙ ap (λ t. tests_of frame form ++ restores frame k t) (ap (λ i. get_or saved k d ∷ drop i saved) (add-one k) ∙ sym (drop-cons saved k d inside))

-- lines that end before their form
pub departing-ends : (frame : ℤ) (last : Line) (form : List Test) (lines : List SourceLine) (k : ℕ) → k < length form → length lines ≤ k → departing last (tests_of frame (drop k form)) (drop k lines) ≡ Some last
departing-ends frame last form lines k inside past = rw (drop-cons form k Return inside, drop-past lines k past) refl
