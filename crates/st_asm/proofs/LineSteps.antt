-- One line of those that are checked: its fault is the fault of all (checked_lines-fails), and what it makes goes on (checked_lines-goes_on).
use Rattle.std.proofs.Common.{ℕ, ◌≡◌, ◌+◌, ◌<◌, List, ◌∷◌, Result, Ok, Err, ap, sym, ◌∙◌, drop, length, get_or, add-one}
use Rattle.std.proofs.Math.Seq.{drop-cons}
use Rattle.st_base.specs.declared.line.Line.{Line}
use Rattle.st_line.specs.declared.fault.AsmKind.{AsmKind}
use Rattle.st_line.specs.declared.fault.AsmFault.{AsmFault}
use Rattle.st_base.specs.declared.failure.Failure.{Failure}
use Rattle.st_base.specs.declared.failure.Failure.TheVariants as errors
use Rattle.st_asm.specs.declared.lines.Located.{Located as Located'}
use Rattle.st_asm.specs.Labels.{Definition}
use Rattle.st_asm.specs.Assembly.{Assembly, checked_line, checked_lines, then_lines}
use Rattle.st_asm.specs.Reading.{FailsAt, at_line, located_view, located_views}

fails : (line : Line) (rest : Assembly → Result Assembly AsmFault) (r : Result Assembly AsmKind) (fault : AsmFault) → at_line line r ≡ Err fault → then_lines line rest r ≡ Err fault
fails line rest (Ok a) fault e = cc
fails line rest (Err kind) fault e = cc

goes_on : (line : Line) (rest : Assembly → Result Assembly AsmFault) (r : Result Assembly AsmKind) (b : Assembly) → at_line line r ≡ Ok b → then_lines line rest r ≡ rest b
goes_on line rest (Ok a) b e = let same : a ≡ b = cc in ap rest same
goes_on line rest (Err kind) b e = cc

located_views-drop : (ls : List Located') (i : ℕ) (d : Located') → i < length ls → located_views (drop i ls) ≡ located_view (get_or ls i d) ∷ located_views (drop (i + 1) ls)
located_views-drop ls i d h = ap located_views (drop-cons ls i d h) ∙ ap (λ (k : ℕ). located_view (get_or ls i d) ∷ located_views (drop k ls)) (sym (add-one i))

pub checked_lines-fails : (e : Failure AsmFault) (ds : List Definition) (a : Assembly) (ls : List Located') (i : ℕ) (d : Located') → i < length ls → FailsAt e (at_line (get_or ls i d).line (checked_line ds a (located_view (get_or ls i d)))) → FailsAt e (checked_lines ds a (located_views (drop i ls)))
checked_lines-fails errors.OutOfMemory ds a ls i d h f = tt
checked_lines-fails (errors.Fault fault) ds a ls i d h f =
    ap (checked_lines ds a) (located_views-drop ls i d h) ∙ fails (get_or ls i d).line (λ b. checked_lines ds b (located_views (drop (i + 1) ls))) (checked_line ds a (located_view (get_or ls i d))) fault f

pub checked_lines-goes_on : (ds : List Definition) (a b : Assembly) (ls : List Located') (i : ℕ) (d : Located') → i < length ls → at_line (get_or ls i d).line (checked_line ds a (located_view (get_or ls i d))) ≡ Ok b → checked_lines ds a (located_views (drop i ls)) ≡ checked_lines ds b (located_views (drop (i + 1) ls))
checked_lines-goes_on ds a b ls i d h f =
    ap (checked_lines ds a) (located_views-drop ls i d h) ∙ goes_on (get_or ls i d).line (λ b. checked_lines ds b (located_views (drop (i + 1) ls))) (checked_line ds a (located_view (get_or ls i d))) b f

-- the fault of what is left is the fault of all
pub fails_along : (e : Failure AsmFault) (r s : Result Assembly AsmFault) → r ≡ s → FailsAt e r → FailsAt e s
fails_along errors.OutOfMemory r s same f = tt
fails_along (errors.Fault fault) r s same f = sym same ∙ f
