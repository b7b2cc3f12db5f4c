-- The canonical text of a unit reads back as the unit (reads_back).
use Rattle.std.proofs.Common.{ℕ, ◌≡◌, ◌+◌, ◌<◌, ◌≤◌, Bool, true, false, ◌||◌, List, [], ◌∷◌, ◌++◌, length, refl, ap, ◌∙◌, arith, nat_lt, Some, None, Ok, Err, map, append-nil}
use Rattle.std.specs.Prelude.{All}
use Rattle.st_line.specs.declared.fault.AsmKind.TheVariants.{TooLarge}
use Rattle.st_line.specs.declared.source.Target.TheVariants as targets
use Rattle.st_asm.specs.declared.unit.Function.{Function}
use Rattle.st_asm.specs.Labels.{Located, lines_of, located, numbered, definitions_of}
use Rattle.st_asm.specs.Assembly.{Assembly, nothing, checked_lines, functions_in, parts_in, unit_from, too_long, unit_when, unit_of}
use Rattle.st_asm.specs.Unit.{IsUnit}
use Rattle.st_print.specs.Spots.{spots_of}
use Rattle.st_print.specs.Canonical.{spelled, lines_text, label_text, is_some_byte, have_address, names_data, needs_data, unit_lines, unit_text}
use Rattle.st_print.specs.Rereading.{names_of, AllNameThings, ReadsAgain, ReadsBack}
use Rattle.st_print.proofs.Lexing.{lines-text}
use Rattle.st_print.proofs.SpotsFound.{spots-tell, spots-below}
use Rattle.st_print.proofs.SaidLines.{unit_saids, read-apart, each-from, unit-read, sound-unit}
use Rattle.st_print.proofs.LabelsRead.{definitions_at, definitions-read, singles}
use Rattle.st_print.proofs.LabelsApart.{names-distinct, labels-distinct, labels-free}
use Rattle.st_print.proofs.LabelsMet.{label-met, all-known}
use Rattle.st_print.proofs.Running.{made, checked-lines, runs-end, lands}
use Rattle.st_print.proofs.Assembled.{IsMade, unit-runs}
use Rattle.st_print.proofs.Resolved.{resolved}

-- ---- one text

one-text : (text : List ℕ) → located 1 (text ∷ []) ≡ numbered 1 1 (lines_of text)
one-text text = append-nil (numbered 1 1 (lines_of text))

short-text : (text : List ℕ) → length text ≤ 1048576 → too_long 1 0 (text ∷ []) ≡ None
short-text text h = let t : nat_lt 1048576 (0 + length text) ≡ false = grind arith in rw t refl

long-text : (text : List ℕ) → 1048576 < length text → too_long 1 0 (text ∷ []) ≡ Some 1
long-text text h = let t : nat_lt 1048576 (0 + length text) ≡ true = grind arith in rw t refl

unit-short : (text : List ℕ) (ls : List Located) (a : Assembly) → length text ≤ 1048576 → numbered 1 1 (lines_of text) ≡ ls → checked_lines (definitions_of ls) nothing ls ≡ Ok a → unit_of (text ∷ []) ≡ Ok (parts_in a)
unfolding unit_of
unit-short text ls a h e c =
    ap (λ o. unit_when o (located 1 (text ∷ []))) (short-text text h)
    ∙ ap (λ x. unit_from (checked_lines (definitions_of x) nothing x)) (one-text text ∙ e)
    ∙ ap unit_from c

unit-long : (text : List ℕ) → 1048576 < length text → unit_of (text ∷ []) ≡ Err (record { line = record { file = 1; line = 1 }; kind = TooLarge })
unfolding unit_of
unit-long text h = ap (λ o. unit_when o (located 1 (text ∷ []))) (long-text text h)

text-lines : (functions : List Function) (rodata : List ℕ) → unit_text functions rodata ≡ lines_text (unit_lines functions rodata)
unfolding unit_text
text-lines functions rodata = refl

-- ---- data that isn't written is empty

empty-data : (rodata : List ℕ) (b c : Bool) → is_some_byte rodata || b || c ≡ false → rodata ≡ []
empty-data [] b c h = refl
empty-data (x ∷ bs) b c h = absurd (cc)

reads-short : (functions : List Function) (rodata : List ℕ) → IsUnit functions rodata → All (λ b. b < 256) rodata → length (unit_text functions rodata) ≤ 1048576 → AllNameThings functions → ReadsAgain functions rodata
reads-short functions rodata unit bytes short names_things =
    let spots = spots_of functions rodata in
    let names = names_of functions in
    let needed = needs_data functions rodata in
    let lines = unit_lines functions rodata in
    let saids = unit_saids needed spots functions rodata in
    let few = spots-below functions rodata short in
    let sound = sound-unit functions rodata few unit names_things in
    let read = unit-read functions rodata few sound (each-from (λ b. b < 256) rodata bytes) in
    let defined = definitions-read lines saids 1 read in
    let single = singles 1 saids (labels-distinct names spots few needed functions rodata sound (names-distinct functions unit.distinct)) (labels-free names spots needed functions rodata sound) in
    let known = all-known functions rodata sound in
    let runs = unit-runs functions spots few names rodata unit.bytes unit.instructions sound
    (λ m i g e fits. spots-tell functions rodata (targets.Place m i) (g, e, fits))
    needed (empty-data rodata (have_address functions) (names_data spots)) in
    let end = runs-end 1 saids nothing (IsMade functions spots rodata) runs in
    let a = made 1 saids nothing in
    let ls = numbered 1 1 (map spelled lines ++ [] ∷ []) in
    let text : numbered 1 1 (lines_of (unit_text functions rodata)) ≡ ls =
    ap (λ t. numbered 1 1 (lines_of t)) (text-lines functions rodata) ∙ ap (numbered 1 1) (lines-text lines (read-apart lines saids read)) in
    let checked : checked_lines (definitions_of ls) nothing ls ≡ Ok a =
    ap (λ ds. checked_lines ds nothing ls) defined
    ∙ checked-lines (definitions_at 1 saids) lines saids 1 nothing (IsMade functions spots rodata) read (omega arith) refl single known refl runs in
    record {
      parts = parts_in a;
      read = unit-short (unit_text functions rodata) ls a short text checked;
      same = resolved functions names spots a.labels end.labels (λ p k h. lands 1 saids nothing (IsMade functions spots rodata) runs (label_text k) (label-met functions rodata p k h)) 0 functions (functions_in a) sound end.whole;
      bytes = end.bytes;
    }

pub reads_back : (functions : List Function) (rodata : List ℕ) → IsUnit functions rodata → All (λ b. b < 256) rodata → ReadsBack functions rodata
reads_back functions rodata unit bytes = record {
  short = reads-short functions rodata unit bytes;
  long = unit-long (unit_text functions rodata);
}
