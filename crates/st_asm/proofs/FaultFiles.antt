-- A fault is told at a line of one of the files: has_file-from_unit.
use Rattle.std.proofs.Common.{ℕ, ◌≡◌, ◌+◌, ◌≤◌, ◌<◌, nat_lt, true, false, List, [], ◌∷◌, length, Option, Some, None, Result, Ok, Err, refl, subst, cond, arith, All}
use Rattle.std.proofs.lemmas.List.Elements.{All-nil, All-cons, All-head, All-tail, All-append, All-weaker}
use Rattle.st_base.specs.declared.line.Line.{Line}
use Rattle.st_line.specs.declared.fault.AsmKind.{AsmKind}
use Rattle.st_line.specs.declared.fault.AsmKind.TheVariants.{TooLarge}
use Rattle.st_line.specs.declared.fault.AsmFault.{AsmFault}
use Rattle.st_base.specs.declared.failure.Failure.{Failure}
use Rattle.st_base.specs.declared.failure.Failure.TheVariants as errors
use Rattle.st_asm.specs.declared.whole.Unit.{Unit as Whole}
use Rattle.st_asm.specs.Labels.{Located, Definition, lines_of, numbered, located, definitions_of}
use Rattle.st_asm.specs.Assembly.{Assembly, nothing, checked_line, checked_lines, then_lines, unit_from, unit_when, unit_of, too_long}
use Rattle.st_asm.specs.Reading.{GivesUnit, HasFile}

-- a line of a file from this one on, before another
pub record IsBetween (from end : ℕ) (line : Line) : Type 0 where
  pub low : from ≤ line.file
  pub high : line.file < end

numbered-file : (from end file n : ℕ) (ts : List (List ℕ)) → from ≤ file → file < end → All (λ l. IsBetween from end l.line) (numbered file n ts)
numbered-file from end file n [] low high = All-nil (λ (l : Located). IsBetween from end l.line)
numbered-file from end file n (t ∷ ts) low high = All-cons (λ (l : Located). IsBetween from end l.line) _ (numbered file (n + 1) ts) (record { low = low; high = high }) (numbered-file from end file (n + 1) ts low high)

located-files : (from : ℕ) (texts : List (List ℕ)) → All (λ l. IsBetween from (from + length texts) l.line) (located from texts)
located-files from [] = All-nil (λ (l : Located). IsBetween from (from + 0) l.line)
located-files from (t ∷ ts) =
    All-append (λ (l : Located). IsBetween from (from + length (t ∷ ts)) l.line) (numbered from 1 (lines_of t)) (located (from + 1) ts)
    (numbered-file from (from + length (t ∷ ts)) from 1 (lines_of t) (omega arith) (omega arith))
    (All-weaker (λ (l : Located). IsBetween (from + 1) (from + 1 + length ts) l.line) (λ (l : Located). IsBetween from (from + length (t ∷ ts)) l.line)
    (λ l h. record { low = let b = h.low in omega arith; high = let b = h.high in omega arith }) (located (from + 1) ts) (located-files (from + 1) ts))

then_lines-fault : (P : Line → Type 0) (line : Line) (rest : Assembly → Result Assembly AsmFault) (r : Result Assembly AsmKind) (fault : AsmFault) → P line → ((a : Assembly) → rest a ≡ Err fault → P fault.line) → then_lines line rest r ≡ Err fault → P fault.line
then_lines-fault P line rest (Ok a) fault h k e = k a e
then_lines-fault P line rest (Err kind) fault h k e = let same : ◌≡◌ {A = AsmFault} (record { line = line; kind = kind }) fault = cc in subst (λ (f : AsmFault). P f.line) same h

checked_lines-fault : (P : Line → Type 0) (ds : List Definition) (a : Assembly) (ls : List Located) (fault : AsmFault) → All (λ l. P l.line) ls → checked_lines ds a ls ≡ Err fault → P fault.line
checked_lines-fault P ds a [] fault h e = let no : ⊥ = cc in absurd no
checked_lines-fault P ds a (l ∷ ls) fault h e =
    let Q : Located → Type 0 = λ l. P l.line in
    then_lines-fault P l.line (λ b. checked_lines ds b ls) (checked_line ds a l) fault (All-head Q l ls h) (λ b s. checked_lines-fault P ds b ls fault (All-tail Q l ls h) s) e

too_long-file : (from before : ℕ) (texts : List (List ℕ)) (file : ℕ) → too_long from before texts ≡ Some file → (from ≤ file) × (file < from + length texts)
too_long-file from before [] file e = let no : ⊥ = cc in absurd no
too_long-file from before (t ∷ ts) file e =
    (elim (nat_lt 1048576 (before + length t)) as (λ b. cond b (Some from) (too_long (from + 1) (before + length t) ts) ≡ Some file → (from ≤ file) × (file < from + length (t ∷ ts))) [
      | true ↦ λ s. let same : from ≡ file = cc in (omega arith, omega arith)
      | false ↦ λ s. let h = too_long-file (from + 1) (before + length t) ts file s in let low = h.0 in let high = h.1 in (omega arith, omega arith)
    ]) e

unit_from-fault : (r : Result Assembly AsmFault) (fault : AsmFault) → unit_from r ≡ Err fault → r ≡ Err fault
unit_from-fault (Ok a) fault e = let no : ⊥ = cc in absurd no
unit_from-fault (Err f) fault e = cc

in_files : (texts : List (List ℕ)) (line : Line) → IsBetween 1 (1 + length texts) line → (1 ≤ line.file) × (line.file ≤ length texts)
in_files texts line h = let low = h.low in let high = h.high in (omega arith, omega arith)

unit_when-fault : (texts : List (List ℕ)) (o : Option ℕ) (fault : AsmFault) → too_long 1 0 texts ≡ o → unit_when o (located 1 texts) ≡ Err fault → (1 ≤ fault.line.file) × (fault.line.file ≤ length texts)
unit_when-fault texts (Some file) fault own e =
    let h = too_long-file 1 0 texts file own in
    let same : ◌≡◌ {A = AsmFault} (record { line = record { file = file; line = 1 }; kind = TooLarge }) fault = cc in
    let low = h.0 in
    let high = h.1 in
    subst (λ (f : AsmFault). (1 ≤ f.line.file) × (f.line.file ≤ length texts)) same (omega arith, omega arith)
unit_when-fault texts None fault own e =
    in_files texts fault.line (checked_lines-fault (IsBetween 1 (1 + length texts)) (definitions_of (located 1 texts)) nothing (located 1 texts) fault (located-files 1 texts) (unit_from-fault _ fault e))

unit_of-fault : (texts : List (List ℕ)) (fault : AsmFault) → unit_of texts ≡ Err fault → (1 ≤ fault.line.file) × (fault.line.file ≤ length texts)
unfolding unit_of
unit_of-fault texts fault e = unit_when-fault texts (too_long 1 0 texts) fault refl e

pub has_file-from_unit : (result : Result Whole (Failure AsmFault)) (texts : List (List ℕ)) (files : ℕ) → length texts ≡ files → GivesUnit result (unit_of texts) → HasFile files result
has_file-from_unit (Ok unit) texts files n h = tt
has_file-from_unit (Err errors.OutOfMemory) texts files n h = tt
has_file-from_unit (Err (errors.Fault fault)) texts files n h = subst (λ k. (1 ≤ fault.line.file) × (fault.line.file ≤ k)) n (unit_of-fault texts fault h)
