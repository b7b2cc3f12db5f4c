-- The run of texts. image-of_unit: what linking a unit gives; has-program: the image is a program's; runs-to: the outcome of the image's run is
-- that of the unit; told-among: the files that it is told in. input-fails, input-runs: the answer on the input; run-unread, run-refused,
-- run-answers: that on files.
use Rattle.std.proofs.Common.{◌≡◌, ℕ, ◌≤◌, List, length, Option, Some, None, refl, sym, ap, subst, arith, ◌⊎◌, inl, inr}
use Rattle.std.specs.Prelude.{IfSome, option_map, Result, Ok}
use Rattle.std.specs.Coded.{le_prop}
use Rattle.std.proofs.Math.Logic.{∥∥₁_elim, ∥∥₁_map, ∥∥₁_prop}
use Rattle.st_base.specs.declared.image.Image.{Image}
use Rattle.st_base.specs.declared.limits.Limits.{Limits}
use Rattle.st_base.specs.declared.line.Line.{Line}
use Rattle.st_asm.specs.Assembly.{Parts, unit_of}
use Rattle.st_asm.specs.Reading.{parts_of}
use Rattle.st_model.specs.declared.code.Layout.TheVariants.{Unchanged}
use Rattle.st_model.specs.declared.ordinary.OrdEnd.{OrdEnd}
use Rattle.st_model.specs.declared.ordinary.OrdEnd.TheVariants as ends
use Rattle.st_model.specs.declared.program.Program.{Program}
use Rattle.st_model.specs.Accepted.{IsAccepted}
use Rattle.st_model.specs.Bounded.{Bounds, BoundedEnd, ended, past_steps, past_cells, past_stack, bounded_run}
use Rattle.st_model.specs.Layout.{HasSize, IsImageOf, far_branch}
use Rattle.st_model.specs.Memory.{data_of}
use Rattle.st_print.specs.declared.fault.Fault.{Fault}
use Rattle.st_print.specs.declared.fault.Fault.TheVariants as faults
use Rattle.st_print.specs.Telling.{NamesFiles}
use Rattle.st_check.specs.declared.accept.Checked.{Checked}
use Rattle.st_check.specs.Programs.{program_of as program_of'}
use Rattle.st_check.proofs.UnitLines.{program-lines}
use Rattle.st_plain.specs.Answer.{HasProgram, IsPlainImage, bounds_of}
use Rattle.st_main.specs.declared.outcome.Outcome.{Outcome}
use Rattle.st_main.specs.Answer.{Intake, Library, fault_outcome, outcome_of_end, outcome_of_bounded, RefusesTexts, IsRunnable, RunsTo, IsUntouched, IsInput, AnswersInput, AnswersRun}
use Rattle.st_main.specs.Input.{IsInputFault}
use Rattle.st_main.specs.Making.{MemoryOr, MayBe}
use Rattle.st_main.specs.Reading.{HasRead, IsReadFault}
use Rattle.st_main.specs.Running.{IsImageOfUnit, IsImageOfTexts, IsImageOfFiles, EndsSo}
use Rattle.st_main.proofs.Memory.{memory-or}
use Rattle.st_main.proofs.OutcomeSets.{outcome-set}
use Rattle.st_main.proofs.Posting.{far-prop}
use Rattle.st_main.proofs.ReadTexts.{read-same}
use Rattle.st_main.proofs.UnitLines.{unit_line-file}
use Rattle.st_main.proofs.EndLines.{BoundedTold, EndTold, ItemLines, bounded-told}

-- ---- what a unit gives

plain-image : (p : Program) (bytes : List ℕ) (image : Image) → IsAccepted p → HasSize p → IsImageOf Unchanged p bytes image → IsPlainImage p image
plain-image p bytes image accepted size is = record { accepted = accepted; size = size; is_image = subst (λ b. IsImageOf Unchanged p b image) (sym is.bytes) is }

pub image-of_unit : (checked : Checked) (image : Image) → IsImageOf Unchanged checked.program checked.unit.now.rodata image → IsImageOfUnit (parts_of checked.unit.now) image
image-of_unit checked image is =
    let functions = checked.unit.now.functions in
    record {
      accepted = checked.is_accepted_unit;
      reaches = ∥∥₁_elim checked.is_program (far-prop (program_of' functions) None) (λ e. subst (λ p. far_branch p ≡ None) e is.reaches);
      bytes = is.bytes;
      code =
          ∥∥₁_elim checked.is_program ∥∥₁_prop (λ e.
          ∥∥₁_elim checked.is_accepted ∥∥₁_prop (λ accepted.
          ∥∥₁_map checked.has_size (λ size. subst (λ p. IsPlainImage p image) e (plain-image checked.program checked.unit.now.rodata image accepted size is))));
    }

-- ---- the outcome of a run

pub has-program : (files : ℕ) (image : Image) → IsImageOfFiles files image → ∥ HasProgram image ∥₁
has-program files image is = ∥∥₁_map is.2.2.code (λ i. (program_of' is.2.0.functions, i))

pub runs-to : (parts : Parts) (image : Image) (input : List ℕ) (limits : Limits) (o : Outcome) → IsImageOfUnit parts image → EndsSo image input limits o → RunsTo (bounds_of limits) parts input o
runs-to parts image input limits o is so =
    ∥∥₁_elim is.code (outcome-set (option_map (outcome_of_bounded (bounds_of limits)) (bounded_run (program_of' parts.functions) (data_of parts.rodata input) (bounds_of limits))) (Some o)) (λ i.
    subst (λ bytes. option_map (outcome_of_bounded (bounds_of limits)) (bounded_run (program_of' parts.functions) (data_of bytes input) (bounds_of limits)) ≡ Some o) is.bytes (so (program_of' parts.functions) i))

-- ---- the files that a run's end is told in

-- a line of one of so many files
abbrev IsAmong : ℕ → Line → Type 0
IsAmong files line = (1 ≤ line.file) × (line.file ≤ files)

-- the fault of an outcome is told in one of the first so many files
abbrev IsToldAmong : ℕ → Outcome → Type 0
IsToldAmong files o = (names : List (List ℕ)) → files ≤ length names → IfSome o.fault (NamesFiles names)

end-among : (files : ℕ) (end : OrdEnd) → EndTold (IsAmong files) end → IsToldAmong files (outcome_of_end end)
end-among files ends.Going told = λ names enough. tt
end-among files (ends.Done out) told = λ names enough. tt
end-among files (ends.Trap kind line path out) told = λ names enough. (told.0, (let last = told.1 in omega arith))
end-among files (ends.Waits line path out) told = λ names enough. (told.0, (let last = told.1 in omega arith))
end-among files (ends.OutLimit out) told = λ names enough. tt

bounded-among : (files : ℕ) (b : Bounds) (end : BoundedEnd) → BoundedTold (IsAmong files) (Some end) → IsToldAmong files (outcome_of_bounded b end)
bounded-among files b (ended end) told = end-among files end told
bounded-among files b past_steps told = λ names enough. tt
bounded-among files b past_cells told = λ names enough. tt
bounded-among files b (past_stack frame) told = λ names enough. tt

run-among : (files : ℕ) (b : Bounds) (r : Option BoundedEnd) (o : Outcome) → BoundedTold (IsAmong files) r → option_map (outcome_of_bounded b) r ≡ Some o → IsToldAmong files o
run-among files b None o told is = let no : ⊥ = cc in absurd no
run-among files b (Some end) o told is = let same : outcome_of_bounded b end ≡ o = cc in subst (IsToldAmong files) same (bounded-among files b end told)

names-prop : (names : List (List ℕ)) (fault : Fault) → IsProp (NamesFiles names fault)
names-prop names faults.Usage = hlevel
names-prop names (faults.Reading f) = hlevel le_prop
names-prop names (faults.Checking line kind) = hlevel le_prop
names-prop names (faults.Linking line distance) = hlevel le_prop
names-prop names (faults.Trap line kind path) = hlevel le_prop
names-prop names (faults.Deadlock line path) = hlevel le_prop
names-prop names (faults.Waits line path) = hlevel le_prop
names-prop names (faults.Limit kind) = hlevel
names-prop names (faults.ReadFile file) = hlevel le_prop
names-prop names faults.ReadInput = hlevel
names-prop names faults.Write = hlevel
names-prop names faults.OutOfMemory = hlevel

fault-prop : (names : List (List ℕ)) (o : Option Fault) → IsProp (IfSome o (NamesFiles names))
fault-prop names None = hlevel
fault-prop names (Some fault) = names-prop names fault

unit-lines : (texts : List (List ℕ)) (parts : Parts) → unit_of texts ≡ Ok parts → ItemLines (IsAmong (length texts)) (program_of' parts.functions)
unit-lines texts parts reads f i function item there at = unit_line-file texts parts item.line reads (program-lines parts.functions f i function item there at)

pub told-among : (names : List (List ℕ)) (image : Image) (input : List ℕ) (limits : Limits) (o : Outcome) → IsImageOfFiles (length names) image → EndsSo image input limits o → IfSome o.fault (NamesFiles names)
told-among names image input limits o (texts, few, (parts, reads, is)) so =
    let P : Line → Type 0 = IsAmong (length texts) in
    let told = bounded-told P (program_of' parts.functions) (data_of image.rodata input) (bounds_of limits) (unit-lines texts parts reads) in
    ∥∥₁_elim is.code (fault-prop names o.fault) (λ i. run-among (length texts) (bounds_of limits) (bounded_run (program_of' parts.functions) (data_of image.rodata input) (bounds_of limits)) o told (so (program_of' parts.functions) i) names few)

-- ---- the answer on the input

input-failed : (ends : Parts → List ℕ → Outcome → Type 0) (parts : Parts) (intake : Intake) (fault : Fault) → (fault ≡ faults.OutOfMemory) ⊎ IsInputFault intake fault → MayBe (AnswersInput ends parts intake) (fault_outcome fault)
input-failed ends parts intake fault (inl e) = inl (ap fault_outcome e)
input-failed ends parts intake fault (inr (inl (e, rose))) = inr (inl (rose, ap fault_outcome e))
input-failed ends parts intake fault (inr (inr (e, long))) = inr (inr (inl (long, ap fault_outcome e)))

pub input-fails : (ends : Parts → List ℕ → Outcome → Type 0) (parts : Parts) (intake : Intake) (fault : Fault) → MemoryOr (IsInputFault intake) fault → MayBe (AnswersInput ends parts intake) (fault_outcome fault)
input-fails ends parts intake fault fails = input-failed ends parts intake fault (memory-or (IsInputFault intake) fault fails)

input-named : (names : List (List ℕ)) (intake : Intake) (fault : Fault) → (fault ≡ faults.OutOfMemory) ⊎ IsInputFault intake fault → NamesFiles names fault
input-named names intake fault (inl e) = subst (NamesFiles names) (sym e) tt
input-named names intake fault (inr (inl (e, rose))) = subst (NamesFiles names) (sym e) tt
input-named names intake fault (inr (inr (e, long))) = subst (NamesFiles names) (sym e) tt

pub input-names : (names : List (List ℕ)) (intake : Intake) (fault : Fault) → MemoryOr (IsInputFault intake) fault → NamesFiles names fault
input-names names intake fault fails = input-named names intake fault (memory-or (IsInputFault intake) fault fails)

pub input-runs : (parts : Parts) (image : Image) (bytes : List ℕ) (limits : Limits) (o : Outcome) (intake : Intake) → IsImageOfUnit parts image → EndsSo image bytes limits o → IsInput intake bytes → length bytes ≤ 16777216 → MayBe (AnswersInput (RunsTo (bounds_of limits)) parts intake) o
input-runs parts image bytes limits o intake is so whole few = inr (inr (inr (bytes, whole, few, runs-to parts image bytes limits o is so)))

-- ---- the answer on files

module _ (ends : Parts → List ℕ → Outcome → Type 0) (library : Library) (names : List (List ℕ)) (intake : Intake) where
  unread : (fault : Fault) → IsUntouched intake → (fault ≡ faults.OutOfMemory) ⊎ IsReadFault library names fault → AnswersRun ends library names intake (fault_outcome fault)
  unread fault kept (inl e) = inl (ap fault_outcome e)
  unread fault kept (inr (file, is, e)) = inr (inl (kept, (file, is, ap fault_outcome e)))

  pub run-unread : (fault : Fault) → IsUntouched intake → MemoryOr (IsReadFault library names) fault → AnswersRun ends library names intake (fault_outcome fault)
  run-unread fault kept fails = unread fault kept (memory-or (IsReadFault library names) fault fails)

  refused : (read : List (List ℕ)) (fault : Fault) → IsUntouched intake → HasRead library.contents names read → (fault ≡ faults.OutOfMemory) ⊎ RefusesTexts (unit_of read) fault → AnswersRun ends library names intake (fault_outcome fault)
  refused read fault kept h (inl e) = inl (ap fault_outcome e)
  refused read fault kept h (inr is) = inr (inr (h.texts, h.are, inl (kept, (fault, subst (λ r. RefusesTexts r fault) (read-same h.texts read h.same) is, refl))))

  pub run-refused : (read : List (List ℕ)) (fault : Fault) → IsUntouched intake → HasRead library.contents names read → MemoryOr (RefusesTexts (unit_of read)) fault → AnswersRun ends library names intake (fault_outcome fault)
  run-refused read fault kept h fails = refused read fault kept h (memory-or (RefusesTexts (unit_of read)) fault fails)

  run-on : (read : List (List ℕ)) (o : Outcome) (parts : Parts) → HasRead library.contents names read → IsRunnable (unit_of read) parts → MayBe (AnswersInput ends parts intake) o → AnswersRun ends library names intake o
  run-on read o parts h runnable (inl want) = inl want
  run-on read o parts h runnable (inr answers) =
      inr (inr (h.texts, h.are, inr (parts, subst (λ r. IsRunnable r parts) (read-same h.texts read h.same) runnable, answers)))

  pub run-answers : (read : List (List ℕ)) (image : Image) (o : Outcome) → HasRead library.contents names read → IsImageOfTexts read image → ((parts : Parts) → IsImageOfUnit parts image → MayBe (AnswersInput ends parts intake) o) → AnswersRun ends library names intake o
  run-answers read image o h (parts, reads, is) answers = run-on read o parts h ((reads, is.accepted), is.reaches) (answers parts is)
