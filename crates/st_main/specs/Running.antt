-- From texts to an image that is run. IsImageOfTexts: the image is of the unchanged code of their unit; outcome_of_plain: what the
-- end of a run comes to.
use Rattle.std.specs.Prelude.{◌≡◌, ℕ, ◌≤◌, List, length, None, Some, Ok, option_map}
use Rattle.st_base.specs.declared.image.Image.{Image}
use Rattle.st_base.specs.declared.limits.Limits.{Limits}
use Rattle.st_asm.specs.Assembly.{Parts, unit_of}
use Rattle.st_model.specs.declared.program.Program.{Program}
use Rattle.st_model.specs.Bounded.{bounded_run}
use Rattle.st_model.specs.Layout.{far_branch}
use Rattle.st_model.specs.Memory.{data_of}
use Rattle.st_check.specs.Acceptance.{IsAcceptedUnit}
use Rattle.st_check.specs.Programs.{program_of as program_of'}
use Rattle.st_plain.specs.Answer.{IsPlainImage, bounds_of}
use Rattle.st_plain.specs.declared.whole.PlainEnd.{PlainEnd}
use Rattle.st_plain.specs.declared.whole.PlainEnd.TheVariants.{Ended, Limit}
use Rattle.st_main.specs.declared.outcome.Outcome.{Outcome}
use Rattle.st_print.specs.declared.fault.Fault.TheVariants as faults
use Rattle.st_main.specs.Answer.{fault_outcome, outcome_of_end, outcome_of_bounded}

-- ---- from texts to an image

-- the unit is accepted and links, and the image is of its unchanged code
pub record IsImageOfUnit (parts : Parts) (image : Image) : Type 0 where
  pub accepted : ∥ IsAcceptedUnit parts.functions ∥₁
  pub reaches : far_branch (program_of' parts.functions) ≡ None
  pub bytes : image.rodata ≡ parts.rodata
  pub code : ∥ IsPlainImage (program_of' parts.functions) image ∥₁

abbrev pub IsImageOfTexts : List (List ℕ) → Image → Type 0
IsImageOfTexts texts image = (parts : Parts) × (unit_of texts ≡ Ok parts) × IsImageOfUnit parts image

-- the same of texts of at most so many files
abbrev pub IsImageOfFiles : ℕ → Image → Type 0
IsImageOfFiles files image = (texts : List (List ℕ)) × (length texts ≤ files) × IsImageOfTexts texts image

-- ---- from an image to an outcome

abbrev pub outcome_of_plain : PlainEnd → Outcome
outcome_of_plain (Ended end) = outcome_of_end end
outcome_of_plain (Limit kind) = fault_outcome (faults.Limit kind)

-- the run of the image's program on an input, within limits, comes to this
abbrev pub EndsSo : Image → List ℕ → Limits → Outcome → Type 0
EndsSo image input limits o =
    (p : Program) → IsPlainImage p image → option_map (outcome_of_bounded (bounds_of limits)) (bounded_run p (data_of image.rodata input) (bounds_of limits)) ≡ Some o
