-- Reading the input piece by piece. Moves: what one take moves; IsPart: what holds from take to take; IsUntaken, IsInputFault: where
-- reading fails.
use Rattle.std.specs.Prelude.{◌≡◌, ◌⊎◌, ℕ, Bool, false, List, [], ◌++◌, Option, IfSome, IsSomeAnd}
use Rattle.st_base.specs.Outside.{HasRisen}
use Rattle.st_base.specs.declared.limits.LimitKind.TheVariants.{Input}
use Rattle.st_print.specs.declared.fault.Fault.{Fault}
use Rattle.st_print.specs.declared.fault.Fault.TheVariants.{ReadInput, Limit}
use Rattle.st_main.specs.Answer.{Intake, IsLongInput}

-- bytes went from the front of what was left to the end of what was taken; none only where nothing was left
pub record IsMoved (taken left taken' left' : List ℕ) (more : Bool) : Type 0 where
  pub same : taken ++ left ≡ taken' ++ left'
  pub all : more ≡ false → left' ≡ []

-- the same where the input tells what is left
abbrev pub Moves : Option (List ℕ) → Option (List ℕ) → List ℕ → List ℕ → Bool → Type 0
Moves left left' taken taken' more = IfSome left (λ rest. IsSomeAnd left' (λ rest'. IsMoved taken rest taken' rest' more))

-- what was taken, and behind it what is left, is all that the input had, where it tells this
abbrev pub IsPart : Option (List ℕ) → Option (List ℕ) → List ℕ → Type 0
IsPart before left taken = IfSome before (λ all. IsSomeAnd left (λ rest. taken ++ rest ≡ all))

-- one take fails only where the count rose
abbrev pub IsUntaken : ℕ → ℕ → Fault → Type 0
IsUntaken before after fault = (fault ≡ ReadInput) × HasRisen before after

-- reading fails where a take does, or the input is too long
abbrev pub IsInputFault : Intake → Fault → Type 0
IsInputFault intake fault = ((fault ≡ ReadInput) × HasRisen intake.faults_before intake.faults_after) ⊎ ((fault ≡ Limit Input) × IsLongInput intake)
