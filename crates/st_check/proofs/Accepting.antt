-- From what the check finds to acceptance: a unit that has no fault of form (none-faults), its program (program-same, program-formed), a
-- refusal for an undefined read (read-refuses), and what an accepted unit and its program have (unit-accepted, program-accepted).
use Rattle.std.proofs.Common.{◌≡◌, ◌∙◌, inr, ℕ, List, [], ◌∷◌, refl, ap, sym, subst, slice_get, Option, Some, None}
use Rattle.st_asm.specs.declared.unit.Function.{Function}
use Rattle.st_asm.specs.Unit.{IsUnit}
use Rattle.st_model.specs.declared.program.Program.{Program}
use Rattle.st_model.specs.declared.program.ProgramFunction.{ProgramFunction}
use Rattle.st_model.specs.Accepted.{IsFormed, IsAccepted}
use Rattle.st_check.specs.declared.fault.FormFault.{FormFault}
use Rattle.st_check.specs.Shape.{Fault}
use Rattle.st_check.specs.Faults.{unit_faults, least_fault}
use Rattle.st_check.specs.Programs.{program_of}
use Rattle.st_check.specs.Acceptance.{IsAcceptedUnit, IsReadFault, IsFirstFault}
use Rattle.st_check.specs.Reads.{ReadsDefined}
use Rattle.st_check.proofs.FormedUnits.{merely-formed, formed-accepted}

least-none : (faults : List Fault) → least_fault faults ≡ None → faults ≡ []
least-none [] none = refl
least-none (a ∷ rest) none = cc

pub none-faults : (functions given : List Function) (found : Option Fault) → given ≡ functions → found ≡ least_fault (unit_faults given) → found ≡ None → unit_faults functions ≡ []
none-faults functions given found same least none =
    least-none (unit_faults functions) (ap (λ fs. least_fault (unit_faults fs)) (sym same) ∙ sym least ∙ none)

pub program-same : (functions given : List Function) (program : Program) → given ≡ functions → program ≡ program_of given → program ≡ program_of functions
program-same functions given program same is = is ∙ ap program_of same

pub program-formed : (functions : List Function) (rodata : List ℕ) (program : Program) → ∥ IsUnit functions rodata ∥₁ → unit_faults functions ≡ [] → program ≡ program_of functions → (f : ℕ) (function : ProgramFunction) → slice_get program.functions f ≡ Some function → IsFormed program function
program-formed functions rodata program is none same =
    subst (λ (p : Program). (f : ℕ) (function : ProgramFunction) → slice_get p.functions f ≡ Some function → IsFormed p function) (sym same) (merely-formed functions rodata is none).functions_formed

pub read-refuses : (functions : List Function) (program : Program) (fault : FormFault) → unit_faults functions ≡ [] → program ≡ program_of functions → IsReadFault program fault → IsFirstFault functions fault × (IsAcceptedUnit functions → ⊥)
read-refuses functions program fault none same read =
    let told = subst (λ (p : Program). IsReadFault p fault) same read in
    (inr (none, told), λ accepted. accepted.defined told.f told.function told.there told.bad)

pub unit-accepted : (functions : List Function) (program : Program) → unit_faults functions ≡ [] → program ≡ program_of functions → ReadsDefined program → IsAcceptedUnit functions
unit-accepted functions program none same reads = record { formed = none; defined = subst ReadsDefined same reads }

pub program-accepted : (functions : List Function) (rodata : List ℕ) (program : Program) → ∥ IsUnit functions rodata ∥₁ → unit_faults functions ≡ [] → program ≡ program_of functions → ReadsDefined program → IsAccepted program
program-accepted functions rodata program is none same reads =
    subst IsAccepted (sym same) (formed-accepted functions (merely-formed functions rodata is none) (subst ReadsDefined same reads))
