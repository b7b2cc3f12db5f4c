-- How a command makes its outcome: it makes one, or finds a fault at which nothing is printed (outcome_of). MemoryOr, MayBe: want of memory may
-- stand in the place of each; IsNamed: a fault is told in one of the first so many files.
use Rattle.std.specs.Prelude.{◌≡◌, ◌⊎◌, ℕ, ◌≤◌, List, length, Result, Ok, Err}
use Rattle.st_print.specs.declared.fault.Fault.{Fault}
use Rattle.st_print.specs.declared.fault.Fault.TheVariants as faults
use Rattle.st_print.specs.Telling.{NamesFiles}
use Rattle.st_main.specs.declared.outcome.Outcome.{Outcome}
use Rattle.st_main.specs.Answer.{fault_outcome, IsWant}

abbrev pub outcome_of : Result Outcome Fault → Outcome
outcome_of (Ok o) = o
outcome_of (Err fault) = fault_outcome fault

abbrev pub MemoryOr : (Fault → Type 0) → Fault → Type 0
MemoryOr P faults.OutOfMemory = Unit {0}
MemoryOr P fault = P fault

abbrev pub MayBe : (Outcome → Type 0) → Outcome → Type 0
MayBe outcomes o = IsWant o ⊎ outcomes o

abbrev pub IsNamed : ℕ → Fault → Type 0
IsNamed files fault = (names : List (List ℕ)) → files ≤ length names → NamesFiles names fault
