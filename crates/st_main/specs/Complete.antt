-- That a command does its work where nothing stands in its way: CompletesFiles of `check` and `post`, CompletesRun of a run, Completes of the
-- program. GoesWell says what must not stand in the way: the files tell their texts, no count of faults rose, and memory wasn't wanting.
use Rattle.std.specs.Prelude.{◌≡◌, ℕ, ◌≤◌, List, length, Option, Some, Result}
use Rattle.st_base.specs.Outside.{HasRisen}
use Rattle.st_line.specs.declared.fault.AsmFault.{AsmFault}
use Rattle.st_print.specs.declared.fault.Fault.{Fault}
use Rattle.st_asm.specs.Assembly.{Parts, unit_of}
use Rattle.st_main.specs.declared.exit.Exit.{Exit}
use Rattle.st_main.specs.declared.exit.Exit.TheVariants.{OutOfMemory}
use Rattle.st_main.specs.declared.outcome.Outcome.{Outcome}
use Rattle.st_main.specs.Answer.{Built, Runs, Plains, Checks, Posts, AsksFor, Library, Intake, Output, AreTexts, Happens, IsAcceptedUnitOf, IsCanonical, IsCheckOutcome, IsListing, IsPostOutcome, IsRunnable, RefusesTexts, RunsTo, fault_outcome}

-- the files tell their texts; they were read and the output was taken without a fault; memory wasn't wanting
pub record GoesWell (library : Library) (names texts : List (List ℕ)) (out : Output) (exit : Exit) : Type 0 where
  pub contents : List ℕ → Option (List ℕ)
  pub told : library.contents ≡ Some contents
  pub are : AreTexts library.contents names texts
  pub reads : HasRisen library.faults_before library.faults_after → ⊥
  pub puts : HasRisen out.faults_before out.faults_after → ⊥
  pub memory : exit ≡ OutOfMemory → ⊥

-- one of the outcomes of the texts happens; that of the unit where they make one that is ready
pub record CompletesFiles (outcomes : Result Parts AsmFault → Outcome → Type 0) (ready : Result Parts AsmFault → Parts → Type 0) (makes : Parts → Outcome → Type 0) (library : Library) (names : List (List ℕ)) (out err : Output) (exit : Exit) : Type 0 where
  pub any : (texts : List (List ℕ)) → GoesWell library names texts out exit → (o : Outcome) × outcomes (unit_of texts) o × Happens names o out err exit
  pub done : (texts : List (List ℕ)) (parts : Parts) → GoesWell library names texts out exit → ready (unit_of texts) parts → (o : Outcome) × makes parts o × Happens names o out err exit

-- texts that are refused are told; on an input within the limit, that was taken without a fault, a unit that is accepted and links comes to
-- one of its ends
pub record CompletesRun (ends : Parts → List ℕ → Outcome → Type 0) (library : Library) (names : List (List ℕ)) (intake : Intake) (out err : Output) (exit : Exit) : Type 0 where
  pub refused : (texts : List (List ℕ)) (fault : Fault) → GoesWell library names texts out exit → RefusesTexts (unit_of texts) fault → (told : Fault) × RefusesTexts (unit_of texts) told × Happens names (fault_outcome told) out err exit
  pub done : (texts : List (List ℕ)) (parts : Parts) (input : List ℕ) → GoesWell library names texts out exit → IsRunnable (unit_of texts) parts → intake.before ≡ Some input → (HasRisen intake.faults_before intake.faults_after → ⊥) → length input ≤ 16777216 → (o : Outcome) × ends parts input o × Happens names o out err exit

abbrev pub CompletesJob : Built → Library → Intake → Output → Output → Exit → Type 0
CompletesJob (Runs b files) library intake out err exit = CompletesRun (RunsTo b) library files intake out err exit
CompletesJob (Plains b files) library intake out err exit = CompletesRun (RunsTo b) library files intake out err exit
CompletesJob (Checks files) library intake out err exit = CompletesFiles IsCheckOutcome IsAcceptedUnitOf IsCanonical library files out err exit
CompletesJob (Posts files) library intake out err exit = CompletesFiles IsPostOutcome IsRunnable IsListing library files out err exit

-- the job that the words ask for, if it is built
abbrev pub Completes : List (List ℕ) → Library → Intake → Output → Output → Exit → Type 0
Completes words library intake out err exit = (job : Built) → AsksFor words job → CompletesJob job library intake out err exit
