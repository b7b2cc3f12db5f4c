-- What the program answers: the job that its words ask for, and the outcome of it: the bytes that it prints and the fault that it tells, by
-- which it exits. Read IsAnswer, then Answers and ComesAbout, which say how an outcome comes about, and for each command the outcomes that
-- it may have: AnswersFiles with IsCheckOutcome of `check`, the canonical text of an accepted unit; with IsPostOutcome of `post`, the listing
-- of its postprocessed code; AnswersRun of a run, with RunsTo of `run` and `plain`, the bounded ordinary-call run on the input.
use Rattle.std.specs.Prelude.{◌≡◌, ◌⊎◌, ℤ, ℕ, ◌+◌, ◌<◌, ◌≤◌, List, [], ◌∷◌, length, take, Option, Some, None, option_map, IfSome, codes, Result, Ok, Err}
use Rattle.st_base.specs.declared.limits.LimitKind.TheVariants.{Stack, Cell, Step, Out, Input}
use Rattle.st_base.specs.declared.line.Line.{Line}
use Rattle.st_base.specs.Outside.{HasRisen, Appends}
use Rattle.st_line.specs.declared.fault.AsmFault.{AsmFault}
use Rattle.st_asm.specs.Assembly.{Parts, unit_of}
use Rattle.st_print.specs.declared.fault.Fault.{Fault}
use Rattle.st_print.specs.declared.fault.Fault.TheVariants as faults
use Rattle.st_print.specs.Canonical.{unit_text}
use Rattle.st_print.specs.Telling.{fault_text, HasName}
use Rattle.st_check.specs.declared.fault.FormFault.{FormFault}
use Rattle.st_check.specs.Acceptance.{IsAcceptedUnit, IsFirstFault}
use Rattle.st_check.specs.Programs.{program_of as program_of'}
use Rattle.st_asm.specs.declared.unit.Function.{Function}
use Rattle.st_model.specs.declared.code.Layout.TheVariants.{Postprocessed}
use Rattle.st_model.specs.declared.ordinary.OrdEnd.{OrdEnd}
use Rattle.st_model.specs.declared.ordinary.OrdEnd.TheVariants as ends
use Rattle.st_model.specs.Bounded.{Bounds, BoundedEnd, ended, past_steps, past_cells, past_stack, bounded_run}
use Rattle.st_model.specs.Layout.{code_of, far_branch, AreWords}
use Rattle.st_link.specs.Refusal.{IsFirstFar}
use Rattle.st_model.specs.Memory.{data_of}
use Rattle.st_jobs.specs.Commands.{Asked, Setting, setting, workers_id, job_of}
use Rattle.st_main.specs.declared.exit.Exit.{Exit}
use Rattle.st_main.specs.declared.exit.Exit.TheVariants.{WriteFault}
use Rattle.st_main.specs.declared.outcome.Outcome.{Outcome}
use Rattle.st_main.specs.Exit.{exit_of}
use Rattle.st_main.specs.Listing.{listing_of}

-- ---- the words

-- a job that is built: the run of files with one worker within limits, by `run` or by `plain`; the check of files, or their postprocessing
pub data Built : Type 0 where
  Runs : Bounds → List (List ℕ) → Built
  Plains : Bounds → List (List ℕ) → Built
  Checks : List (List ℕ) → Built
  Posts : List (List ℕ) → Built

-- one worker, and these limits
abbrev pub run_settings : Bounds → List Setting
run_settings b = setting workers_id 1 ∷ (setting (codes "stack") b.stack ∷ setting (codes "cells") b.cells ∷ setting (codes "steps") b.steps ∷ [])

abbrev pub asked_by : Built → Asked
asked_by (Runs b files) = record { command = codes "run"; settings = run_settings b; schedule = []; files = files }
asked_by (Plains b files) = record { command = codes "plain"; settings = run_settings b; schedule = []; files = files }
asked_by (Checks files) = record { command = codes "check"; settings = []; schedule = []; files = files }
asked_by (Posts files) = record { command = codes "post"; settings = []; schedule = []; files = files }

-- the words ask for a job that is built
abbrev pub AsksFor : List (List ℕ) → Built → Type 0
AsksFor words job = job_of words ≡ Some (asked_by job)

abbrev pub AsksForNone : List (List ℕ) → Type 0
AsksForNone words = (job : Built) → AsksFor words job → ⊥

-- ---- outcomes

-- a fault at which nothing is printed
abbrev pub fault_outcome : Fault → Outcome
fault_outcome fault = record { printed = []; fault = Some fault }

-- a text is printed, and no fault told
abbrev pub text_outcome : List ℕ → Outcome
text_outcome text = record { printed = text; fault = None }

-- memory was wanting
abbrev pub IsWant : Outcome → Type 0
IsWant o = o ≡ fault_outcome faults.OutOfMemory

-- ---- the unit of the texts: what they read as is the parts of a unit or a fault

-- a unit that isn't accepted is refused at its first fault
abbrev pub IsFormFault : List Function → Fault → Type 0
IsFormFault functions fault = (f : FormFault) × IsFirstFault functions f × (IsAcceptedUnit functions → ⊥) × (fault ≡ faults.Checking f.line f.kind)

-- an accepted unit with a branch that doesn't reach is refused at the first one by file and line
abbrev pub IsLinkFault : List Function → Fault → Type 0
IsLinkFault functions fault = (line : Line) × (distance : ℤ) × IsFirstFar (program_of' functions) line distance × (fault ≡ faults.Linking line distance)

-- texts that make no accepted unit are refused by reading, or else by checking
abbrev pub IsUnaccepted : Result Parts AsmFault → Fault → Type 0
IsUnaccepted (Err f) fault = fault ≡ faults.Reading f
IsUnaccepted (Ok parts) fault = IsFormFault parts.functions fault

-- the texts make this unit, which is accepted
abbrev pub IsAcceptedUnitOf : Result Parts AsmFault → Parts → Type 0
IsAcceptedUnitOf read parts = (read ≡ Ok parts) × ∥ IsAcceptedUnit parts.functions ∥₁

-- the texts are refused by reading, by checking or by linking
abbrev pub RefusesTexts : Result Parts AsmFault → Fault → Type 0
RefusesTexts read fault = IsUnaccepted read fault ⊎ ((parts : Parts) × IsAcceptedUnitOf read parts × IsLinkFault parts.functions fault)

-- the texts make this unit, which is accepted and links
abbrev pub IsRunnable : Result Parts AsmFault → Parts → Type 0
IsRunnable read parts = IsAcceptedUnitOf read parts × (far_branch (program_of' parts.functions) ≡ None)

-- ---- the outcomes of a check and of a postprocessing

-- the canonical text is printed
abbrev pub IsCanonical : Parts → Outcome → Type 0
IsCanonical parts o = o ≡ text_outcome (unit_text parts.functions parts.rodata)

-- the texts are refused, or make a unit that comes to the outcome
abbrev pub IsOutcome : (Result Parts AsmFault → Fault → Type 0) → (Result Parts AsmFault → Parts → Type 0) → (Parts → Outcome → Type 0) → Result Parts AsmFault → Outcome → Type 0
IsOutcome refuses ready makes read o =
    ((fault : Fault) × refuses read fault × (o ≡ fault_outcome fault)) ⊎ ((parts : Parts) × ready read parts × makes parts o)

-- an accepted unit is printed
abbrev pub IsCheckOutcome : Result Parts AsmFault → Outcome → Type 0
IsCheckOutcome read o = IsOutcome IsUnaccepted IsAcceptedUnitOf IsCanonical read o

-- the words of the postprocessed code are listed
abbrev pub IsListingOf : List Function → Outcome → Type 0
IsListingOf functions o = ∥ ((ws : List ℕ) × AreWords (code_of Postprocessed (program_of' functions)) ws × (o ≡ text_outcome (listing_of functions ws))) ∥₁

abbrev pub IsListing : Parts → Outcome → Type 0
IsListing parts o = IsListingOf parts.functions o

-- an accepted unit that links is listed
abbrev pub IsPostOutcome : Result Parts AsmFault → Outcome → Type 0
IsPostOutcome read o = IsOutcome RefusesTexts IsRunnable IsListing read o

-- ---- the outcome of a run

-- of an end of the ordinary-call run; a run that goes on has met the limit of steps, and a limit prints nothing but that of the output
abbrev pub outcome_of_end : OrdEnd → Outcome
outcome_of_end ends.Going = fault_outcome (faults.Limit (Step 0))
outcome_of_end (ends.Done out) = text_outcome out
outcome_of_end (ends.Trap kind line path out) = record { printed = out; fault = Some (faults.Trap line kind path) }
outcome_of_end (ends.Waits line path out) = record { printed = out; fault = Some (faults.Waits line path) }
outcome_of_end (ends.OutLimit out) = record { printed = out; fault = Some (faults.Limit Out) }

-- of an end of the run within these limits
abbrev pub outcome_of_bounded : Bounds → BoundedEnd → Outcome
outcome_of_bounded b (ended end) = outcome_of_end end
outcome_of_bounded b past_steps = fault_outcome (faults.Limit (Step 0))
outcome_of_bounded b past_cells = fault_outcome (faults.Limit (Cell b.cells))
outcome_of_bounded b (past_stack frame) = fault_outcome (faults.Limit (Stack 0 frame))

-- what the run of a unit's program comes to on an input, within limits
abbrev pub RunsTo : Bounds → Parts → List ℕ → Outcome → Type 0
RunsTo b parts input o =
    option_map (outcome_of_bounded b) (bounded_run (program_of' parts.functions) (data_of parts.rodata input) b) ≡ Some o

-- ---- the texts of files

-- the text is the file's, where the files tell what they hold
abbrev pub IsFile : Option (List ℕ → Option (List ℕ)) → List ℕ → List ℕ → Type 0
IsFile contents file text = IfSome contents (λ files. files file ≡ Some text)

-- the texts are those of the first files of these names, in their order
abbrev pub AreFiles : Option (List ℕ → Option (List ℕ)) → List (List ℕ) → List (List ℕ) → Type 0
AreFiles contents names [] = Unit {0}
AreFiles contents [] (text ∷ texts) = ⊥
AreFiles contents (name ∷ names) (text ∷ texts) = IsFile contents name text × AreFiles contents names texts

-- how many bytes the texts have together
abbrev pub bytes_in : List (List ℕ) → ℕ
bytes_in [] = 0
bytes_in (text ∷ texts) = length text + bytes_in texts

-- the texts of all files; or of the first ones, where these have more than 1,048,576 bytes, which is E8 whatever the later ones hold
pub record AreTexts (contents : Option (List ℕ → Option (List ℕ))) (names texts : List (List ℕ)) : Type 0 where
  pub files : AreFiles contents names texts
  pub enough : (length texts ≡ length names) ⊎ (1048576 < bytes_in texts)

-- ---- what was seen of the outside in a call

-- of files: what they hold, where they tell it, and their counts of faults
pub record Library : Type 0 where
  pub contents : Option (List ℕ → Option (List ℕ))
  pub faults_before : ℕ
  pub faults_after : ℕ

abbrev pub library_of : Option (List ℕ → Option (List ℕ)) → ℕ → ℕ → Library
library_of contents faults_before faults_after =
    record { contents = contents; faults_before = faults_before; faults_after = faults_after }

-- of the input: what it had left before and after, where it tells this, and its counts of faults
pub record Intake : Type 0 where
  pub before : Option (List ℕ)
  pub after : Option (List ℕ)
  pub faults_before : ℕ
  pub faults_after : ℕ

abbrev pub intake_of : Option (List ℕ) → Option (List ℕ) → ℕ → ℕ → Intake
intake_of before after faults_before faults_after = record {
  before = before;
  after = after;
  faults_before = faults_before;
  faults_after = faults_after;
}

-- of an output: its counts of faults, and what it had taken before and after, where it tells this
pub record Output : Type 0 where
  pub faults_before : ℕ
  pub faults_after : ℕ
  pub before : Option (List ℕ)
  pub after : Option (List ℕ)

abbrev pub output_of : ℕ → ℕ → Option (List ℕ) → Option (List ℕ) → Output
output_of faults_before faults_after before after = record {
  faults_before = faults_before;
  faults_after = faults_after;
  before = before;
  after = after;
}

-- ---- how an outcome comes about

-- the output has taken these bytes
abbrev pub Prints : Output → List ℕ → Type 0
Prints out bytes = Appends out.before out.after bytes

-- the output has taken a text, or a prefix of it where its count of faults rose
abbrev pub Tells : Output → List ℕ → Type 0
Tells err text = Prints err text ⊎ (HasRisen err.faults_before err.faults_after × ((n : ℕ) × Prints err (take n text)))

-- what is told of a fault, if there is one, where the files have these names
abbrev pub told_text : List (List ℕ) → Option Fault → List ℕ
told_text names None = []
told_text names (Some fault) = fault_text names fault

-- the bytes are printed, the fault is told, and the exit is that of the fault
abbrev pub Happens : List (List ℕ) → Outcome → Output → Output → Exit → Type 0
Happens names o out err exit = (exit ≡ exit_of o.fault) × Prints out o.printed × Tells err (told_text names o.fault)

-- there were bytes that weren't all taken, since the count of faults rose: a prefix of them is printed
abbrev pub Breaks : List (List ℕ) → Outcome → Output → Output → Exit → Type 0
Breaks names o out err exit =
    (exit ≡ WriteFault) × (o.printed ≡ [] → ⊥) × HasRisen out.faults_before out.faults_after × ((n : ℕ) × Prints out (take n o.printed)) × Tells err (fault_text names faults.Write)

abbrev pub ComesAbout : List (List ℕ) → Outcome → Output → Output → Exit → Type 0
ComesAbout names o out err exit = Happens names o out err exit ⊎ Breaks names o out err exit

-- one of these outcomes comes about
abbrev pub Answers : (Outcome → Type 0) → List (List ℕ) → Output → Output → Exit → Type 0
Answers outcomes names out err exit = (o : Outcome) × outcomes o × ComesAbout names o out err exit

-- ---- the outcomes of files

-- a file, of which this is the number, was not read: those before it were, within the limit, and the count of faults rose
pub record IsUnreadFile (library : Library) (names : List (List ℕ)) (file : ℕ) : Type 0 where
  pub named : HasName names file
  pub texts : List (List ℕ)
  pub are : AreFiles library.contents names texts
  pub next : length texts + 1 ≡ file
  pub within : bytes_in texts ≤ 1048576
  pub rose : HasRisen library.faults_before library.faults_after

abbrev pub FailsToRead : Library → List (List ℕ) → Outcome → Type 0
FailsToRead library names o = (file : ℕ) × IsUnreadFile library names file × (o ≡ fault_outcome (faults.ReadFile file))

-- memory was wanting, or a file was not read, or there are texts that come to such outcomes
abbrev pub AnswersFiles : (Result Parts AsmFault → Outcome → Type 0) → Library → List (List ℕ) → Outcome → Type 0
AnswersFiles outcomes library names o =
    IsWant o ⊎ (FailsToRead library names o ⊎ ((texts : List (List ℕ)) × AreTexts library.contents names texts × outcomes (unit_of texts) o))

-- ---- the outcomes of files on an input, by what their unit comes to on it

-- nothing was taken of the input
abbrev pub IsUntouched : Intake → Type 0
IsUntouched intake = (intake.after ≡ intake.before) × (intake.faults_after ≡ intake.faults_before)

-- the input, where it tells what it has; nothing of it is left
abbrev pub IsInput : Intake → List ℕ → Type 0
IsInput intake bytes = IfSome intake.before (λ told. (told ≡ bytes) × (intake.after ≡ Some []))

-- the input has more than 16,777,216 bytes, where it tells what it has
abbrev pub IsLongInput : Intake → Type 0
IsLongInput intake = IfSome intake.before (λ told. 16777216 < length told)

-- the input could not be read, since its count of faults rose
abbrev pub FailsToReadInput : Intake → Outcome → Type 0
FailsToReadInput intake o = HasRisen intake.faults_before intake.faults_after × (o ≡ fault_outcome faults.ReadInput)

-- the input could not be read, or it is too long, or the unit runs on it
abbrev pub AnswersInput : (Parts → List ℕ → Outcome → Type 0) → Parts → Intake → Outcome → Type 0
AnswersInput ends parts intake o =
    FailsToReadInput intake o
    ⊎ ((IsLongInput intake × (o ≡ fault_outcome (faults.Limit Input)))
    ⊎ ((input : List ℕ) × IsInput intake input × (length input ≤ 16777216) × ends parts input o))

-- the texts are refused, and the input is untouched; or their unit goes on with the input
abbrev pub AnswersTexts : (Parts → List ℕ → Outcome → Type 0) → Result Parts AsmFault → Intake → Outcome → Type 0
AnswersTexts ends read intake o =
    (IsUntouched intake × ((fault : Fault) × RefusesTexts read fault × (o ≡ fault_outcome fault))) ⊎ ((parts : Parts) × IsRunnable read parts × AnswersInput ends parts intake o)

-- memory was wanting; or a file was not read, and the input is untouched; or there are texts
abbrev pub AnswersRun : (Parts → List ℕ → Outcome → Type 0) → Library → List (List ℕ) → Intake → Outcome → Type 0
AnswersRun ends library names intake o =
    IsWant o ⊎ ((IsUntouched intake × FailsToRead library names o) ⊎ ((texts : List (List ℕ)) × AreTexts library.contents names texts × AnswersTexts ends (unit_of texts) intake o))

-- ---- the answer

-- the answer on a job that is built
abbrev pub AnswersJob : Built → Library → Intake → Output → Output → Exit → Type 0
AnswersJob (Runs b files) library intake out err exit = Answers (AnswersRun (RunsTo b) library files intake) files out err exit
AnswersJob (Plains b files) library intake out err exit = Answers (AnswersRun (RunsTo b) library files intake) files out err exit
AnswersJob (Checks files) library intake out err exit = IsUntouched intake × Answers (AnswersFiles IsCheckOutcome library files) files out err exit
AnswersJob (Posts files) library intake out err exit = IsUntouched intake × Answers (AnswersFiles IsPostOutcome library files) files out err exit

-- the words ask for no job, or for one that isn't built
abbrev pub RefusesWords : Intake → Output → Output → Exit → Type 0
RefusesWords intake out err exit = IsUntouched intake × Answers (λ o. o ≡ fault_outcome faults.Usage) [] out err exit

-- the answer of the program
abbrev pub IsAnswer : List (List ℕ) → Library → Intake → Output → Output → Exit → Type 0
IsAnswer words library intake out err exit =
    Answers IsWant [] out err exit ⊎ ((AsksForNone words × RefusesWords intake out err exit) ⊎ ((job : Built) × AsksFor words job × AnswersJob job library intake out err exit))
