-- The answers of the program. form-fault, form-names: that of a unit that isn't
-- accepted; link-refuses, unit-listed: what linking one comes to; unread-answers, refused-answers, made-answers: the outcome of files; comes-about: an answer by its outcome. usage-asks_none,
-- none-is_usage: when the answer is Usage.
use Rattle.std.proofs.Common.{◌≡◌, ℕ, ◌≤◌, List, [], length, Option, Some, None, refl, sym, ap, ◌∙◌, subst, arith, ◌⊎◌, inl, inr}
use Rattle.std.specs.Prelude.{option_map, Result, Ok, Err}
use Rattle.std.specs.Coded.{le_prop}
use Rattle.std.proofs.Math.Logic.{∥∥₁_elim}
use Rattle.st_base.specs.declared.line.Line.{Line}
use Rattle.st_base.specs.declared.limits.LimitKind.{LimitKind}
use Rattle.st_base.specs.declared.limits.LimitKind.TheVariants.{Stack, Cell, Step, Input}
use Rattle.st_line.specs.declared.fault.AsmFault.{AsmFault}
use Rattle.st_asm.specs.declared.unit.Function.{Function}
use Rattle.st_asm.specs.declared.whole.Unit.{Unit as Whole}
use Rattle.st_asm.specs.Assembly.{Parts, unit_of}
use Rattle.st_asm.specs.Reading.{parts_of}
use Rattle.st_model.specs.Layout.{far_branch}
use Rattle.st_check.specs.declared.accept.Checked.{Checked}
use Rattle.st_model.specs.declared.ordinary.OrdEnd.{OrdEnd}
use Rattle.st_model.specs.declared.ordinary.OrdEnd.TheVariants as ends
use Rattle.st_model.specs.Bounded.{Bounds, BoundedEnd, ended, past_steps, past_cells, past_stack, bounded_run}
use Rattle.st_model.specs.Memory.{data_of}
use Rattle.st_print.specs.declared.fault.Fault.{Fault}
use Rattle.st_print.specs.declared.fault.Fault.TheVariants as faults
use Rattle.st_print.specs.Telling.{NamesFiles}
use Rattle.st_check.specs.declared.fault.FormFault.{FormFault}
use Rattle.st_base.specs.declared.failure.Failure.TheVariants as errors
use Rattle.st_check.specs.Acceptance.{IsAcceptedUnit, IsFirstFault, IsFaultLine, IsErrorLine}
use Rattle.st_check.specs.Programs.{program_of as program_of'}
use Rattle.st_main.specs.declared.exit.Exit.{Exit}
use Rattle.st_main.specs.declared.exit.Exit.TheVariants.{Done, Usage, Refused, ReadFault, OutOfMemory}
use Rattle.st_main.specs.declared.outcome.Outcome.{Outcome}
use Rattle.st_main.specs.Listing.{listing_of}
use Rattle.st_print.specs.Canonical.{unit_text}
use Rattle.st_main.specs.Exit.{exit_at, exit_of}
use Rattle.st_main.specs.Making.{IsNamed, MemoryOr}
use Rattle.st_main.specs.Reading.{HasRead, IsReadFault}
use Rattle.st_main.specs.Answer.{Built, Runs, Plains, Checks, Posts, Library, Intake, Output, fault_outcome, text_outcome, outcome_of_end, outcome_of_bounded, IsFormFault, IsLinkFault, IsUnaccepted, IsAcceptedUnitOf, RefusesTexts, IsRunnable, IsOutcome, IsCanonical, IsListing, IsListingOf, IsWant, IsCheckOutcome, IsPostOutcome, FailsToRead, RunsTo, AsksForNone, ComesAbout, Answers, AnswersFiles, AnswersInput, AnswersTexts, AnswersRun, AnswersJob, IsAnswer}
use Rattle.st_main.proofs.Memory.{memory-or, memory-weaker}
use Rattle.st_main.proofs.ReadTexts.{read-same}
use Rattle.st_main.proofs.UnitLines.{unit_line-file}

-- ---- the fault of a unit that isn't accepted

pub form-fault : (functions : List Function) (fault : FormFault) → IsFirstFault functions fault × (IsAcceptedUnit functions → ⊥) → IsFormFault functions (faults.Checking fault.line fault.kind)
form-fault functions fault is = (fault, is.0, is.1, refl)

fault-file : (texts : List (List ℕ)) (parts : Parts) (line : Line) → 1 ≤ length texts → unit_of texts ≡ Ok parts → IsFaultLine parts.functions line → (1 ≤ line.file) × (line.file ≤ length texts)
fault-file texts parts line some reads (inl first) = let one : line.file ≡ 1 = ap (λ (l : Line). l.file) first in (omega arith, omega arith)
fault-file texts parts line some reads (inr is) = unit_line-file texts parts line reads is

pub form-names : (texts : List (List ℕ)) (parts : Parts) (fault : FormFault) → ∥ IsErrorLine parts.functions (errors.Fault fault) ∥₁ → 1 ≤ length texts → unit_of texts ≡ Ok parts → IsNamed (length texts) (faults.Checking fault.line fault.kind)
form-names texts parts fault lines some reads =
    let first : 1 ≤ fault.line.file = ∥∥₁_elim lines le_prop (λ l. (fault-file texts parts fault.line some reads l).0) in
    let last : fault.line.file ≤ length texts = ∥∥₁_elim lines le_prop (λ l. (fault-file texts parts fault.line some reads l).1) in
    λ names enough. (first, omega arith)

-- what linking an accepted unit of the texts comes to
module _ (read : Result Parts AsmFault) (unit : Whole) (checked : Checked) where
  accepted-of : read ≡ Ok (parts_of unit) → checked.unit.now ≡ unit → IsAcceptedUnitOf read (parts_of unit)
  accepted-of reads same = (reads, subst (λ u. ∥ IsAcceptedUnit u.functions ∥₁) same checked.is_accepted_unit)

  pub link-refuses : (fault : Fault) → read ≡ Ok (parts_of unit) → checked.unit.now ≡ unit → MemoryOr (IsLinkFault checked.unit.now.functions) fault → MemoryOr (RefusesTexts read) fault
  link-refuses fault reads same fails =
      memory-weaker (IsLinkFault checked.unit.now.functions) (RefusesTexts read) fault (λ f is. inr (parts_of unit, accepted-of reads same, subst (λ (u : Whole). IsLinkFault u.functions f) same is)) fails

  pub unit-listed : (text : List ℕ) → read ≡ Ok (parts_of unit) → checked.unit.now ≡ unit → (far_branch (program_of' checked.unit.now.functions) ≡ None) × IsListingOf checked.unit.now.functions (text_outcome text) → (parts : Parts) × IsRunnable read parts × IsListing parts (text_outcome text)
  unit-listed text reads same is =
      let here : (far_branch (program_of' unit.functions) ≡ None) × IsListingOf unit.functions (text_outcome text) = subst (λ (u : Whole). (far_branch (program_of' u.functions) ≡ None) × IsListingOf u.functions (text_outcome text)) same is in
      (parts_of unit, (accepted-of reads same, here.0), here.1)

-- ---- the outcome of files

module _ (outcomes : Result Parts AsmFault → Outcome → Type 0) (library : Library) (names : List (List ℕ)) where
  unread : (fault : Fault) → (fault ≡ faults.OutOfMemory) ⊎ IsReadFault library names fault → AnswersFiles outcomes library names (fault_outcome fault)
  unread fault (inl e) = inl (ap fault_outcome e)
  unread fault (inr (file, is, e)) = inr (inl (file, is, ap fault_outcome e))

  pub unread-answers : (fault : Fault) → MemoryOr (IsReadFault library names) fault → AnswersFiles outcomes library names (fault_outcome fault)
  unread-answers fault fails = unread fault (memory-or (IsReadFault library names) fault fails)

  pub made-answers : (read : List (List ℕ)) (o : Outcome) → HasRead library.contents names read → outcomes (unit_of read) o → AnswersFiles outcomes library names o
  made-answers read o h is = inr (inr (h.texts, h.are, subst (λ r. outcomes r o) (read-same h.texts read h.same) is))

module _ (refuses : Result Parts AsmFault → Fault → Type 0) (ready : Result Parts AsmFault → Parts → Type 0) (makes : Parts → Outcome → Type 0) (library : Library) (names : List (List ℕ)) where
  refused : (read : List (List ℕ)) (fault : Fault) → HasRead library.contents names read → (fault ≡ faults.OutOfMemory) ⊎ refuses (unit_of read) fault → AnswersFiles (IsOutcome refuses ready makes) library names (fault_outcome fault)
  refused read fault h (inl e) = inl (ap fault_outcome e)
  refused read fault h (inr is) = made-answers (IsOutcome refuses ready makes) library names read (fault_outcome fault) h (inl (fault, is, refl))

  pub refused-answers : (read : List (List ℕ)) (fault : Fault) → HasRead library.contents names read → MemoryOr (refuses (unit_of read)) fault → AnswersFiles (IsOutcome refuses ready makes) library names (fault_outcome fault)
  refused-answers read fault h fails = refused read fault h (memory-or (refuses (unit_of read)) fault fails)

-- the files that were not read are named
unread-named : (library : Library) (names : List (List ℕ)) (fault : Fault) → (fault ≡ faults.OutOfMemory) ⊎ IsReadFault library names fault → NamesFiles names fault
unread-named library names fault (inl e) = subst (NamesFiles names) (sym e) tt
unread-named library names fault (inr (file, is, e)) = subst (NamesFiles names) (sym e) is.named

pub unread-names : (library : Library) (names : List (List ℕ)) (fault : Fault) → MemoryOr (IsReadFault library names) fault → NamesFiles names fault
unread-names library names fault fails = unread-named library names fault (memory-or (IsReadFault library names) fault fails)

pub comes-about : (outcomes : Outcome → Type 0) (names : List (List ℕ)) (o : Outcome) (out err : Output) (exit : Exit) → outcomes o → ComesAbout names o out err exit → Answers outcomes names out err exit
comes-about outcomes names o out err exit is about = (o, is, about)

-- ---- no answer on a job that is built is Usage

abbrev NotUsage : Outcome → Type 0
NotUsage o = exit_of o.fault ≡ Usage → ⊥

fault-not_usage : (fault : Fault) (o : Outcome) → (exit_at fault ≡ Usage → ⊥) → o ≡ fault_outcome fault → NotUsage o
fault-not_usage fault o never is e = never (sym (ap (λ (x : Outcome). exit_of x.fault) is) ∙ e)

text-not_usage : (text : List ℕ) (o : Outcome) → o ≡ text_outcome text → NotUsage o
text-not_usage text o is e = let same : exit_of o.fault ≡ Done = ap (λ (x : Outcome). exit_of x.fault) is in cc

want-not_usage : (o : Outcome) → o ≡ fault_outcome faults.OutOfMemory → NotUsage o
want-not_usage o is e = let same : exit_of o.fault ≡ OutOfMemory = ap (λ (x : Outcome). exit_of x.fault) is in cc

read-not_usage : (library : Library) (names : List (List ℕ)) (o : Outcome) → FailsToRead library names o → NotUsage o
read-not_usage library names o (file, unread, is) e = let same : exit_of o.fault ≡ ReadFault = ap (λ (x : Outcome). exit_of x.fault) is in cc

unaccepted-not_usage : (read : Result Parts AsmFault) (fault : Fault) → IsUnaccepted read fault → exit_at fault ≡ Usage → ⊥
unaccepted-not_usage (Err f) fault is e = let same : exit_at fault ≡ Refused = ap exit_at is in cc
unaccepted-not_usage (Ok parts) fault (f, first, refused, is) e = let same : exit_at fault ≡ Refused = ap exit_at is in cc

refuses-not_usage : (read : Result Parts AsmFault) (fault : Fault) → RefusesTexts read fault → exit_at fault ≡ Usage → ⊥
refuses-not_usage read fault (inl is) e = unaccepted-not_usage read fault is e
refuses-not_usage read fault (inr (parts, accepted, (line, distance, far, is))) e = let same : exit_at fault ≡ Refused = ap exit_at is in cc

canonical-not_usage : (parts : Parts) (o : Outcome) → IsCanonical parts o → NotUsage o
canonical-not_usage parts o is = text-not_usage (unit_text parts.functions parts.rodata) o is

listing-not_usage : (parts : Parts) (o : Outcome) → IsListing parts o → NotUsage o
listing-not_usage parts o is e = ∥∥₁_elim is (λ x y. absurd x) (λ l. text-not_usage (listing_of parts.functions l.0) o l.2 e)

outcome-not_usage : (refuses : Result Parts AsmFault → Fault → Type 0) (ready : Result Parts AsmFault → Parts → Type 0) (makes : Parts → Outcome → Type 0) → ((read : Result Parts AsmFault) (fault : Fault) → refuses read fault → exit_at fault ≡ Usage → ⊥) → ((parts : Parts) (o : Outcome) → makes parts o → NotUsage o) → (read : Result Parts AsmFault) (o : Outcome) → IsOutcome refuses ready makes read o → NotUsage o
outcome-not_usage refuses ready makes refused made read o (inl (fault, is, same)) = fault-not_usage fault o (refused read fault is) same
outcome-not_usage refuses ready makes refused made read o (inr (parts, is, makes_it)) = made parts o makes_it

limit-not_usage : (kind : LimitKind) → NotUsage (fault_outcome (faults.Limit kind))
limit-not_usage kind e = cc

end-not_usage : (end : OrdEnd) → NotUsage (outcome_of_end end)
end-not_usage ends.Going e = cc
end-not_usage (ends.Done out) e = cc
end-not_usage (ends.Trap kind line path out) e = cc
end-not_usage (ends.Waits line path out) e = cc
end-not_usage (ends.OutLimit out) e = cc

bounded-not_usage : (b : Bounds) (end : BoundedEnd) → NotUsage (outcome_of_bounded b end)
bounded-not_usage b (ended end) = end-not_usage end
bounded-not_usage b past_steps = limit-not_usage (Step 0)
bounded-not_usage b past_cells = limit-not_usage (Cell b.cells)
bounded-not_usage b (past_stack frame) = limit-not_usage (Stack 0 frame)

mapped-not_usage : (b : Bounds) (r : Option BoundedEnd) (o : Outcome) → option_map (outcome_of_bounded b) r ≡ Some o → NotUsage o
mapped-not_usage b None o is = let no : ⊥ = cc in absurd no
mapped-not_usage b (Some end) o is = let same : outcome_of_bounded b end ≡ o = cc in subst NotUsage same (bounded-not_usage b end)

runs-not_usage : (b : Bounds) (parts : Parts) (input : List ℕ) (o : Outcome) → RunsTo b parts input o → NotUsage o
runs-not_usage b parts input o is = mapped-not_usage b (bounded_run (program_of' parts.functions) (data_of parts.rodata input) b) o is

files-not_usage : (outcomes : Result Parts AsmFault → Outcome → Type 0) (library : Library) (names : List (List ℕ)) (o : Outcome) → ((read : Result Parts AsmFault) (o : Outcome) → outcomes read o → NotUsage o) → AnswersFiles outcomes library names o → NotUsage o
files-not_usage outcomes library names o never (inl want) = want-not_usage o want
files-not_usage outcomes library names o never (inr (inl fails)) = read-not_usage library names o fails
files-not_usage outcomes library names o never (inr (inr (texts, are, is))) = never (unit_of texts) o is

input-not_usage : (b : Bounds) (parts : Parts) (intake : Intake) (o : Outcome) → AnswersInput (RunsTo b) parts intake o → NotUsage o
input-not_usage b parts intake o (inl (rose, is)) e = let same : exit_of o.fault ≡ ReadFault = ap (λ (x : Outcome). exit_of x.fault) is in cc
input-not_usage b parts intake o (inr (inl (long, is))) e = fault-not_usage (faults.Limit Input) o (limit-not_usage Input) is e
input-not_usage b parts intake o (inr (inr (input, is, few, ends))) e = runs-not_usage b parts input o ends e

run-not_usage : (b : Bounds) (library : Library) (names : List (List ℕ)) (intake : Intake) (o : Outcome) → AnswersRun (RunsTo b) library names intake o → NotUsage o
run-not_usage b library names intake o (inl want) = want-not_usage o want
run-not_usage b library names intake o (inr (inl (kept, fails))) = read-not_usage library names o fails
run-not_usage b library names intake o (inr (inr (texts, are, inl (kept, (fault, is, same))))) = fault-not_usage fault o (refuses-not_usage (unit_of texts) fault is) same
run-not_usage b library names intake o (inr (inr (texts, are, inr (parts, runnable, answers)))) = input-not_usage b parts intake o answers

about-not_usage : (outcomes : Outcome → Type 0) (names : List (List ℕ)) (out err : Output) (exit : Exit) → ((o : Outcome) → outcomes o → NotUsage o) → Answers outcomes names out err exit → exit ≡ Usage → ⊥
about-not_usage outcomes names out err exit never (o, is, inl happens) e = never o is (sym happens.0 ∙ e)
about-not_usage outcomes names out err exit never (o, is, inr breaks) e = let broke = breaks.0 in cc

check-not_usage : (read : Result Parts AsmFault) (o : Outcome) → IsCheckOutcome read o → NotUsage o
check-not_usage read o is = outcome-not_usage IsUnaccepted IsAcceptedUnitOf IsCanonical unaccepted-not_usage canonical-not_usage read o is

post-not_usage : (read : Result Parts AsmFault) (o : Outcome) → IsPostOutcome read o → NotUsage o
post-not_usage read o is = outcome-not_usage RefusesTexts IsRunnable IsListing refuses-not_usage listing-not_usage read o is

job-not_usage : (job : Built) (library : Library) (intake : Intake) (out err : Output) (exit : Exit) → AnswersJob job library intake out err exit → exit ≡ Usage → ⊥
job-not_usage (Runs b files) library intake out err exit is = about-not_usage (AnswersRun (RunsTo b) library files intake) files out err exit (run-not_usage b library files intake) is
job-not_usage (Plains b files) library intake out err exit is = about-not_usage (AnswersRun (RunsTo b) library files intake) files out err exit (run-not_usage b library files intake) is
job-not_usage (Checks files) library intake out err exit is =
    about-not_usage (AnswersFiles IsCheckOutcome library files) files out err exit (λ o. files-not_usage IsCheckOutcome library files o check-not_usage) is.1
job-not_usage (Posts files) library intake out err exit is =
    about-not_usage (AnswersFiles IsPostOutcome library files) files out err exit (λ o. files-not_usage IsPostOutcome library files o post-not_usage) is.1

-- so Usage comes only where the words ask for nothing that is built, and there nothing else comes but want of memory
wants-not_usage : (out err : Output) (exit : Exit) → Answers IsWant [] out err exit → exit ≡ Usage → ⊥
wants-not_usage out err exit is = about-not_usage IsWant [] out err exit want-not_usage is

pub usage-asks_none : (words : List (List ℕ)) (library : Library) (intake : Intake) (out err : Output) (exit : Exit) → IsAnswer words library intake out err exit → exit ≡ Usage → AsksForNone words
usage-asks_none words library intake out err exit (inl want) e = absurd (wants-not_usage out err exit want e)
usage-asks_none words library intake out err exit (inr (inl refuses)) e = refuses.0
usage-asks_none words library intake out err exit (inr (inr (job, asks, answers))) e = absurd (job-not_usage job library intake out err exit answers e)

-- where nothing is printed, the exit is that of the fault
pub fault-exit : (fault : Fault) (names : List (List ℕ)) (out err : Output) (exit : Exit) → Answers (λ o. o ≡ fault_outcome fault) names out err exit → exit ≡ exit_at fault
fault-exit fault names out err exit (o, is, inl happens) = happens.0 ∙ ap (λ (x : Outcome). exit_of x.fault) is
fault-exit fault names out err exit (o, is, inr breaks) = absurd (breaks.1 (ap (λ (x : Outcome). x.printed) is))

pub none-is_usage : (words : List (List ℕ)) (library : Library) (intake : Intake) (out err : Output) (exit : Exit) → IsAnswer words library intake out err exit → AsksForNone words → (exit ≡ Usage) ⊎ (exit ≡ OutOfMemory)
none-is_usage words library intake out err exit (inl want) none = inr (fault-exit faults.OutOfMemory [] out err exit want)
none-is_usage words library intake out err exit (inr (inl refuses)) none = inl (fault-exit faults.Usage [] out err exit refuses.1.1)
none-is_usage words library intake out err exit (inr (inr (job, asks, answers))) none = absurd (none job asks)
