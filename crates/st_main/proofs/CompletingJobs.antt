-- That the program does the job that its words ask for where nothing stands in its way (completes-words): words ask for one job at most
-- (one-job), and its command's answer completes it.
use Rattle.std.proofs.Common.{◌≡◌, ℕ, Bool, true, false, List, [], ◌∷◌, Some, ap, sym, ◌∙◌, subst, inl, inr}
use Rattle.std.specs.Prelude.{codes}
use Rattle.std.specs.Str.{bytes_eq}
use Rattle.st_model.specs.Bounded.{Bounds}
use Rattle.st_jobs.specs.Commands.{Asked, Setting, job_of}
use Rattle.st_print.specs.declared.fault.Fault.TheVariants as faults
use Rattle.st_main.specs.declared.exit.Exit.{Exit}
use Rattle.st_main.specs.declared.exit.Exit.TheVariants.{OutOfMemory}
use Rattle.st_main.specs.Answer.{Built, Runs, Plains, Checks, Posts, asked_by, AsksFor, Library, Intake, Output, AnswersJob, IsAnswer, RunsTo}
use Rattle.st_main.specs.Complete.{CompletesJob, Completes}
use Rattle.st_main.proofs.Answering.{fault-exit}
use Rattle.st_main.proofs.Completing.{completes-check, completes-post, completes-run}

-- ---- what is asked tells the job

-- what settings say of limits
abbrev values-behind : List Setting → List Setting
values-behind [] = []
values-behind (s ∷ ss) = ss

abbrev first-value : List Setting → ℕ
first-value [] = 0
first-value (s ∷ ss) = s.value

abbrev bounds-in : List Setting → Bounds
bounds-in ss = record { steps = first-value (values-behind (values-behind (values-behind ss))); cells = first-value (values-behind (values-behind ss)); stack = first-value (values-behind ss) }

-- which command is asked for
abbrev is-command : List ℕ → Asked → Bool
is-command name a = bytes_eq a.command name

no-command : true ≡ false → ⊥
no-command e = cc

one-asked : (a b : Built) → asked_by a ≡ asked_by b → a ≡ b
one-asked (Runs b f) (Runs b' f') e = ap (λ (a : Asked). Runs (bounds-in a.settings) a.files) e
one-asked (Plains b f) (Plains b' f') e = ap (λ (a : Asked). Plains (bounds-in a.settings) a.files) e
one-asked (Checks f) (Checks f') e = ap (λ (a : Asked). Checks a.files) e
one-asked (Posts f) (Posts f') e = ap (λ (a : Asked). Posts a.files) e
one-asked (Runs b f) (Plains b' f') e = absurd (no-command (ap (is-command (codes "run")) e))
one-asked (Runs b f) (Checks f') e = absurd (no-command (ap (is-command (codes "run")) e))
one-asked (Runs b f) (Posts f') e = absurd (no-command (ap (is-command (codes "run")) e))
one-asked (Plains b f) (Runs b' f') e = absurd (no-command (ap (is-command (codes "plain")) e))
one-asked (Plains b f) (Checks f') e = absurd (no-command (ap (is-command (codes "plain")) e))
one-asked (Plains b f) (Posts f') e = absurd (no-command (ap (is-command (codes "plain")) e))
one-asked (Checks f) (Runs b' f') e = absurd (no-command (ap (is-command (codes "check")) e))
one-asked (Checks f) (Plains b' f') e = absurd (no-command (ap (is-command (codes "check")) e))
one-asked (Checks f) (Posts f') e = absurd (no-command (ap (is-command (codes "check")) e))
one-asked (Posts f) (Runs b' f') e = absurd (no-command (ap (is-command (codes "post")) e))
one-asked (Posts f) (Plains b' f') e = absurd (no-command (ap (is-command (codes "post")) e))
one-asked (Posts f) (Checks f') e = absurd (no-command (ap (is-command (codes "post")) e))

one-job : (words : List (List ℕ)) (a b : Built) → AsksFor words a → AsksFor words b → a ≡ b
one-job words a b p q = let same : Some (asked_by a) ≡ Some (asked_by b) = sym p ∙ q in one-asked a b cc

-- ---- the job

-- a command's answer completes its job
job-completes : (job : Built) (library : Library) (intake : Intake) (out err : Output) (exit : Exit) → AnswersJob job library intake out err exit → CompletesJob job library intake out err exit
job-completes (Runs b files) library intake out err exit is = completes-run (RunsTo b) library files intake out err exit is
job-completes (Plains b files) library intake out err exit is = completes-run (RunsTo b) library files intake out err exit is
job-completes (Checks files) library intake out err exit is = completes-check library files out err exit is.1
job-completes (Posts files) library intake out err exit is = completes-post library files out err exit is.1

-- nothing is promised where memory is wanting
want-completes : (job : Built) (library : Library) (intake : Intake) (out err : Output) (exit : Exit) → exit ≡ OutOfMemory → CompletesJob job library intake out err exit
want-completes (Runs b files) library intake out err exit want = record { refused = λ texts fault well. absurd (well.memory want); done = λ texts parts input well. absurd (well.memory want) }
want-completes (Plains b files) library intake out err exit want = record { refused = λ texts fault well. absurd (well.memory want); done = λ texts parts input well. absurd (well.memory want) }
want-completes (Checks files) library intake out err exit want = record { any = λ texts well. absurd (well.memory want); done = λ texts parts well. absurd (well.memory want) }
want-completes (Posts files) library intake out err exit want = record { any = λ texts well. absurd (well.memory want); done = λ texts parts well. absurd (well.memory want) }

pub completes-words : (words : List (List ℕ)) (library : Library) (intake : Intake) (out err : Output) (exit : Exit) → IsAnswer words library intake out err exit → Completes words library intake out err exit
completes-words words library intake out err exit (inl want) = λ job asks. want-completes job library intake out err exit (fault-exit faults.OutOfMemory [] out err exit want)
completes-words words library intake out err exit (inr (inl (none, refuses))) = λ job asks. absurd (none job asks)
completes-words words library intake out err exit (inr (inr (made, asked, answers))) = λ job asks.
    subst (λ j. CompletesJob j library intake out err exit) (one-job words made job asked asks) (job-completes made library intake out err exit answers)
