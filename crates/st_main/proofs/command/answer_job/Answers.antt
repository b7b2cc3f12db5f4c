use Rattle.std.proofs.Common.{◌∙◌, Some, ap, inl, inr, refl}
use Rattle.st_jobs.specs.Jobs.{asked_of, file_texts}
use Rattle.st_plain.specs.Answer.{bounds_of}
use Rattle.st_main.specs.Answer.{Runs, Plains, Checks, Posts}
use Rattle.st_main.proofs.Asking.{asks-plain, asks-run, other-asks_none, workers-asks_none}
use Rattle.st_main.proofs.command.answer_job.Goals as goal

pub returns-then-args-eq-WORKERS : goal.returns-then-args-eq-WORKERS
returns-then-args-eq-WORKERS g c = λ words asks.
    inr (inr (Runs (bounds_of c.in-Run.args.limits) (file_texts c.in-Run.args.names), asks-run words c.args.job.now c.in-Run.args asks c.in-Run.is c.if-args-eq-WORKERS.true, c.plain_command.ensures.answer))

pub returns-else-args-eq-WORKERS : goal.returns-else-args-eq-WORKERS
returns-else-args-eq-WORKERS g c = λ words asks.
    inr (inl (workers-asks_none words c.args.job.now c.in-Run.args asks c.in-Run.is c.if-args-eq-WORKERS.false, ((refl, refl), c.refuse.ensures)))

pub returns-in-Plain : goal.returns-in-Plain
returns-in-Plain g c = λ words asks.
    inr (inr (Plains (bounds_of c.in-Plain.args.limits) (file_texts c.in-Plain.args.names), asks-plain words c.args.job.now c.in-Plain.args asks c.in-Plain.is, c.plain_command-in-Plain.ensures.answer))

pub returns-in-Check : goal.returns-in-Check
returns-in-Check g c = λ words asks.
    inr (inr (Checks (file_texts c.in-Check.names), asks ∙ ap (λ j. Some (asked_of j)) c.in-Check.is, ((refl, refl), c.check_command.ensures.answer)))

pub returns-in-Post : goal.returns-in-Post
returns-in-Post g c = λ words asks.
    inr (inr (Posts (file_texts c.in-Post.names), asks ∙ ap (λ j. Some (asked_of j)) c.in-Post.is, ((refl, refl), c.post_command.ensures.answer)))

pub returns-in_default : goal.returns-in_default
returns-in_default g c = λ words asks.
    inr (inl (other-asks_none words c.args.job.now asks c.in_default.not-Run c.in_default.not-Plain c.in_default.not-Check c.in_default.not-Post, ((refl, refl), c.refuse-in_default.ensures)))
