use Rattle.std.proofs.Common.{◌≡◌, ◌∙◌, drop, map, rules}
use Rattle.std.specs.Prelude.{string_bytes}
use Rattle.st_jobs.specs.Commands.{sim_row, names_of}
use Rattle.st_jobs.proofs.JobLemmas.{job_by-found}
use Rattle.st_jobs.proofs.read.sim_job.Goals as goal

pub returns-clause-ok : goal.returns-clause-ok
returns-clause-ok c =
    let read = c.in_ok-matches.ensures.ok in
    let names : map (λ s. s.now) c.as_slice.result.now ≡ names_of sim_row = search rules in
    job_by-found sim_row _ (drop 1 (map string_bytes c.args.words.now)) read.0 c.in_ok-matches.matches names read.1 read.2 ∙ c.in_ok-args.ensures.ok

pub returns-in_err-args-clause-usage : goal.returns-in_err-args-clause-usage
returns-in_err-args-clause-usage c e =
    let read = c.in_ok-matches.ensures.ok in
    let names : map (λ s. s.now) c.as_slice.result.now ≡ names_of sim_row = search rules in
    job_by-found sim_row _ (drop 1 (map string_bytes c.args.words.now)) read.0 c.in_ok-matches.matches names read.1 read.2 ∙ c.in_err-args.ensures.usage (search rules)
