use Rattle.std.proofs.Common.{map}
use Rattle.st_jobs.specs.Commands.{schedule_id}
use Rattle.st_jobs.proofs.FoundValues.{found_values-some, found_values-none}
use Rattle.st_jobs.proofs.schedule.schedule.Goals as goal

pub returns-in-Some-clause-ok : goal.returns-in-Some-clause-ok
returns-in-Some-clause-ok c =
    let found = found_values-some c.args.matches.now schedule_id (map (λ s. s.now) c.in-Some.values.now) c.in-Some.ensures in
    rw (← found) c.schedule_of.ensures.ok

pub returns-in-Some-clause-usage : goal.returns-in-Some-clause-usage
returns-in-Some-clause-usage c =
    let found = found_values-some c.args.matches.now schedule_id (map (λ s. s.now) c.in-Some.values.now) c.in-Some.ensures in
    rw (← found) c.schedule_of.ensures.usage

pub returns-in-None-clause-ok : goal.returns-in-None-clause-ok
returns-in-None-clause-ok c =
    let found = found_values-none c.args.matches.now schedule_id c.in-None.ensures in
    rw (← found) c.schedule_of-in-None.ensures.ok

pub returns-in-None-clause-usage : goal.returns-in-None-clause-usage
returns-in-None-clause-usage c =
    let found = found_values-none c.args.matches.now schedule_id c.in-None.ensures in
    rw (← found) c.schedule_of-in-None.ensures.usage
