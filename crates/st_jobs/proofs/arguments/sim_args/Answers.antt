use Rattle.std.proofs.Common.{◌≤◌, rules, subst, sym}
use Rattle.st_jobs.specs.Commands.{schedule_id}
use Rattle.st_jobs.specs.ByClap.{found_values}
use Rattle.st_jobs.proofs.ValueLemmas.{schedule_of-IsTurns}
use Rattle.st_jobs.proofs.arguments.sim_args.Goals as goal

pub invariant_of-result-clause-schedule_least : goal.invariant_of-result-clause-schedule_least
invariant_of-result-clause-schedule_least c =
    let some : 1 ≤ c.in_ok-workers.workers = search rules in
    let few : c.in_ok-workers.workers ≤ 16 = search rules in
    let turns = schedule_of-IsTurns c.in_ok-workers.workers (found_values c.args.matches.now schedule_id) _ some few c.in_ok-schedule.ensures.ok in
    subst (λ n. 1 ≤ n) (sym c.in_ok-schedule.schedule.ok.0) turns.some

pub invariant_of-result-clause-schedule_most : goal.invariant_of-result-clause-schedule_most
invariant_of-result-clause-schedule_most c =
    let some : 1 ≤ c.in_ok-workers.workers = search rules in
    let few : c.in_ok-workers.workers ≤ 16 = search rules in
    let turns = schedule_of-IsTurns c.in_ok-workers.workers (found_values c.args.matches.now schedule_id) _ some few c.in_ok-schedule.ensures.ok in
    subst (λ n. n ≤ 4096) (sym c.in_ok-schedule.schedule.ok.0) turns.few

pub invariant_of-result-clause-schedule_workers : goal.invariant_of-result-clause-schedule_workers
invariant_of-result-clause-schedule_workers c =
    let some : 1 ≤ c.in_ok-workers.workers = search rules in
    let few : c.in_ok-workers.workers ≤ 16 = search rules in
    let turns = schedule_of-IsTurns c.in_ok-workers.workers (found_values c.args.matches.now schedule_id) _ some few c.in_ok-schedule.ensures.ok in
    turns.below
