use Rattle.std.proofs.Common.{◌≡◌}
use Rattle.st_jobs.specs.Values.{workers_in_order}
use Rattle.st_jobs.proofs.schedule.in_order.Given as goal

abbrev pub invariant-loop-worker : goal.invariant-loop-worker
invariant-loop-worker l = l.order.items ≡ workers_in_order l.worker
