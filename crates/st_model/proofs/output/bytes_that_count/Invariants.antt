use Rattle.std.proofs.Common.{◌≡◌, ◌≤◌, ℕ, take}
use Rattle.std.specs.List.{count_by}
use Rattle.st_base.specs.EventKey.{event_key}
use Rattle.st_model.specs.Quiet.{counts}
use Rattle.st_model.proofs.output.bytes_that_count.Given as goal

-- so many of the bytes behind it count
abbrev pub invariant-loop-printed : goal.invariant-loop-printed
invariant-loop-printed l = record {
  within : l.count ≤ l.printed-index;
  many : (forks : ℕ) → l.count ≡ count_by (counts l.path (event_key l.path forks)) (take l.printed-index l.out);
}
