use Rattle.std.proofs.Common.{length, ◌-◌, ◌≡◌, ◌≤◌}
use Rattle.std.specs.Ordering.{nat_cmp}
use Rattle.std.specs.Cmp.Lexicographic.{slice_cmp}
use Rattle.st_base.specs.EventKey.{event_key}
use Rattle.st_base.proofs.KeyOrder.{order_from}
use Rattle.st_base.proofs.key.key_cmp.Given as goal

abbrev pub invariant-loop-i : goal.invariant-loop-i
invariant-loop-i l = record {
  in_p : l.i ≤ length l.a;
  in_q : l.i ≤ length l.b;
  same : order_from l.a l.pj l.b l.qj l.i ≡ slice_cmp nat_cmp (event_key l.a l.pj) (event_key l.b l.qj);
}

abbrev pub decreases-loop-i : goal.decreases-loop-i
decreases-loop-i l = length l.a - l.i
