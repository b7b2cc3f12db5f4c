use Rattle.std.proofs.Common.{◌-◌, ◌≡◌, ℕ, ◌≤◌}
use Rattle.std.specs.Prelude.{◌%◌}
use Rattle.std.specs.List.{Contains}
use Rattle.st_base.specs.declared.chain.Frame.{Frame}
use Rattle.st_stack.proofs.full.a_stack_full_of_frames_is_exported.Given as goal

abbrev pub invariant-loop-low : goal.invariant-loop-low
invariant-loop-low g l = record {
  lo : l.stack.lo ≡ 0x8000_0000;
  hi : l.stack.hi ≡ 0x8010_0000;
  from : 0x8000_0000 ≤ l.low;
  to : l.low ≤ 0x8010_0000;
  even : l.low % 16 ≡ 0;
  under : (f : Frame) → Contains l.stack.exported f → f.base ≤ l.low;
}

abbrev pub decreases-loop-low : goal.decreases-loop-low
decreases-loop-low g l = 2148532224 - l.low
