use Rattle.std.proofs.Common.{rules, ◌<◌, ◌≤◌, ◌+◌, ◌∙◌, arith, inr}
use Rattle.std.specs.Prelude.{◌%◌}
use Rattle.st_stack.proofs.Trying.{added_below}
use Rattle.st_stack.proofs.full.a_stack_full_of_frames_is_exported.Goals as goal

pub export-requires-clause-apart : goal.export-requires-clause-apart
export-requires-clause-apart g c = λ f there other. inr (c.loop-low.invariant.under f there)

pub loop-low-preserved : goal.loop-low-preserved
loop-low-preserved g c =
    let inv = c.loop-low.invariant in
    let even = inv.even in
    let less : c.loop-low.low < 0x8010_0000 = search rules in
    record {
      lo = c.export.ensures.ends.0 ∙ inv.lo;
      hi = c.export.ensures.ends.1 ∙ inv.hi;
      from = omega (arith, inv.from);
      to = omega (arith, less, even);
      even = omega (arith, even);
      under = added_below c.loop-low.stack.exported c.export.new.self.exported _ c.export.result c.loop-low.low (c.loop-low.low + 16) inv.under (omega arith) (omega arith) c.export.ensures.added;
    }
