use Rattle.std.proofs.Common.{arith, ◌≡◌}
use Rattle.std.proofs.lemmas.List.{length-set}
use Rattle.st_base.proofs.SlotBytes.{store_more, store_none}
use Rattle.st_base.proofs.slots.store.Goals as goal

pub loop-left-preserved : goal.loop-left-preserved
loop-left-preserved c =
    let more = store_more c.loop-left.cells c.loop-left.place c.loop-left.left c.loop-left.value (omega arith) in
    record {
      room = rw c.set.ensures (rw length-set (omega arith));
      place = omega arith;
      same = cc (more, c.set.ensures, c.loop-left.invariant.same);
    }

pub returns : goal.returns
returns c =
    let none : c.loop-left.left ≡ 0 = omega arith in
    cc (none, store_none c.loop-left.cells c.loop-left.place c.loop-left.value, c.loop-left.invariant.same)
