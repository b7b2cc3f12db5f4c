use Rattle.st_flow.proofs.Adding.{merged_grown, merged_same, target_in}
use Rattle.st_flow.proofs.graph.merge.Goals as goal

pub returns-then-after-before : goal.returns-then-after-before
returns-then-after-before c =
    merged_same c.args.to c.in_ok-i.i c.args.carry _ c.args.sets.now.items c.in_ok-i.was (target_in _ _ _ c.in_ok-i.was c.requires) c.index-before.ensures c.if-after-before.true c.type_inv.sets

pub returns-else-after-before : goal.returns-else-after-before
returns-else-after-before c =
    merged_grown c.args.to c.in_ok-i.i c.args.carry _ c.args.sets.now.items c.in_ok-i.was (target_in _ _ _ c.in_ok-i.was c.requires) c.index-before.ensures c.if-after-before.false c.type_inv.sets
