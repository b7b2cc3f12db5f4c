use Rattle.st_flow.proofs.Adding.{added_some, one_at_most}
use Rattle.st_flow.proofs.graph.add.Goals as goal

pub returns-in_ok-insert : goal.returns-in_ok-insert
returns-in_ok-insert c =
    added_some c.args.ranks.now c.args.to c.args.carry _ _ c.merge.result c.in-Some.i _ _ c.merge.ensures c.in-Some.is c.in_ok-insert.ensures.keys (one_at_most c.in_ok-insert.field-0 _ _ c.in_ok-insert.ensures.len)
