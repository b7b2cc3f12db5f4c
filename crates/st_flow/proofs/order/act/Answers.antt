use Rattle.std.proofs.Common.{◌<◌, length, subst}
use Rattle.st_flow.specs.Order.{node_of}
use Rattle.st_flow.proofs.DepthFirst.{nodes_push}
use Rattle.st_flow.proofs.order.act.Goals as goal

pub returns-in_ok-push-in-Leave-clause-left : goal.returns-in_ok-push-in-Leave-clause-left
returns-in_ok-push-in-Leave-clause-left c =
    nodes_push (length c.args.nodes.now) _ _ c.in-Leave.j c.in_ok-push-in-Leave.ensures.items (subst (λ v. node_of v < length c.args.nodes.now) c.in-Leave.is c.requires.visit) c.requires.left
