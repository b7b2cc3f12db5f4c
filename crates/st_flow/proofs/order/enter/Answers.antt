use Rattle.std.proofs.Common.{length, refl}
use Rattle.st_flow.proofs.Spreading.{next_in, to_in}
use Rattle.st_flow.proofs.DepthFirst.{entered}
use Rattle.st_flow.proofs.order.enter.Goals as goal

pub returns-clause-stack : goal.returns-clause-stack
returns-clause-stack c =
    (entered (length c.args.nodes.now) _ _ _ _ _ _ c.args.j c.in_ok-push.ensures.items c.requires.node (next_in c.args.nodes.now c.args.j _ _ c.requires.edges c.requires.node refl) (to_in c.args.nodes.now c.args.j _ _ c.requires.edges c.requires.node refl) c.in_ok-note.ensures c.in_ok-note-2.ensures c.requires.stack).0

pub returns-clause-few : goal.returns-clause-few
returns-clause-few c =
    (entered (length c.args.nodes.now) _ _ _ _ _ _ c.args.j c.in_ok-push.ensures.items c.requires.node (next_in c.args.nodes.now c.args.j _ _ c.requires.edges c.requires.node refl) (to_in c.args.nodes.now c.args.j _ _ c.requires.edges c.requires.node refl) c.in_ok-note.ensures c.in_ok-note-2.ensures c.requires.stack).1
