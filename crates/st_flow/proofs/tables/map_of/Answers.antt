use Rattle.std.proofs.Common.{◌∙◌, length, arith, subst, sym, ap}
use Rattle.std.specs.Prelude.{◌↔◌}
use Rattle.st_flow.specs.Graph.{InRange, HasBit, IsWalked}
use Rattle.st_flow.proofs.TableRows.{graph_in_range}
use Rattle.st_flow.proofs.Travelling.{walked_reached}
use Rattle.st_flow.proofs.tables.map_of.Goals as goal

pub ranks_of-requires-clause-edges : goal.ranks_of-requires-clause-edges
ranks_of-requires-clause-edges c = subst InRange (sym c.deref.ensures.value) (graph_in_range c.args.function.now _ c.in_ok-nodes.ensures.graph c.in_ok-nodes.ensures.long c.requires.stays)

pub reached-requires-clause-edges : goal.reached-requires-clause-edges
reached-requires-clause-edges c = subst InRange (sym c.deref-2.ensures.value) (graph_in_range c.args.function.now _ c.in_ok-nodes.ensures.graph c.in_ok-nodes.ensures.long c.requires.stays)

pub returns : goal.returns
returns c =
    let long = c.in_ok-nodes.ensures.long in
    let one = c.deref.ensures.value in
    let two = c.deref-2.ensures.value in
    record {
      some = let s = c.requires.some in omega arith;
      long = long;
      edges = c.in_ok-nodes.ensures.graph;
      range = graph_in_range c.args.function.now _ c.in_ok-nodes.ensures.graph long c.requires.stays;
      ranked = c.in_ok-ranks.ensures ∙ ap length one;
      marked = c.in_ok-reach.ensures.long ∙ ap length two;
      reached = λ i. walked_reached c.args.function.now _ i _ c.in_ok-nodes.ensures.graph (subst (λ n. HasBit c.in_ok-reach.reach.items i 0 ↔ IsWalked n i) two (c.in_ok-reach.ensures.bits i));
    }
