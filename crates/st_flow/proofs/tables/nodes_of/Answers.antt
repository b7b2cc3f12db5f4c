use Rattle.std.proofs.Common.{◌≡◌, ◌≤◌, ◌⊎◌, ℕ, length, arith, subst, Some}
use Rattle.std.specs.Prelude.{◌↔◌}
use Rattle.st_model.specs.Flow.{IsNext}
use Rattle.st_flow.proofs.TableRows.{graph_more, graph_all}
use Rattle.st_flow.proofs.tables.nodes_of.Goals as goal

pub loop-i-preserved : goal.loop-i-preserved
loop-i-preserved c =
    let n = c.in_ok-push.ensures.len in
    let item = c.kind_at.ensures in
    record {
      long = let m = c.loop-i.invariant.long in omega arith;
      exact = graph_more c.args.function.now _ _ _ c.loop-i.i item.0 c.loop-i.invariant.long c.in_ok-push.ensures.items item.1
          (subst (λ kind. (k : ℕ) → ((c.node_of.result.next ≡ Some k) ⊎ (c.node_of.result.to ≡ Some k)) ↔ IsNext kind c.loop-i.i k) item.2 c.node_of.ensures) c.loop-i.invariant.exact;
    }

pub returns-clause-graph : goal.returns-clause-graph
returns-clause-graph c =
    let all : length c.args.function.now.items ≤ c.loop-i.i = let e = c.len-i-end.ensures in omega arith in
    graph_all c.args.function.now _ c.loop-i.i all c.loop-i.invariant.exact
