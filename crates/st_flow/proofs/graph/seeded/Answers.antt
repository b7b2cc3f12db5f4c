use Rattle.std.proofs.Common.{subst, sym, ap, ◌∙◌, ◌+◌}
use Rattle.st_flow.specs.Graph.{IsBegun}
use Rattle.st_flow.proofs.Spreading.{begun_zero, begun_more}
use Rattle.st_flow.proofs.graph.seeded.Goals as goal
use Rattle.st_flow.proofs.graph.seeded.Goals.{then-seeds-i-ne0+in_ok-insert, else-seeds-i-ne0}

pub loop-i-preserved : goal.loop-i-preserved
loop-i-preserved c =
    elim c.if-seeds-i-ne0.branch [
      | then-seeds-i-ne0+in_ok-insert w ↦
          begun_more c.args.ranks.now c.args.seeds.now c.loop-i.i _ _ c.loop-i-test.true (ap (λ s. s.keys) w.waiting-is ∙ w.in_ok-insert.ensures.keys) c.loop-i.invariant
      | else-seeds-i-ne0 w ↦
          subst (λ s. IsBegun c.args.ranks.now c.args.seeds.now (c.loop-i.i + 1) s.keys) (sym w.waiting-is)
          (begun_zero c.args.ranks.now c.args.seeds.now c.loop-i.i _ w.if-seeds-i-ne0.false c.loop-i.invariant)
    ]
