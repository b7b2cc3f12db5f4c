use Rattle.std.proofs.Common.{◌∙◌, ◌+◌, ◌++◌, drop, ap, sym, arith}
use Rattle.st_check.specs.declared.body.Placed.{Placed}
use Rattle.st_check.specs.Programs.{items_of}
use Rattle.st_check.specs.Views.{groups_view}
use Rattle.st_check.proofs.ItemSteps.{items_of-skips, items_of-steps}
use Rattle.st_check.proofs.program.items_of.Goals as goal
use Rattle.st_check.proofs.program.items_of.Goals.{then-forked, else-forked+in_ok-item+in_ok-push-2}

pub loop-at-preserved : goal.loop-at-preserved
loop-at-preserved c = λ functions names numbers.
    let gs = groups_view c.args.groups.now in
    let rest = groups_view (drop (c.loop-at.at + 1) c.args.groups.now) in
    elim c.if-forked.branch [
      | then-forked w ↦
          ((λ j. w.items-is j ++ items_of functions gs (w.forked-is j) rest)
          ∙ ap (λ t. c.loop-at.items ++ t) (items_of-skips functions gs c.args.groups.now c.loop-at.at c.index-groups-at.result c.loop-at.forked (omega arith) c.index-groups-at.is w.if-forked.true)
          ∙ c.loop-at.invariant functions names numbers)
      | else-forked+in_ok-item+in_ok-push-2 w ↦
          (items_of-steps functions gs c.args.groups.now c.loop-at.at c.index-groups-at.result _ c.loop-at.items c.if-forked.items w.in_ok-item.item c.loop-at.forked c.if-forked.forked (omega arith) c.index-groups-at.is (ap (λ (p : Placed). p.group) (sym c.index-groups-at.is)) w.if-forked.false (w.in_ok-item.ensures functions gs names numbers) (w.items-is ∙ w.in_ok-push-2.ensures.ok) (w.forked-is ∙ w.is_fork_group-forked.ensures)
          ∙ c.loop-at.invariant functions names numbers)
    ]
