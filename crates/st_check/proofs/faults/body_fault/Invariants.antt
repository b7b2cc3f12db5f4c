use Rattle.std.proofs.Common.{◌≡◌, ◌≤◌, List, drop, length}
use Rattle.st_asm.specs.declared.unit.Function.{Function}
use Rattle.st_check.specs.Faults.{group_faults}
use Rattle.st_check.specs.Views.{IsContext, IsBehind, formed_view, groups_view, least_onto}
use Rattle.st_check.proofs.faults.body_fault.Given as goal

abbrev pub invariant-loop-left : goal.invariant-loop-left
invariant-loop-left l = record {
  within : l.left ≤ length l.groups;
  faults : (functions : List Function) → IsContext functions l.context → (l.best ≡ least_onto (group_faults functions l.context.function l.context.slots (formed_view l.context.shape.now) (groups_view (drop l.left l.groups))) l.initial.best) × IsBehind functions l.behind (groups_view (drop l.left l.groups));
}

abbrev pub decreases-loop-left : goal.decreases-loop-left
decreases-loop-left l = l.left
