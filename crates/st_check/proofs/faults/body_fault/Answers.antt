use Rattle.std.proofs.Common.{◌≡◌, ◌∙◌, ◌-◌, ◌+◌, ◌∷◌, drop, ap, sym, subst, arith}
use Rattle.st_check.specs.declared.body.Placed.{Placed}
use Rattle.st_check.specs.Views.{IsBehind, formed_view, group_view, groups_view, least_onto}
use Rattle.st_check.specs.Faults.{group_faults, only_forks, forks_before}
use Rattle.st_check.specs.declared.body.Group.{Group as Group'}
use Rattle.st_check.proofs.LeastFaults.{least_onto-group, groups_view-read}
use Rattle.st_check.proofs.faults.body_fault.Goals as goal

pub loop-left-preserved : goal.loop-left-preserved
loop-left-preserved c = record {
  within = omega arith;
  faults = λ functions context.
      let i = c.loop-left.left - 1 in
      let p = c.index-groups-left.result in
      let gs = groups_view (drop c.loop-left.left c.args.groups.now) in
      let before = c.loop-left.invariant.faults functions context in
      let next : c.loop-left.left ≡ (c.loop-left.left - 1) + 1 = omega arith in (
        least_onto-group functions c.args.context.now.function c.args.context.now.slots (formed_view c.args.context.now.shape.now) c.args.groups.now i c.loop-left.left p _ c.args.best _ _ next (omega arith) c.index-groups-left.is (ap (λ (q : Placed). q.group) (sym c.index-groups-left.is)) (c.group_fault-best.ensures functions 0 gs context before.1) before.0,
        subst (λ hs. IsBehind functions c.before-behind.result hs) (sym (groups_view-read c.args.groups.now i c.loop-left.left p next (omega arith) c.index-groups-left.is))
            (subst (λ (q : Group'). IsBehind functions c.before-behind.result ((p.at, group_view q) ∷ gs)) (ap (λ (q : Placed). q.group) (sym c.index-groups-left.is)) (c.before-behind.ensures functions p.at gs context.names before.1)),
      );
}

pub returns : goal.returns
returns c = λ functions context.
    let none : c.loop-left.left ≡ 0 = omega arith in
    let before = c.loop-left.invariant.faults functions context in (
      before.0 ∙ ap (λ i. least_onto (group_faults functions c.args.context.now.function c.args.context.now.slots (formed_view c.args.context.now.shape.now) (groups_view (drop i c.args.groups.now))) c.args.best) none,
      (
        before.1.0 ∙ ap (λ i. only_forks (groups_view (drop i c.args.groups.now))) none,
        before.1.1 ∙ ap (λ i. forks_before functions (groups_view (drop i c.args.groups.now))) none,
      ),
    )
