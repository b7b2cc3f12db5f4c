use Rattle.std.proofs.Common.{sym, ◌∙◌, arith, ◌≡◌, ◌+◌, ◌-◌, subst}
use Rattle.st_model.specs.Ordinary.{TalliesWithin}
use Rattle.st_model.proofs.Steps.{run_goes, run_over, run_ended, step_within}
use Rattle.st_model.proofs.Ending.{step_ordered}
use Rattle.st_model.proofs.ordinary.run.Goals as goal

pub loop-left-preserved : goal.loop-left-preserved
loop-left-preserved c =
    let here = sym c.in_ok-step.ensures ∙ c.in-Goes.is in
    let one : c.args.steps - c.loop-left.left + 1 ≡ c.args.steps - (c.loop-left.left - 1) = omega arith in
    record {
      left = omega arith;
      same = sym (run_goes _ _ _ _ _ (omega arith) here) ∙ c.loop-left.invariant.same;
      tallies = subst (λ n. TalliesWithin n c.in-Goes.next.rest) one (step_within _ _ _ _ _ c.loop-left.invariant.tallies here);
      order = step_ordered _ _ _ _ c.loop-left.invariant.order here;
    }

pub returns-in-Over : goal.returns-in-Over
returns-in-Over c = sym (run_over _ _ _ _ _ (omega arith) (sym c.in_ok-step.ensures ∙ c.in-Over.is)) ∙ c.loop-left.invariant.same

pub returns : goal.returns
returns c = sym (run_ended _ _ _ _ (omega arith)) ∙ c.loop-left.invariant.same
