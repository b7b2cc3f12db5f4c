use Rattle.std.proofs.Common.{◌≡◌, ◌-◌, ◌∙◌, ap, sym, drop, arith}
use Rattle.st_check.specs.Faults.{line_before}
use Rattle.st_check.proofs.LeastFaults.{line_before-none}
use Rattle.st_check.proofs.faults.line_before.Goals as goal

pub returns : goal.returns
returns c =
    let none : c.args.count - c.loop-at.at ≡ 0 = omega arith in
    sym (c.loop-at.invariant ∙ ap (λ n. line_before c.loop-at.last n (drop c.loop-at.at c.args.items.now)) none ∙ line_before-none c.loop-at.last (drop c.loop-at.at c.args.items.now))
