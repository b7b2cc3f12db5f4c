use Rattle.std.proofs.Common.{ℕ, ◌+◌, ◌*◌, arith, subst, sym}
use Rattle.st_stack.specs.Exported.{IsRange}
use Rattle.st_phases.proofs.Stacks.{on_range}
use Rattle.st_phases.proofs.automaton.Automaton.open.Goals as goal

pub open-requires : goal.open-requires
open-requires c =
    let limits = c.args.limits.now in
    let bytes = c.from-bytes.ensures in
    let least = limits.stack_least in
    let most = limits.stack_most in
    record { range = subst (λ (n : ℕ). IsRange (2147483648 + c.from.result * n) (2147483648 + c.from.result * n + n)) (sym bytes) (on_range c.from.result limits.stack (omega (arith, least)) most limits.stack_multiple) }
