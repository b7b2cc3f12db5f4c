use Rattle.std.proofs.Common.{◌∙◌}
use Rattle.std.specs.Prelude.{◌-ℤ◌, neg_ℤ, pos}
use Rattle.st_base.specs.declared.reg.Reg.TheVariants.{S0}
use Rattle.st_check.specs.Shape.{open_lines, is_push}
use Rattle.st_check.proofs.prologue.departs_before.Goals as goal

pub returns-in-Some : goal.returns-in-Some
returns-in-Some c = λ rest. c.in-Some.ensures (open_lines c.args.label rest (is_push S0 (neg_ℤ c.args.first.now.imm -ℤ pos 16)))

pub returns-in-None : goal.returns-in-None
returns-in-None c = λ rest.
    c.in-None.ensures (open_lines c.args.label rest (is_push S0 (neg_ℤ c.args.first.now.imm -ℤ pos 16))) ∙ c.departs_at-in-None.ensures rest
