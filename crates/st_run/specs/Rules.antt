-- The laws of the rule, by what a program means to a board: rules.
use Rattle.st_base.specs.declared.limits.Limits.{Limits}
use Rattle.st_model.specs.declared.program.Program.{Program}
use Rattle.st_model.specs.Memory.{Data}
use Rattle.st_rule.specs.Laws.{RuleLaws}
use Rattle.st_rule.proofs.Filled.{rule_laws}
use Rattle.st_run.specs.Meanings.{meaning}

pub rules : (p : Program) (d : Data) (limits : Limits) → RuleLaws (meaning p d limits)
rules p d limits = rule_laws (meaning p d limits)
