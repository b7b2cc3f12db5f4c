use Rattle.std.proofs.Common.{◌∙◌, sym}
use Rattle.st_step.proofs.RolesSuit.{register_suits, immediate_suits, upper_suits}
use Rattle.st_step.proofs.decoded.role_by_kind.Goals as goal

pub returns-in-Register : goal.returns-in-Register
returns-in-Register c = register_suits c.args.i (sym c.kind.ensures ∙ c.in-Register.is)

pub returns-in-Immediate : goal.returns-in-Immediate
returns-in-Immediate c = immediate_suits c.args.i (sym c.kind.ensures ∙ c.in-Immediate.is)

pub returns-in-Upper : goal.returns-in-Upper
returns-in-Upper c = upper_suits c.args.i (sym c.kind.ensures ∙ c.in-Upper.is)
