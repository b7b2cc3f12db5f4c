use Rattle.std.proofs.Common.{◌∙◌}
use Rattle.st_model.specs.Memory.{data_of}
use Rattle.st_step.proofs.choose.act_of.Goals as goal

pub returns : goal.returns
returns c = c.role_act.ensures ∙ c.args.i.now.suits.moves (data_of c.args.rodata.now c.args.input.now) c.args.m.now
