use Rattle.std.proofs.Common.{◌∙◌, sym}
use Rattle.std.specs.Prelude.{neg_ℤ}
use Rattle.st_check.specs.Shape.{open_saved, saved_registers}
use Rattle.st_check.proofs.prologue.open_frame.Goals as goal

pub returns-in-Some-clause-value : goal.returns-in-Some-clause-value
returns-in-Some-clause-value c = λ line. sym (c.in-Some.ensures (open_saved c.args.label (neg_ℤ c.args.first.now.imm) 0 saved_registers))

pub returns-in_ok-opening-in-None-clause-value : goal.returns-in_ok-opening-in-None-clause-value
returns-in_ok-opening-in-None-clause-value c = λ line.
    c.in_ok-opening-in-None.ensures.value ∙ sym (c.in-None.ensures (open_saved c.args.label (neg_ℤ c.args.first.now.imm) 0 saved_registers))
