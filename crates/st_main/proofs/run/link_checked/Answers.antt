use Rattle.std.proofs.Common.{length, subst, sym}
use Rattle.st_main.specs.Answer.{IsLinkFault}
use Rattle.st_main.specs.Making.{IsNamed, MemoryOr}
use Rattle.st_main.proofs.Posting.{link-fault, link-names}
use Rattle.st_main.proofs.Running.{image-of_unit}
use Rattle.st_main.proofs.run.link_checked.Goals as goal

pub returns-in-Ok-clause-image : goal.returns-in-Ok-clause-image
returns-in-Ok-clause-image c = image-of_unit c.args.checked.now c.in-Ok.image c.in-Ok.ensures.image

pub returns-in-Err-Fault-clause-fault : goal.returns-in-Err-Fault-clause-fault
returns-in-Err-Fault-clause-fault c =
    subst (MemoryOr (IsLinkFault c.args.checked.now.unit.now.functions)) (sym c.far_fault.ensures) (link-fault c.args.checked.now c.in-Err-Fault.fault.line c.in-Err-Fault.fault.distance (rw c.in-Err-Fault.field-0-is at c.in-Err-Fault.ensures.fault))

pub returns-in-Err-Fault-clause-names : goal.returns-in-Err-Fault-clause-names
returns-in-Err-Fault-clause-names c = λ texts parts reads same.
    subst (IsNamed (length texts)) (sym c.far_fault.ensures) (link-names c.args.checked.now texts parts c.in-Err-Fault.fault.line c.in-Err-Fault.fault.distance (rw c.in-Err-Fault.field-0-is at c.in-Err-Fault.ensures.fault) reads same)
