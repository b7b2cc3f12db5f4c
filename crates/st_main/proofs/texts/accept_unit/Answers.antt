use Rattle.std.proofs.Common.{length, subst, sym}
use Rattle.std.specs.Prelude.{Ok}
use Rattle.st_asm.specs.Reading.{parts_of}
use Rattle.st_main.specs.Answer.{IsUnaccepted}
use Rattle.st_main.specs.Making.{IsNamed, MemoryOr}
use Rattle.st_main.proofs.Answering.{form-fault, form-names}
use Rattle.st_main.proofs.texts.accept_unit.Goals as goal

pub returns-in-Err-Fault-clause-fault : goal.returns-in-Err-Fault-clause-fault
returns-in-Err-Fault-clause-fault c =
    subst (MemoryOr (IsUnaccepted (Ok (parts_of c.args.unit.now)))) (sym c.form_fault.ensures) (form-fault c.args.unit.now.functions c.in-Err-Fault.fault (rw c.in-Err-Fault.field-0-is at c.in-Err-Fault.ensures.fault))

pub returns-in-Err-Fault-clause-names : goal.returns-in-Err-Fault-clause-names
returns-in-Err-Fault-clause-names c = λ texts some reads.
    subst (IsNamed (length texts)) (sym c.form_fault.ensures) (form-names texts (parts_of c.args.unit.now) c.in-Err-Fault.fault (rw c.in-Err-Fault.field-0-is at c.in-Err-Fault.ensures.line) some reads)
