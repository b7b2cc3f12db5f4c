use Rattle.std.proofs.Common.{subst, sym}
use Rattle.std.specs.Prelude.{IfSome, IfNone}
use Rattle.st_check.specs.Acceptance.{HasUnitLines}
use Rattle.st_check.specs.Reads.{IsFirstTold, ReadsDefined}
use Rattle.st_check.proofs.Accepting.{none-faults, program-same, program-formed, read-refuses, unit-accepted, program-accepted}
use Rattle.st_check.proofs.Sizes.{unit-size}
use Rattle.st_check.proofs.ReadFaults.{told-first}
use Rattle.st_check.proofs.ItemOrder.{unit-order}
use Rattle.st_check.proofs.UnitLines.{least-line, read-line, program-lines}
use Rattle.st_check.proofs.accept.check.Goals as goal

pub first_read_fault-requires : goal.first_read_fault-requires
first_read_fault-requires c =
    let none = none-faults c.args.unit.now.functions _ c.in_ok-line.field-0 c.functions-functions.ensures c.in_ok-line.ensures c.in_default.is in
    let same = program-same c.args.unit.now.functions _ c.in_ok-program.program c.functions-functions.ensures c.in_ok-program.ensures in
    program-formed c.args.unit.now.functions c.args.unit.now.rodata c.in_ok-program.program c.args.unit.now.is_unit none same

pub returns-in-Some-2-clause-fault : goal.returns-in-Some-2-clause-fault
returns-in-Some-2-clause-fault c =
    let none = none-faults c.args.unit.now.functions _ c.in_ok-line.field-0 c.functions-functions.ensures c.in_ok-line.ensures c.in_default.is in
    let same = program-same c.args.unit.now.functions _ c.in_ok-program.program c.functions-functions.ensures c.in_ok-program.ensures in
    read-refuses c.args.unit.now.functions c.in_ok-program.program c.in-Some-2.fault none same
    (told-first c.in_ok-program.program c.in-Some-2.fault (unit-order c.args.unit.now.functions c.args.unit.now.rodata c.in_ok-program.program c.args.unit.now.is_unit same)
    (subst (λ o. IfSome o (IsFirstTold c.in_ok-program.program)) c.in-Some-2.is c.in_ok-fault.ensures.told))

pub returns-in-Some-clause-line : goal.returns-in-Some-clause-line
returns-in-Some-clause-line c =
    ∣ least-line c.args.unit.now.functions _ c.in_ok-line.field-0 c.in-Some.line c.in-Some.kind c.functions-functions.ensures c.in_ok-line.ensures c.in-Some.is ∣₁

pub returns-in-Some-2-clause-line : goal.returns-in-Some-2-clause-line
returns-in-Some-2-clause-line c =
    let same = program-same c.args.unit.now.functions _ c.in_ok-program.program c.functions-functions.ensures c.in_ok-program.ensures in
    ∣ read-line c.args.unit.now.functions c.in_ok-program.program c.in-Some-2.fault same
    (told-first c.in_ok-program.program c.in-Some-2.fault (unit-order c.args.unit.now.functions c.args.unit.now.rodata c.in_ok-program.program c.args.unit.now.is_unit same)
    (subst (λ o. IfSome o (IsFirstTold c.in_ok-program.program)) c.in-Some-2.is c.in_ok-fault.ensures.told)) ∣₁

pub invariant_of-result : goal.invariant_of-result
invariant_of-result c =
    let none = none-faults c.args.unit.now.functions _ c.in_ok-line.field-0 c.functions-functions.ensures c.in_ok-line.ensures c.in_default.is in
    let same = program-same c.args.unit.now.functions _ c.in_ok-program.program c.functions-functions.ensures c.in_ok-program.ensures in
    let reads = subst (λ o. IfNone o (ReadsDefined c.in_ok-program.program)) c.in_default-2.is c.in_ok-fault.ensures.none in
    record {
      is_accepted_unit = ∣ unit-accepted c.args.unit.now.functions c.in_ok-program.program none same reads ∣₁;
      is_program = ∣ same ∣₁;
      is_accepted = ∣ program-accepted c.args.unit.now.functions c.args.unit.now.rodata c.in_ok-program.program c.args.unit.now.is_unit none same reads ∣₁;
      has_size = unit-size c.args.unit.now.functions c.args.unit.now.rodata c.in_ok-program.program c.args.unit.now.is_unit none same;
      has_lines = ∣ subst (HasUnitLines c.args.unit.now.functions) (sym same) (program-lines c.args.unit.now.functions) ∣₁;
      has_order = unit-order c.args.unit.now.functions c.args.unit.now.rodata c.in_ok-program.program c.args.unit.now.is_unit same;
    }
