-- What is told is read off the postprocessed code, and what is assembled is the unchanged code.
use Rattle.std.proofs.Common.{◌∙◌, ap}
use Rattle.st_model.specs.declared.code.Layout.TheVariants.{Unchanged}
use Rattle.st_link.specs.Encoding.{told}
use Rattle.st_link.proofs.Assembled.{checked-told, checked-accepted, checked-encodable, checked-image, code-of}
use Rattle.st_link.proofs.FarLines.{first-far}
use Rattle.st_link.proofs.image.link_plain.Goals as goal

pub returns-in-Some-clause-fault : goal.returns-in-Some-clause-fault
returns-in-Some-clause-fault c =
    first-far c.args.checked.now.program c.in-Some.fault.line c.in-Some.fault.distance c.args.checked.now.has_order
    (checked-told c.args.checked.now c.in_ok-processed.processed c.as_slice.result.now c.first_far.result c.in_ok-processed.ensures c.as_slice.ensures c.first_far.ensures ∙ ap told c.in-Some.is)

pub assemble-requires : goal.assemble-requires
assemble-requires c =
    let none = checked-told c.args.checked.now c.in_ok-processed.processed c.as_slice.result.now c.first_far.result c.in_ok-processed.ensures c.as_slice.ensures c.first_far.ensures ∙ ap told c.in_default.is in
    checked-encodable Unchanged c.args.checked.now c.in_ok-code.code c.as_slice-2.result.now c.as_slice-3.result.now c.in_ok-code.ensures c.as_slice-2.ensures c.as_slice-3.ensures none

pub returns-clause-image : goal.returns-clause-image
returns-clause-image c =
    let none = checked-told c.args.checked.now c.in_ok-processed.processed c.as_slice.result.now c.first_far.result c.in_ok-processed.ensures c.as_slice.ensures c.first_far.ensures ∙ ap told c.in_default.is in
    checked-image Unchanged c.args.checked.now c.in_ok-code.code c.as_slice-2.result.now c.as_slice-3.result.now c.as_slice-4.result.now c.in_ok-image.image c.in_ok-code.ensures c.as_slice-2.ensures c.as_slice-3.ensures c.as_slice-4.ensures none c.in_ok-image.ensures

pub returns-clause-code : goal.returns-clause-code
returns-clause-code c = code-of Unchanged c.args.checked.now.program c.args.checked.now.unit.now.rodata c.in_ok-image.image (checked-accepted c.args.checked.now) (returns-clause-image c)
