-- The code that was posted is the program's, so what is told and assembled of it is what the layout says.
use Rattle.std.proofs.Common.{◌∙◌, ap, sym, subst}
use Rattle.st_check.specs.declared.accept.Checked.{Checked}
use Rattle.st_model.specs.declared.code.Layout.TheVariants.{Postprocessed}
use Rattle.st_link.specs.Encoding.{told, IsEncodable, IsAssembled}
use Rattle.st_link.proofs.Assembled.{checked-told, checked-accepted, checked-encodable, checked-image, code-of}
use Rattle.st_link.proofs.FarLines.{first-far}
use Rattle.st_link.proofs.image.link.Goals as goal

pub returns-in-Some-clause-fault : goal.returns-in-Some-clause-fault
returns-in-Some-clause-fault c =
    let posted = c.args.posted.now in
    first-far posted.checked.now.program c.in-Some.fault.line c.in-Some.fault.distance posted.checked.now.has_order
    (checked-told posted.checked.now posted.code c.functions.result.now c.first_far.result posted.is_code c.functions.ensures c.first_far.ensures ∙ ap told c.in-Some.is)

pub assemble-requires : goal.assemble-requires
assemble-requires c =
    let posted = c.args.posted.now in
    let none = checked-told posted.checked.now posted.code c.functions.result.now c.first_far.result posted.is_code c.functions.ensures c.first_far.ensures ∙ ap told c.in_default.is in
    subst (λ (k : Checked). IsEncodable c.functions-2.result.now c.rows.result.now k.program.main) (sym c.checked.ensures)
    (checked-encodable Postprocessed posted.checked.now posted.code c.functions-2.result.now c.rows.result.now posted.is_code c.functions-2.ensures c.rows.ensures none)

pub returns-clause-image : goal.returns-clause-image
returns-clause-image c =
    let posted = c.args.posted.now in
    let none = checked-told posted.checked.now posted.code c.functions.result.now c.first_far.result posted.is_code c.functions.ensures c.first_far.ensures ∙ ap told c.in_default.is in
    checked-image Postprocessed posted.checked.now posted.code c.functions-2.result.now c.rows.result.now c.forks.result.now c.in_ok-image.image posted.is_code c.functions-2.ensures c.rows.ensures c.forks.ensures none
    (subst (λ (k : Checked). IsAssembled c.functions-2.result.now c.rows.result.now c.forks.result.now k.unit.now.rodata k.program.main c.in_ok-image.image) c.checked.ensures c.in_ok-image.ensures)

pub returns-clause-code : goal.returns-clause-code
returns-clause-code c =
    let posted = c.args.posted.now in
    code-of Postprocessed posted.checked.now.program posted.checked.now.unit.now.rodata c.in_ok-image.image (checked-accepted posted.checked.now) (returns-clause-image c)
