use Rattle.std.proofs.lemmas.Result.{err_from_is_err_and}
use Rattle.st_main.proofs.Answering.{link-refuses, unit-listed}
use Rattle.st_main.proofs.post.post_texts.Goals as goal

pub returns-in_err-text-clause-fault : goal.returns-in_err-text-clause-fault
returns-in_err-text-clause-fault c =
    let p = err_from_is_err_and c.from_residual-in_err-text.result c.from_residual-in_err-text.ensures.1 in
    rw (p.1, p.2) (link-refuses _ c.in_ok-unit.unit c.in_ok-checked.checked _ c.in_ok-unit.ensures.unit c.in_ok-checked.ensures.unit c.in_err-text.ensures.fault)

pub returns-clause-text : goal.returns-clause-text
returns-clause-text c = unit-listed _ c.in_ok-unit.unit c.in_ok-checked.checked c.in_ok-text.text.items c.in_ok-unit.ensures.unit c.in_ok-checked.ensures.unit c.in_ok-text.ensures.text
