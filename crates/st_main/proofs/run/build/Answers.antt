use Rattle.std.proofs.lemmas.Result.{err_from_is_err_and}
use Rattle.st_main.proofs.Answering.{link-refuses}
use Rattle.st_main.proofs.run.build.Goals as goal

pub returns-in_err-image-clause-fault : goal.returns-in_err-image-clause-fault
returns-in_err-image-clause-fault c =
    let p = err_from_is_err_and c.from_residual-in_err-image.result c.from_residual-in_err-image.ensures.1 in
    rw (p.1, p.2) (link-refuses _ c.in_ok-unit.unit c.in_ok-checked.checked _ c.in_ok-unit.ensures.unit c.in_ok-checked.ensures.unit c.in_err-image.ensures.fault)
