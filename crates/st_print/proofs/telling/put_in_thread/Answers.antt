use Rattle.std.proofs.Common.{refl}
use Rattle.st_print.proofs.Putting.{puts-then, puts-stop}
use Rattle.st_print.proofs.telling.put_in_thread.Goals as goal

pub returns-in_err-put_told : goal.returns-in_err-put_told
returns-in_err-put_told g c = puts-stop _ _ refl c.from_residual.ensures.0 c.in_err-put_told.ensures

pub returns : goal.returns
returns g c = puts-then _ refl c.in_ok-put_told.ensures c.put_path.ensures
