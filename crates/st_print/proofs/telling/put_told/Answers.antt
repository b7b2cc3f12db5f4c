use Rattle.std.proofs.Common.{refl}
use Rattle.st_print.proofs.Putting.{puts-then, puts-stop}
use Rattle.st_print.proofs.telling.put_told.Goals as goal

pub returns-in_err-put_line : goal.returns-in_err-put_line
returns-in_err-put_line g c = puts-stop _ _ refl c.from_residual.ensures.0 c.in_err-put_line.ensures

pub returns : goal.returns
returns g c = puts-then _ refl c.in_ok-put_line.ensures c.put_pieces.ensures
