use Rattle.st_print.proofs.Putting.{puts-then, puts-stop}
use Rattle.st_print.proofs.output.+put_pieces.Goals as goal

pub returns-in_err-put_all-in-Some : goal.returns-in_err-put_all-in-Some
returns-in_err-put_all-in-Some g t c = puts-stop _ _ c.in-Some.ensures.some c.from_residual.ensures.0 c.in_err-put_all-in-Some.ensures

pub returns-in_ok-put_all-in-Some : goal.returns-in_ok-put_all-in-Some
returns-in_ok-put_all-in-Some g t c = puts-then _ c.in-Some.ensures.some c.in_ok-put_all-in-Some.ensures c.put_pieces.ensures
